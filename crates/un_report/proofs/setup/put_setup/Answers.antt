use Rattle.std.proofs.Common.{refl}
use Rattle.un_text.proofs.Putting.{puts_then, puts_pending}
use Rattle.un_report.specs.Report.{set_up}
use Rattle.un_report.proofs.setup.put_setup.Goals as goal

pub returns : goal.returns
unfolding set_up
returns g c =
    puts_then _ _ _ _ _ _ _ _ _ _ _
    (puts_then _ _ _ _ _ _ _ _ _ _ _ (puts_pending _ _ _ _ _ c.reserve.new.self _ _ refl c.push_opening.ensures c.reserve.ensures.put) (rw c.as_slice.ensures at c.put_controls.ensures)) (rw c.as_slice-2.ensures at c.put_notes.ensures)
