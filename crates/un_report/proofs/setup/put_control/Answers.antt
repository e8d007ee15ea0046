use Rattle.std.proofs.Common.{refl}
use Rattle.un_text.proofs.Putting.{puts_then, puts_pending}
use Rattle.un_report.specs.Report.{control_line}
use Rattle.un_report.proofs.setup.put_control.Goals as goal

pub returns : goal.returns
unfolding control_line
returns g c =
    puts_then _ _ _ _ _ _ _ _ _ _ _
    (puts_then _ _ _ _ _ _ _ _ _ _ _ (puts_pending _ _ _ _ _ c.reserve.new.self _ _ refl c.push_setup.ensures c.reserve.ensures.put) (rw c.as_slice.ensures at c.put_payload.ensures)) c.put.ensures
