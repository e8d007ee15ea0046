use Rattle.std.proofs.Common.{refl}
use Rattle.un_text.proofs.Putting.{puts_then, puts_pending}
use Rattle.un_report.specs.Report.{delivered_line}
use Rattle.un_report.proofs.frames.put_frame.Goals as goal

pub returns : goal.returns
unfolding delivered_line
returns g c =
    puts_then _ _ _ _ _ _ _ _ _ _ _
    (puts_then _ _ _ _ _ _ _ _ _ _ _ (puts_pending _ _ _ _ _ c.reserve.new.self _ _ refl c.push_frame.ensures c.reserve.ensures.put) c.put_hex.ensures) c.put.ensures
