use Rattle.un_text.proofs.Putting.{puts_then}
use Rattle.un_report.specs.Report.{notify_line}
use Rattle.un_report.proofs.setup.put_note.Goals as goal

pub returns : goal.returns
unfolding notify_line
returns g c = puts_then _ _ _ _ _ _ _ _ _ _ _ (puts_then _ _ _ _ _ _ _ _ _ _ _ c.put.ensures c.put_hex.ensures) c.put-2.ensures
