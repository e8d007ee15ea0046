use Rattle.un_text.proofs.Putting.{puts_then}
use Rattle.un_report.specs.Report.{report}
use Rattle.un_report.proofs.writer.put_report.Goals as goal

pub returns : goal.returns
unfolding report
returns g c =
    let e = c.go_over-found.ensures in
    rw (← e.outward, ← e.inward, ← e.phase) (puts_then _ _ _ _ _ _ _ _ _ _ _ (puts_then _ _ _ _ _ _ _ _ _ _ _ c.put_setup.ensures c.put_lanes.ensures) c.put_last.ensures)
