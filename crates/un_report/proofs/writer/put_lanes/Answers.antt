use Rattle.un_text.proofs.Putting.{puts_then}
use Rattle.un_report.specs.Report.{lanes}
use Rattle.un_report.proofs.writer.put_lanes.Goals as goal

pub returns : goal.returns
unfolding lanes
returns g c = puts_then _ _ _ _ _ _ _ _ _ _ _ c.put_lane.ensures c.put_lane-2.ensures
