use Rattle.std.proofs.Common.{refl}
use Rattle.un_text.proofs.Putting.{puts_then, puts_pending}
use Rattle.un_report.specs.Report.{lane_part}
use Rattle.un_report.proofs.frames.put_lane.Goals as goal

pub returns : goal.returns
unfolding lane_part
returns g c = rw (← c.fed.ensures) (puts_then _ _ _ _ _ _ _ _ _ _ _ (puts_pending _ _ _ _ _ c.reserve.new.self _ _ refl c.push_lane.ensures c.reserve.ensures.put) c.put_frames.ensures)
