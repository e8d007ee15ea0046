use Rattle.un_check.proofs.MomentStops.{stop_is_one, done_stops_nowhere}
use Rattle.un_check.proofs.laws_moments.stop_is_one.Goals as goal

pub returns : goal.returns
returns c = record { one = stop_is_one; done = done_stops_nowhere }
