use Rattle.un_check.proofs.MomentStops.{step_stops, none_begins, restless_stops, orders_left_stop}
use Rattle.un_check.proofs.laws_moments.readings_stop.Goals as goal

pub returns : goal.returns
returns c = record {
  inside = step_stops;
  before = none_begins;
  restless = restless_stops;
  orders_left = orders_left_stop;
}
