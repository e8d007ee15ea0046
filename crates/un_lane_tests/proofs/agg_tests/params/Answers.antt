use Rattle.std.proofs.Common.{refl, arith}
use Rattle.un_frame.specs.NtbForm.{least_place, least_multiple}
use Rattle.un_lane_tests.proofs.agg_tests.params.Goals as goal

pub returns-clause-agree : goal.returns-clause-agree
unfolding least_place least_multiple
returns-clause-agree c = rw c.of_class.ensures.defaults (record { divisor = refl; remainder = omega arith; alignment = refl; largest = omega arith })
