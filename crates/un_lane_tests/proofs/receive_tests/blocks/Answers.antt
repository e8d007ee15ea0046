use Rattle.std.proofs.Common.{refl, arith}
use Rattle.un_frame.specs.NtbForm.{least_place, least_multiple}
use Rattle.un_lane_tests.proofs.receive_tests.blocks.Goals as goal

pub returns-clause-agree : goal.returns-clause-agree
unfolding least_place least_multiple
returns-clause-agree c = record { divisor = refl; remainder = omega arith; alignment = refl; largest = omega arith }
