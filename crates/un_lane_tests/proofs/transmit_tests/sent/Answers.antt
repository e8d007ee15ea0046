use Rattle.std.proofs.Common.{arith}
use Rattle.un_endpoint.proofs.Moves.{made_away}
use Rattle.un_lane_tests.proofs.transmit_tests.sent.Goals as goal

pub offer-requires-clause-next : goal.offer-requires-clause-next
offer-requires-clause-next g c = λ some. let none = rw c.requires.nothing at some in absurd (omega (arith, none))

pub finish-requires : goal.finish-requires
finish-requires g c = made_away c.args.end.now c.offer.new.self _ _ _ c.in-Made.made c.prove_each_once.ensures.once c.in-Made.ensures
