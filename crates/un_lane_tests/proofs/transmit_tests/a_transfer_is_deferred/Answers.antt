use Rattle.un_endpoint.proofs.Moves.{made_away}
use Rattle.un_lane_tests.proofs.transmit_tests.a_transfer_is_deferred.Goals as goal

pub defer-requires-clause-away : goal.defer-requires-clause-away
defer-requires-clause-away g c = made_away c.in_ok-end.end c.offer.new.self _ _ _ c.in-Made.made c.prove_each_once.ensures.once c.in-Made.ensures
