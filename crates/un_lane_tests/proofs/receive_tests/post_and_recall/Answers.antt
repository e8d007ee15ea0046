use Rattle.un_lane_tests.proofs.Refilled.{refilled_away}
use Rattle.un_lane_tests.proofs.receive_tests.post_and_recall.Goals as goal

pub give_back-requires : goal.give_back-requires
give_back-requires g c = refilled_away c.args.end.now c.refill.new.self c.in-Some.request c.prove_each_once.ensures.once c.in-Some.ensures.some
