use Rattle.un_lane_tests.proofs.Refilled.{refilled_away}
use Rattle.un_lane_tests.proofs.receive_tests.receive.Goals as goal

pub arrive-requires-clause-away : goal.arrive-requires-clause-away
arrive-requires-clause-away g c =
    let away = refilled_away c.args.end.now c.refill.new.self c.in-Some.request c.prove_each_once.ensures.once c.in-Some.ensures.some in
    rw (c.stamp.ensures, c.push.ensures.bytes) (record { known = away.known; sized = away.sized; away = away.away })
