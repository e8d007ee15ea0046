use Rattle.un_receive.proofs.EndLemmas.{started}
use Rattle.un_receive.proofs.receiver.LaneRx.make.Goals as goal

pub invariant_of-result : goal.invariant_of-result
invariant_of-result g c =
    started c.LANE.result c.args.params.now c.in_ok-codec.codec c.size_of-size.result c.capacity.result c.in_ok-pool.pool c.in_ok-arrived.arrived
    c.in_ok-codec.ensures c.size_of-size.ensures.size c.capacity.ensures c.in_ok-pool.ensures c.in_ok-arrived.ensures
