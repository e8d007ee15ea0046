use Rattle.un_receive.proofs.EndLemmas.{refilled}
use Rattle.un_receive.proofs.receiver.LaneRxRxEnd.refill.Goals as goal

pub invariant_of-self : goal.invariant_of-self
invariant_of-self g c = refilled c.self.inside c.self.invariant c.take.new.self c.take.result c.take.ensures.some c.take.ensures.none
