use Rattle.std.proofs.Common.{sym}
use Rattle.un_receive.proofs.EndLemmas.{current_out, finishes}
use Rattle.un_receive.proofs.receiver.LaneRxRxEnd.advance.Goals as goal

pub put-requires : goal.put-requires
put-requires g c = current_out c.self.inside c.self.invariant c.in-Some.current (sym c.in-Some.ensures.value)

pub invariant_of-self : goal.invariant_of-self
invariant_of-self g c = rw c.take.ensures.after (finishes c.self.inside c.self.invariant c.in-Some.current (sym c.in-Some.ensures.value) c.put.new.self c.put.ensures)
