use Rattle.std.proofs.Common.{sym, ◌∙◌}
use Rattle.un_receive.proofs.EndLemmas.{none_now, opens, whole}
use Rattle.un_receive.proofs.receiver.LaneRxRxEnd.rx_done.Goals as goal

pub open-requires : goal.open-requires
open-requires g c = whole c.self.inside c.self.invariant c.pop.new.self c.in_ok-request.request (none_now c.self.inside.current (sym c.is_some.ensures ∙ c.if-is_some.false)) c.in_ok-request.ensures.some

pub invariant_of-self-2 : goal.invariant_of-self-2
invariant_of-self-2 g c =
    opens c.self.inside c.self.invariant c.pop.new.self c.in_ok-request.request c.open.result (none_now c.self.inside.current (sym c.is_some.ensures ∙ c.if-is_some.false)) c.in_ok-request.ensures.some c.open.ensures.request
    c.open.ensures.reading
