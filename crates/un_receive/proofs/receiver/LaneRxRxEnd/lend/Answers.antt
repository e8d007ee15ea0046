use Rattle.std.proofs.Common.{sym}
use Rattle.un_receive.proofs.EndLemmas.{lends}
use Rattle.un_receive.proofs.receiver.LaneRxRxEnd.lend.Goals as goal

pub returns-clause-some : goal.returns-clause-some
returns-clause-some g c =
    let part = rw c.bytes.ensures.bytes at c.in_ok-part.ensures.part in
    rw (← c.self.view_is) (lends c.self.inside c.in_ok-current.current.now c.in_ok-part.part.now c.self.invariant (sym c.in_ok-current.ensures.value) part)
