use Rattle.un_receive.proofs.EndLemmas.{arrives, room}
use Rattle.un_receive.proofs.receiver.LaneRxRxEnd.arrive.Goals as goal

pub push-requires : goal.push-requires
push-requires g c = let away = rw (← c.self.view_is) at c.requires.away in room c.self.inside c.self.invariant c.args.request away

pub invariant_of-self : goal.invariant_of-self
invariant_of-self g c =
    let away = rw (← c.self.view_is) at c.requires.away in
    let whole = rw (← c.self.view_is) at c.requires.whole in
    arrives c.self.inside c.self.invariant c.push.new.self c.args.request away whole c.push.ensures
