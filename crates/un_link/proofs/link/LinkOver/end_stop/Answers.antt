use Rattle.un_link.proofs.Settling.{settle_room, settle_holds, settle_steps, four_homes}
use Rattle.un_link.proofs.link.LinkOver.end_stop.Goals as goal

pub push-requires-clause-lines : goal.push-requires-clause-lines
push-requires-clause-lines g c = settle_room _ c.self.invariant (rw (← c.self.view_is) at c.requires)

pub invariant_of-self : goal.invariant_of-self
invariant_of-self g c =
    let p = c.push.ensures in
    let homes = four_homes _ _ _ _ _ c.self.invariant c.homes-tx_out.ensures.lines c.homes-tx_in.ensures.lines in
    rw c.phase_settled-phase.ensures
    (settle_holds _ c.self.invariant (rw (← c.self.view_is) at c.requires) _ _ _ _ homes c.push.new.self p.history p.lines p.bytes c.settle.new.self c.settle-2.new.self c.settle.ensures.now c.settle-2.ensures.now c.settle.ensures.stands c.settle-2.ensures.stands)

pub returns : goal.returns
returns g c =
    let p = c.push.ensures in
    let homes = four_homes _ _ _ _ _ c.self.invariant c.homes-tx_out.ensures.lines c.homes-tx_in.ensures.lines in
    rw (← c.self.view_is, c.phase_settled-phase.ensures)
    (settle_steps _ c.self.invariant (rw (← c.self.view_is) at c.requires) _ _ _ _ homes c.push.new.self p.history p.lines p.bytes c.settle.new.self c.settle-2.new.self c.settle.ensures.now c.settle-2.ensures.now c.settle.ensures.stands c.settle-2.ensures.stands)
