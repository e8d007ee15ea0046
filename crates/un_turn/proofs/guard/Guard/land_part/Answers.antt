use Rattle.std.proofs.Common.{◌<◌, sym, ap, ◌∙◌, subst}
use Rattle.un_journal.specs.Flights.{times}
use Rattle.un_turn.specs.Views.{KeepsMachine}
use Rattle.un_turn.proofs.Kept.{kept_landed}
use Rattle.un_turn.proofs.guard.Guard.land_part.Goals as goal

pub invariant_of-self : goal.invariant_of-self
invariant_of-self g c =
    let K = g.M.Machine in
    let i = c.self.invariant in
    let h = c.self.inside in
    let e = c.land_part.ensures in
    let r = K.carried_flight_of c.args.done in
    let kept = subst (KeepsMachine K.script K.history K.flights h.token.me.0 h.machine) (ap (λ x. x.called) c.self.view_is ∙ c.requires.once) i.3 in
    let knows = subst (λ l. 0 < times r l) (sym (ap (λ x. x.view.known) c.self.view_is)) c.requires.known in
    (i.0, i.1, i.2, kept_landed K.script K.history K.flights h.token.me.0 h.machine c.land_part.new.self kept e.script _ e.history r knows e.flights)
