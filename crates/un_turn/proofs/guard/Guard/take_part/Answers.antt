use Rattle.std.proofs.Common.{ap, ◌∙◌, subst}
use Rattle.un_turn.specs.Views.{KeepsMachine}
use Rattle.un_turn.proofs.Kept.{kept_taken}
use Rattle.un_turn.proofs.guard.Guard.take_part.Goals as goal

pub invariant_of-self : goal.invariant_of-self
invariant_of-self g c =
    let K = g.M.Machine in
    let i = c.self.invariant in
    let h = c.self.inside in
    let e = c.take_part.ensures in
    let kept = subst (KeepsMachine K.script K.history K.flights h.token.me.0 h.machine) (ap (λ x. x.called) c.self.view_is ∙ c.requires) i.3 in
    (i.0, i.1, i.2, kept_taken K.script K.history K.flights h.token.me.0 h.machine c.take_part.new.self kept e.script _ e.history K.flight_of _ _ e.taken)
