use Rattle.std.proofs.Common.{ap, Some, sym, ◌∙◌, subst}
use Rattle.un_frame.specs.declared.params.Lane.TheVariants.{Outward, Inward}
use Rattle.un_link.specs.Halves.{Does, work_of}
use Rattle.un_link.proofs.Holding.{half_ready, half_holds, half_steps, acts_lane}
use Rattle.un_link.proofs.link.LinkOver.lane_work.Goals as goal

pub perform-requires-clause-own : goal.perform-requires-clause-own
perform-requires-clause-own g c = c.requires ∙ ap Some (c.in-Outward.is ∙ sym c.self.invariant.out_lane)

pub perform-requires-clause-ready : goal.perform-requires-clause-ready
perform-requires-clause-ready g c = half_ready Outward _ _ c.self.invariant

pub perform-requires-in-Inward-clause-own : goal.perform-requires-in-Inward-clause-own
perform-requires-in-Inward-clause-own g c = c.requires ∙ ap Some (c.in-Inward.is ∙ sym c.self.invariant.in_lane)

pub perform-requires-in-Inward-clause-ready : goal.perform-requires-in-Inward-clause-ready
perform-requires-in-Inward-clause-ready g c = half_ready Inward _ _ c.self.invariant

pub invariant_of-self : goal.invariant_of-self
invariant_of-self g c = half_holds Outward _ _ _ _ c.self.invariant (acts_lane _ _ c.args.action c.requires ∙ ap Some c.self.invariant.out_lane) c.perform.ensures.goes

pub invariant_of-self-in-Inward : goal.invariant_of-self-in-Inward
invariant_of-self-in-Inward g c = half_holds Inward _ _ _ _ c.self.invariant (acts_lane _ _ c.args.action c.requires ∙ ap Some c.self.invariant.in_lane) c.perform-in-Inward.ensures.goes

pub returns-in-Outward : goal.returns-in-Outward
returns-in-Outward g c =
    let d = subst (λ l. Does (work_of l c.args.action) c.self.inside.shared c.perform.new.shared c.self.inside.out c.perform.new.self c.perform.result) c.self.invariant.out_lane c.perform.ensures in
    rw (← c.self.view_is, c.in-Outward.is) (half_steps Outward _ _ _ _ _ c.self.invariant (acts_lane Outward _ c.args.action c.requires) d)

pub returns-in-Inward : goal.returns-in-Inward
returns-in-Inward g c =
    let d = subst (λ l. Does (work_of l c.args.action) c.self.inside.shared c.perform-in-Inward.new.shared c.self.inside.inward c.perform-in-Inward.new.self c.perform-in-Inward.result) c.self.invariant.in_lane c.perform-in-Inward.ensures in
    rw (← c.self.view_is, c.in-Inward.is) (half_steps Inward _ _ _ _ _ c.self.invariant (acts_lane Inward _ c.args.action c.requires) d)
