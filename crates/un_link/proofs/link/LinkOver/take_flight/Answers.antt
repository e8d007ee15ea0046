use Rattle.std.proofs.Common.{◌≡◌, ◌++◌, sym, ap, ◌∙◌, subst, Some}
use Rattle.un_frame.specs.declared.params.Lane.TheVariants.{Outward, Inward}
use Rattle.un_journal.specs.Step.{Work}
use Rattle.un_link.specs.declared.shared.Shared.{Shared}
use Rattle.un_link.specs.Flights.{taken_lines}
use Rattle.un_link.proofs.Holding.{half_ready, half_holds, half_refused}
use Rattle.un_link.proofs.Flights.{half_takes, takes}
use Rattle.un_link.proofs.link.LinkOver.take_flight.Goals as goal

pub take-requires-clause-ready : goal.take-requires-clause-ready
take-requires-clause-ready g c = half_ready Outward _ _ c.self.invariant

pub invariant_of-self : goal.invariant_of-self
invariant_of-self g c = half_holds Outward _ (Work.Take c.self.inside.out.path.lane) _ _ c.self.invariant (ap Some c.self.invariant.out_lane) c.take.ensures.goes

pub returns-in-Outward-clause-taken : goal.returns-in-Outward-clause-taken
returns-in-Outward-clause-taken g c = rw (← c.self.view_is, c.in-Outward.is) (takes Outward _ _ c.take.result (half_takes Outward _ c.take.new.shared c.take.new.self c.take.result c.self.invariant c.take.ensures))

pub returns-in-Outward-clause-lanes : goal.returns-in-Outward-clause-lanes
returns-in-Outward-clause-lanes g c = rw (← c.self.view_is, c.in-Outward.is) (half_takes Outward _ c.take.new.shared c.take.new.self c.take.result c.self.invariant c.take.ensures)

pub returns-in-Outward-clause-refused : goal.returns-in-Outward-clause-refused
returns-in-Outward-clause-refused g c = rw (← c.self.view_is) (half_refused Outward _ c.take.new.shared c.take.new.self c.take.result c.take.ensures.unchanged)

pub take-requires-in-Inward-clause-ready : goal.take-requires-in-Inward-clause-ready
take-requires-in-Inward-clause-ready g c = half_ready Inward _ _ c.self.invariant

pub invariant_of-self-in-Inward : goal.invariant_of-self-in-Inward
invariant_of-self-in-Inward g c = half_holds Inward _ (Work.Take c.self.inside.inward.path.lane) _ _ c.self.invariant (ap Some c.self.invariant.in_lane) c.take-in-Inward.ensures.goes

pub returns-in-Inward-clause-taken : goal.returns-in-Inward-clause-taken
returns-in-Inward-clause-taken g c = rw (← c.self.view_is, c.in-Inward.is) (takes Inward _ _ c.take-in-Inward.result (half_takes Inward _ c.take-in-Inward.new.shared c.take-in-Inward.new.self c.take-in-Inward.result c.self.invariant c.take-in-Inward.ensures))

pub returns-in-Inward-clause-lanes : goal.returns-in-Inward-clause-lanes
returns-in-Inward-clause-lanes g c = rw (← c.self.view_is, c.in-Inward.is) (half_takes Inward _ c.take-in-Inward.new.shared c.take-in-Inward.new.self c.take-in-Inward.result c.self.invariant c.take-in-Inward.ensures)

pub returns-in-Inward-clause-refused : goal.returns-in-Inward-clause-refused
returns-in-Inward-clause-refused g c = rw (← c.self.view_is) (half_refused Inward _ c.take-in-Inward.new.shared c.take-in-Inward.new.self c.take-in-Inward.result c.take-in-Inward.ensures.unchanged)

pub returns-in-Outward-clause-script : goal.returns-in-Outward-clause-script
returns-in-Outward-clause-script g c = rw (← c.self.view_is) (ap (λ (s : Shared). s.script) c.take.ensures.goes.shares)

pub returns-in-Outward-clause-history : goal.returns-in-Outward-clause-history
returns-in-Outward-clause-history g c =
    rw (← c.self.view_is)
    (subst (λ l. c.take.new.shared.journal.history ≡ c.self.inside.shared.journal.history ++ taken_lines c.self.inside.shared.script c.self.inside.shared.journal.history l) (c.self.invariant.out_lane ∙ sym c.in-Outward.is) c.take.ensures.goes.adds.history_is)

pub returns-in-Inward-clause-script : goal.returns-in-Inward-clause-script
returns-in-Inward-clause-script g c = rw (← c.self.view_is) (ap (λ (s : Shared). s.script) c.take-in-Inward.ensures.goes.shares)

pub returns-in-Inward-clause-history : goal.returns-in-Inward-clause-history
returns-in-Inward-clause-history g c =
    rw (← c.self.view_is)
    (subst (λ l. c.take-in-Inward.new.shared.journal.history ≡ c.self.inside.shared.journal.history ++ taken_lines c.self.inside.shared.script c.self.inside.shared.journal.history l) (c.self.invariant.in_lane ∙ sym c.in-Inward.is) c.take-in-Inward.ensures.goes.adds.history_is)
