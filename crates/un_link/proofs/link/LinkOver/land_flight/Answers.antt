use Rattle.std.proofs.Common.{ap, Some, sym, ◌≡◌, ◌++◌, ◌∙◌, subst, ◌∷◌, []}
use Rattle.un_frame.specs.declared.params.Lane.TheVariants.{Outward, Inward}
use Rattle.un_journal.specs.History.{past}
use Rattle.un_journal.specs.Step.{Work, work}
use Rattle.un_journal.specs.LaneSteps.{lines_in}
use Rattle.un_link.specs.declared.shared.Shared.{Shared}
use Rattle.un_link.specs.Link.{lane_flights}
use Rattle.un_link.specs.Flights.{LaneTrip, flight_of, flights_in}
use Rattle.un_link.proofs.Holding.{half_ready, half_holds}
use Rattle.un_link.proofs.Flights.{half_lands, is_only, loses}
use Rattle.un_link.proofs.link.LinkOver.land_flight.Goals as goal

pub land-requires-clause-ready : goal.land-requires-clause-ready
land-requires-clause-ready g c = half_ready Outward _ _ c.self.invariant

pub land-requires-clause-out : goal.land-requires-clause-out
land-requires-clause-out g c =
    let at = ap (λ (f : LaneTrip). f.lane) (sym c.carried.view_is) ∙ c.in-Outward.is in
    let there = subst (λ k. flights_in Outward k ≡ flight_of c.args.carried ∷ []) (sym c.self.view_is) (is_only (flight_of c.args.carried) Outward c.args.self.now at c.requires) in
    subst (λ l. lane_flights l (past l c.self.inside.shared.journal.history) c.self.inside.out.path.bus.flight ≡ flight_of c.args.carried ∷ []) (sym c.self.invariant.out_lane) there

pub invariant_of-self : goal.invariant_of-self
invariant_of-self g c = half_holds Outward _ (Work.Land c.self.inside.out.path.lane) _ _ c.self.invariant (ap Some c.self.invariant.out_lane) c.land.ensures.goes

pub returns-in-Outward-clause-flights : goal.returns-in-Outward-clause-flights
returns-in-Outward-clause-flights g c =
    let at = ap (λ (f : LaneTrip). f.lane) (sym c.carried.view_is) ∙ c.in-Outward.is in
    let one = is_only (flight_of c.args.carried) Outward c.args.self.now at c.requires in
    rw (← c.self.view_is) (loses (flight_of c.args.carried) Outward _ _ (subst (λ k. flights_in Outward k ≡ flight_of c.args.carried ∷ []) (sym c.self.view_is) one) (half_lands Outward _ c.land.new.shared c.land.new.self c.self.invariant c.land.ensures))

pub returns-in-Outward-clause-lanes : goal.returns-in-Outward-clause-lanes
returns-in-Outward-clause-lanes g c =
    let at = ap (λ (f : LaneTrip). f.lane) (sym c.carried.view_is) ∙ c.in-Outward.is in
    rw (← c.self.view_is, at) (half_lands Outward _ c.land.new.shared c.land.new.self c.self.invariant c.land.ensures)

pub land-requires-in-Inward-clause-ready : goal.land-requires-in-Inward-clause-ready
land-requires-in-Inward-clause-ready g c = half_ready Inward _ _ c.self.invariant

pub land-requires-in-Inward-clause-out : goal.land-requires-in-Inward-clause-out
land-requires-in-Inward-clause-out g c =
    let at = ap (λ (f : LaneTrip). f.lane) (sym c.carried.view_is) ∙ c.in-Inward.is in
    let there = subst (λ k. flights_in Inward k ≡ flight_of c.args.carried ∷ []) (sym c.self.view_is) (is_only (flight_of c.args.carried) Inward c.args.self.now at c.requires) in
    subst (λ l. lane_flights l (past l c.self.inside.shared.journal.history) c.self.inside.inward.path.bus.flight ≡ flight_of c.args.carried ∷ []) (sym c.self.invariant.in_lane) there

pub invariant_of-self-in-Inward : goal.invariant_of-self-in-Inward
invariant_of-self-in-Inward g c = half_holds Inward _ (Work.Land c.self.inside.inward.path.lane) _ _ c.self.invariant (ap Some c.self.invariant.in_lane) c.land-in-Inward.ensures.goes

pub returns-in-Inward-clause-flights : goal.returns-in-Inward-clause-flights
returns-in-Inward-clause-flights g c =
    let at = ap (λ (f : LaneTrip). f.lane) (sym c.carried.view_is) ∙ c.in-Inward.is in
    let one = is_only (flight_of c.args.carried) Inward c.args.self.now at c.requires in
    rw (← c.self.view_is) (loses (flight_of c.args.carried) Inward _ _ (subst (λ k. flights_in Inward k ≡ flight_of c.args.carried ∷ []) (sym c.self.view_is) one) (half_lands Inward _ c.land-in-Inward.new.shared c.land-in-Inward.new.self c.self.invariant c.land-in-Inward.ensures))

pub returns-in-Inward-clause-lanes : goal.returns-in-Inward-clause-lanes
returns-in-Inward-clause-lanes g c =
    let at = ap (λ (f : LaneTrip). f.lane) (sym c.carried.view_is) ∙ c.in-Inward.is in
    rw (← c.self.view_is, at) (half_lands Inward _ c.land-in-Inward.new.shared c.land-in-Inward.new.self c.self.invariant c.land-in-Inward.ensures)

pub returns-in-Outward-clause-script : goal.returns-in-Outward-clause-script
returns-in-Outward-clause-script g c = rw (← c.self.view_is) (ap (λ (s : Shared). s.script) c.land.ensures.goes.shares)

pub returns-in-Outward-clause-history : goal.returns-in-Outward-clause-history
returns-in-Outward-clause-history g c =
    let at = ap (λ (f : LaneTrip). f.lane) (sym c.carried.view_is) ∙ c.in-Outward.is in
    rw (← c.self.view_is)
    (subst (λ l. c.land.new.shared.journal.history ≡ c.self.inside.shared.journal.history ++ lines_in (work c.self.inside.shared.script c.self.inside.shared.journal.history (Work.Land l))) (c.self.invariant.out_lane ∙ sym at) c.land.ensures.goes.adds.history_is)

pub returns-in-Inward-clause-script : goal.returns-in-Inward-clause-script
returns-in-Inward-clause-script g c = rw (← c.self.view_is) (ap (λ (s : Shared). s.script) c.land-in-Inward.ensures.goes.shares)

pub returns-in-Inward-clause-history : goal.returns-in-Inward-clause-history
returns-in-Inward-clause-history g c =
    let at = ap (λ (f : LaneTrip). f.lane) (sym c.carried.view_is) ∙ c.in-Inward.is in
    rw (← c.self.view_is)
    (subst (λ l. c.land-in-Inward.new.shared.journal.history ≡ c.self.inside.shared.journal.history ++ lines_in (work c.self.inside.shared.script c.self.inside.shared.journal.history (Work.Land l))) (c.self.invariant.in_lane ∙ sym at) c.land-in-Inward.ensures.goes.adds.history_is)
