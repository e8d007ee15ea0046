use Rattle.std.proofs.Common.{refl, sym, ◌≡◌, ◌∙◌, ap, subst, ◌∷◌, []}
use Rattle.un_journal.specs.Script.{planned}
use Rattle.un_journal.specs.Step.{Work}
use Rattle.un_journal.specs.LaneSteps.{land_fault}
use Rattle.un_journal.specs.History.{past}
use Rattle.un_link.specs.Flights.{LaneTrip, flight_of, path_flights}
use Rattle.un_link.proofs.Working.{plain_goes, plain_ready}
use Rattle.un_link.proofs.Takings.{land_is, out_parts}
use Rattle.un_link.proofs.half.Half.land.Goals as goal

pub land-requires-clause-ready : goal.land-requires-clause-ready
land-requires-clause-ready g c =
    let old = c.args.self.now.path in
    let shared = c.args.shared.now in
    let f : LaneTrip = record { lane = c.flight.inside.lane; trip = c.flight.inside.carried } in
    let there : path_flights old shared.journal ≡ flight_of f ∷ [] = subst (λ (f : LaneTrip). path_flights old shared.journal ≡ flight_of f ∷ []) (sym c.flight.view_is) c.requires.out in
    let at : old.lane ≡ f.lane = subst (λ (f : LaneTrip). old.lane ≡ f.lane) (sym c.flight.view_is) c.requires.lane in
    let out = out_parts old.lane (past old.lane shared.journal.history) f old.bus.flight there in
    let fault = c.fault-planned.ensures ∙ (ap (planned shared.script f.lane) c.serial.ensures ∙ ap (λ l. planned shared.script l f.trip.tx.serial) (sym at)) in
    let same = ap (λ o. land_fault old.lane o (past old.lane shared.journal.history)) fault ∙ sym (land_is shared.script shared.phase old shared.journal.history f c.requires.ready.kept.keeps out.0) in
    plain_ready (Work.Land old.lane) _ shared c.args.self.now c.requires.ready same

pub returns : goal.returns
returns g c =
    let d = c.land.ensures in
    let old = c.args.self.now.path in
    let shared = c.args.shared.now in
    let f : LaneTrip = record { lane = c.flight.inside.lane; trip = c.flight.inside.carried } in
    let there : path_flights old shared.journal ≡ flight_of f ∷ [] = subst (λ (f : LaneTrip). path_flights old shared.journal ≡ flight_of f ∷ []) (sym c.flight.view_is) c.requires.out in
    let at : old.lane ≡ f.lane = subst (λ (f : LaneTrip). old.lane ≡ f.lane) (sym c.flight.view_is) c.requires.lane in
    let out = out_parts old.lane (past old.lane shared.journal.history) f old.bus.flight there in
    let fault = c.fault-planned.ensures ∙ (ap (planned shared.script f.lane) c.serial.ensures ∙ ap (λ l. planned shared.script l f.trip.tx.serial) (sym at)) in
    let same = ap (λ o. land_fault old.lane o (past old.lane shared.journal.history)) fault ∙ sym (land_is shared.script shared.phase old shared.journal.history f c.requires.ready.kept.keeps out.0) in
    record {
      goes = plain_goes (Work.Land old.lane) _ shared c.args.self.now c.land.new.self c.land.new.journal refl refl c.requires.ready.kept same d.lines d.stands d.leaves;
      none_out = d.flight;
    }
