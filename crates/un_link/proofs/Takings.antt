-- A half after a take, and what its landing is.
use Rattle.std.proofs.Common.{◌≡◌, ℕ, Bool, List, [], ◌∷◌, map, Option, Some, None, refl, sym, ap, ◌∙◌, subst}
use Rattle.un_frame.specs.declared.params.Lane.{Lane}
use Rattle.un_frame.specs.declared.kinds.Phase.{Phase}
use Rattle.un_endpoint.specs.declared.record.FlightRecord.{FlightRecord}
use Rattle.un_endpoint.specs.Bus.{Trip, record_of}
use Rattle.un_journal.specs.declared.actions.Answer.{Answer}
use Rattle.un_journal.specs.declared.machine.FlightKey.{FlightKey}
use Rattle.un_journal.specs.declared.got.Got.TheVariants.{Part, Cut, Not}
use Rattle.un_journal.specs.declared.lines.Line.TheVariants.{Flying, Cut as CutLine}
use Rattle.un_journal.specs.Script.{Script, planned}
use Rattle.un_journal.specs.History.{History, past, made_bytes, flying}
use Rattle.un_journal.specs.Log.{Log}
use Rattle.un_journal.specs.Lookup.{is_asleep, phase_of, queued}
use Rattle.un_journal.specs.LaneSteps.{Writes, lines_in, bare, take_with, take_queued, land_with, land_fault}
use Rattle.un_journal.specs.Step.{Work, work, land_from}
use Rattle.un_journal.proofs.ForLink.{onto}
use Rattle.un_lane.specs.Way.{Way}
use Rattle.un_lane.specs.Stands.{flight_serial, serial_of}
use Rattle.un_lane.specs.Answered.{Answered, IsUnchanged}
use Rattle.un_lane.proofs.Lookups.{queued_is}
use Rattle.un_link.specs.declared.half.Half.{Half}
use Rattle.un_link.specs.declared.shared.Shared.{Shared}
use Rattle.un_link.specs.Keeps.{Keeps}
use Rattle.un_link.specs.Halves.{HalfKeeps, Goes}
use Rattle.un_link.specs.Link.{flight_in, lane_flights}
use Rattle.un_link.specs.Flights.{LaneTrip, flight_of, got_outcome, TakesOut}
use Rattle.un_link.proofs.Holding.{is_worked, own_flights}
use Rattle.un_link.proofs.Unchanged.{half_same}

-- FLIGHTS OF A PATH

-- nothing flies
pub none_out : (lane : Lane) (g : History) (o : Option FlightRecord) → flight_serial o ≡ [] → lane_flights lane g o ≡ []
none_out lane g None e = refl
none_out lane g (Some f) e = absurd (cc)

-- a flight with the bytes of its made line
pub out_is : (lane : Lane) (g : History) (f : LaneTrip) → f.lane ≡ lane → made_bytes g f.trip.tx.serial ≡ f.trip.tx.bytes → lane_flights lane g (Some (record_of f.trip)) ≡ flight_of f ∷ []
out_is lane g f l b = rw (← l, b) refl

abbrev record_in : FlightKey → FlightRecord
record_in f = record {
  serial = f.transfer.serial;
  from = f.transfer.from;
  to = f.transfer.to;
  tx = f.tx;
  tx_capacity = f.tx_capacity;
  rx = f.rx;
  rx_capacity = f.rx_capacity;
}

abbrev first_or : FlightKey → List FlightKey → FlightKey
first_or d [] = d
first_or d (x ∷ xs) = x

-- and the other way: the endpoint's flight is this one, which has the bytes of its made line
pub out_parts : (lane : Lane) (g : History) (f : LaneTrip) (o : Option FlightRecord) → lane_flights lane g o ≡ flight_of f ∷ []
    → (o ≡ Some (record_of f.trip)) × (made_bytes g f.trip.tx.serial ≡ f.trip.tx.bytes)
out_parts lane g f None e = absurd (cc)
out_parts lane g f (Some r) e =
    let same : flight_in lane g r ≡ flight_of f = ap (first_or (flight_of f)) e in
    let serial : r.serial ≡ f.trip.tx.serial = ap (λ x. x.transfer.serial) same in
    (ap (λ x. Some (record_in x)) same, subst (λ k. made_bytes g k ≡ f.trip.tx.bytes) serial (ap (λ x. x.transfer.bytes) same))

-- TAKE

-- a path's take is the link's
pub take_is : (script : Script) (phase : Phase) (way : Way) (h : History) → Keeps script phase way (past way.lane h) → phase ≡ phase_of script h
    → work script h (Work.Take way.lane) ≡ take_queued (is_asleep phase) way.lane (past way.lane h) (map serial_of way.bus.queue)
take_is script phase way h k e =
    subst (λ p. take_queued (is_asleep p) way.lane (past way.lane h) (queued p way.lane (past way.lane h)) ≡ take_queued (is_asleep phase) way.lane (past way.lane h) (map serial_of way.bus.queue)) e
    (ap (take_queued (is_asleep phase) way.lane (past way.lane h)) (queued_is phase way (past way.lane h) k.stands k.agrees))

taking_none : (asleep : Bool) (lane : Lane) (g : History) (queue ks : List ℕ) (lines : History) → take_with asleep lane g queue ks ≡ Writes lines → ks ≡ []
taking_none asleep lane g queue [] lines e = refl
taking_none asleep lane g queue (k ∷ ks) lines e = absurd (cc)

-- where a take writes nothing flies
was_none : {T R : Type 0} (shared : Shared) (half : Half T R) (lines : History) → HalfKeeps shared half → work shared.script shared.journal.history (Work.Take half.path.lane) ≡ Writes lines → flight_serial half.path.bus.flight ≡ []
was_none shared half lines k e = sym k.keeps.stands.queues.fly ∙ taking_none _ _ (past half.path.lane shared.journal.history) _ (flying (past half.path.lane shared.journal.history)) lines e

module _ {T R : Type 0} (shared : Shared) (half : Half T R) (way' : Way) (log' : Log) (k : HalfKeeps shared half)
    (goes : Goes (Work.Take half.path.lane) shared (record shared { journal = log' }) half (record half { path = way' })) where
  pub part_came : (lane : Lane) (trip : Trip) → half.path.lane ≡ lane
      → Answered way' (past half.path.lane shared.journal.history) (work shared.script shared.journal.history (Work.Take half.path.lane)) (Part trip)
      → TakesOut shared (record shared { journal = log' }) half (record half { path = way' }) (Part (record { lane = lane; trip = trip }))
  part_came lane trip at a =
      let x = is_worked shared.script half.path.lane (Work.Take half.path.lane) shared.journal.history log'.history refl goes.adds.history_is in
      let writes : work shared.script shared.journal.history (Work.Take half.path.lane) ≡ Writes (bare (Flying half.path.lane trip.tx.serial) ∷ []) =
      subst (λ l. work shared.script shared.journal.history (Work.Take half.path.lane) ≡ Writes (bare (Flying l trip.tx.serial) ∷ [])) goes.lane_is a.writes in
      let own : past half.path.lane log'.history ≡ bare (Flying half.path.lane trip.tx.serial) ∷ past half.path.lane shared.journal.history = x.own ∙ ap (λ o. onto (lines_in o) (past half.path.lane shared.journal.history)) writes in
      let bytes : made_bytes (past half.path.lane log'.history) trip.tx.serial ≡ trip.tx.bytes = ap (λ i. made_bytes i trip.tx.serial) own ∙ a.bytes_are in
      record {
        goes = goes;
        came = record {
          lane_is = sym at;
          writes = writes;
          names = ap (got_outcome half.path.lane (past half.path.lane shared.journal.history)) writes ∙ rw (a.span_is, a.bytes_are, at) refl;
          none_was = none_out half.path.lane (past half.path.lane shared.journal.history) half.path.bus.flight (was_none shared half _ k writes);
          is_out = ap (λ l. lane_flights l (past l log'.history) way'.bus.flight) goes.lane_is
              ∙ (ap (lane_flights half.path.lane (past half.path.lane log'.history)) a.is_out
              ∙ out_is half.path.lane (past half.path.lane log'.history) (record { lane = lane; trip = trip }) (sym at) bytes);
        };
        unchanged = tt;
      }

  pub cut_came : Answered way' (past half.path.lane shared.journal.history) (work shared.script shared.journal.history (Work.Take half.path.lane)) Cut → way'.bus.flight ≡ half.path.bus.flight
      → TakesOut shared (record shared { journal = log' }) half (record half { path = way' }) Cut
  cut_came a f =
      let none : flight_serial half.path.bus.flight ≡ [] = was_none shared half _ k a.2 in
      record {
        goes = goes;
        came = record {
          writes = (a.0, a.1, subst (λ l. work shared.script shared.journal.history (Work.Take half.path.lane) ≡ Writes (bare (CutLine l a.0 a.1) ∷ [])) goes.lane_is a.2);
          none_was = none_out half.path.lane (past half.path.lane shared.journal.history) half.path.bus.flight none;
          none_is = none_out way'.lane (past way'.lane log'.history) way'.bus.flight (ap flight_serial f ∙ none);
        };
        unchanged = tt;
      }

  pub not_came : (answer : Answer) → Answered way' (past half.path.lane shared.journal.history) (work shared.script shared.journal.history (Work.Take half.path.lane)) (Not answer)
      → way'.bus.flight ≡ half.path.bus.flight → IsUnchanged half.path way' shared.journal log'
      → TakesOut shared (record shared { journal = log' }) half (record half { path = way' }) (Not answer)
  not_came answer a f u = record {
    goes = goes;
    came = (
      a,
      ap (λ l. lane_flights l (past l log'.history) way'.bus.flight) goes.lane_is
          ∙ own_flights half.path.lane (Work.Take half.path.lane) shared (record shared { journal = log' }) half (record half { path = way' }) refl refl k.keeps.stands goes f,
    );
    unchanged = half_same shared half way' log' u;
  }

-- LAND

landing_is : (script : Script) (lane : Lane) (g : History) (k : ℕ) (ks : List ℕ) → ks ≡ k ∷ [] → land_from script lane g ks ≡ land_with lane (planned script lane k) g ks
landing_is script lane g k ks e = rw e refl

-- a path's landing is the link's, with the fault that is planned for the flight
pub land_is : (script : Script) (phase : Phase) (way : Way) (h : History) (f : LaneTrip) → Keeps script phase way (past way.lane h) → way.bus.flight ≡ Some (record_of f.trip)
    → work script h (Work.Land way.lane) ≡ land_fault way.lane (planned script way.lane f.trip.tx.serial) (past way.lane h)
land_is script phase way h f k e = landing_is script way.lane (past way.lane h) f.trip.tx.serial (flying (past way.lane h)) (k.stands.queues.fly ∙ ap flight_serial e)
