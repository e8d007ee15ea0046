-- A link after a take and after a landing.
use Rattle.std.proofs.Common.{◌≡◌, ℕ, ◌+◌, ◌<◌, Bool, true, false, ◌&&◌, List, [], ◌∷◌, ◌++◌, Option, Some, None, refl, sym, ap, ◌∙◌, subst, arith, append_assoc}
use Rattle.un_facts.proofs.Booleans.{and_first}
use Rattle.un_facts.specs.Lists.{is_empty}
use Rattle.un_facts.specs.Numbers.{one_if}
use Rattle.un_frame.specs.declared.params.Lane.{Lane}
use Rattle.un_frame.specs.declared.params.Lane.TheVariants.{Outward, Inward}
use Rattle.un_frame.specs.Lanes.{same_lane}
use Rattle.un_endpoint.specs.declared.record.FlightRecord.{FlightRecord}
use Rattle.un_journal.specs.declared.machine.FlightKey.{FlightKey}
use Rattle.un_journal.specs.declared.actions.Answer.{Answer}
use Rattle.un_journal.specs.declared.got.Got.{Got}
use Rattle.un_journal.specs.declared.got.Got.TheVariants.{Part, Cut, Not}
use Rattle.un_journal.specs.Flights.{times, same_flight, Gains, Loses, Takes}
use Rattle.un_journal.specs.Script.{Script}
use Rattle.un_journal.specs.History.{History, past, flying}
use Rattle.un_journal.specs.declared.actions.Action.{Action}
use Rattle.un_journal.specs.declared.lines.Line.TheVariants.{Flying, Cut as CutLine}
use Rattle.un_journal.specs.LaneSteps.{Answers, lines_in, bare}
use Rattle.un_journal.specs.Step.{Work, work, land_from, move_after, outcome, quiet}
use Rattle.un_journal.proofs.Theorems.{same_flight-is, same_flight-refl}
use Rattle.un_lane.specs.Stands.{flight_serial}
use Rattle.un_lane.specs.Answered.{UnlessDid}
use Rattle.un_link.specs.declared.half.Half.{Half}
use Rattle.un_link.specs.declared.shared.Shared.{Shared}
use Rattle.un_link.specs.Link.{Link, Holds, Steps, flight_in, lane_flights, flights_of}
use Rattle.un_link.specs.Ends.{is_finished}
use Rattle.un_link.specs.Flights.{LaneTrip, flight_of, got_outcome, taken_of, taken_lines, landed_lines, Came, path_flights, TakesOut, BringsBack, across, flights_in, TakesFrom, LandsIn}
use Rattle.un_link.proofs.Controlling.{same_steps}
use Rattle.un_link.proofs.Holding.{is_worked, shared_of, half_of, with_half}

-- THE LANES' FLIGHTS

-- what came of a half's take, by its lane
came_in : {T R : Type 0} (lane : Lane) (shared shared' : Shared) (half half' : Half T R) (got : Got LaneTrip) → half.path.lane ≡ lane → TakesOut shared shared' half half' got
    → Came lane (past lane shared.journal.history) (work shared.script shared.journal.history (Work.Take lane)) got
    (lane_flights lane (past lane shared.journal.history) half.path.bus.flight) (lane_flights lane (past lane shared'.journal.history) half'.path.bus.flight)
came_in lane shared shared' half half' got at t =
    subst (λ l. Came l (past l shared.journal.history) (work shared.script shared.journal.history (Work.Take l)) got (lane_flights l (past l shared.journal.history) half.path.bus.flight) (lane_flights l (past l shared'.journal.history) half'.path.bus.flight)) at
    (subst (λ l. Came half.path.lane (past half.path.lane shared.journal.history) (work shared.script shared.journal.history (Work.Take half.path.lane)) got (path_flights half.path shared.journal) (lane_flights l (past l shared'.journal.history) half'.path.bus.flight)) t.goes.lane_is t.came)

pub half_takes : {T R : Type 0} (lane : Lane) (link : Link) (shared' : Shared) (half' : Half T R) (got : Got LaneTrip) → Holds link → TakesOut (shared_of link) shared' (half_of lane link) half' got
    → TakesFrom lane link (with_half lane link shared' half') got
half_takes Outward link shared' half' got k t =
    let x = is_worked link.script Outward (Work.Take link.out.lane) link.log.history shared'.journal.history (ap Some k.out_lane) t.goes.adds.history_is in
    record { came = came_in Outward (shared_of link) shared' (half_of Outward link) half' got k.out_lane t; others = ap (λ g. lane_flights Inward g link.inward.bus.flight) (x.other Inward refl) }
half_takes Inward link shared' half' got k t =
    let x = is_worked link.script Inward (Work.Take link.inward.lane) link.log.history shared'.journal.history (ap Some k.in_lane) t.goes.adds.history_is in
    record { came = came_in Inward (shared_of link) shared' (half_of Inward link) half' got k.in_lane t; others = ap (λ g. lane_flights Outward g link.out.bus.flight) (x.other Outward refl) }

pub half_lands : {T R : Type 0} (lane : Lane) (link : Link) (shared' : Shared) (half' : Half T R) → Holds link → BringsBack (shared_of link) shared' (half_of lane link) half'
    → LandsIn lane link (with_half lane link shared' half')
half_lands Outward link shared' half' k t =
    let x = is_worked link.script Outward (Work.Land link.out.lane) link.log.history shared'.journal.history (ap Some k.out_lane) t.goes.adds.history_is in
    record { none_out = ap (lane_flights Outward (past Outward shared'.journal.history)) t.none_out; others = ap (λ g. lane_flights Inward g link.inward.bus.flight) (x.other Inward refl) }
half_lands Inward link shared' half' k t =
    let x = is_worked link.script Inward (Work.Land link.inward.lane) link.log.history shared'.journal.history (ap Some k.in_lane) t.goes.adds.history_is in
    record { none_out = ap (lane_flights Inward (past Inward shared'.journal.history)) t.none_out; others = ap (λ g. lane_flights Outward g link.out.bus.flight) (x.other Outward refl) }

-- HOW OFTEN A FLIGHT IS OUT

times_append : (x : FlightKey) (xs ys : List FlightKey) → times x (xs ++ ys) ≡ times x xs + times x ys
times_append x [] ys = omega arith
times_append x (y ∷ xs) ys = let w : times x (xs ++ ys) ≡ times x xs + times x ys = times_append x xs ys in omega arith

-- those of one lane and those of the other
both : (x : FlightKey) (lane : Lane) (link : Link) → times x (flights_of link) ≡ times x (flights_in lane link) + times x (flights_in (across lane) link)
both x Outward link = times_append x (flights_in Outward link) (flights_in Inward link)
both x Inward link = let w : times x (flights_of link) ≡ times x (flights_in Outward link) + times x (flights_in Inward link) = times_append x (flights_in Outward link) (flights_in Inward link) in omega arith

elsewhere : (x : FlightKey) (lane : Lane) (g : History) (o : Option FlightRecord) → same_lane x.transfer.lane lane ≡ false → times x (lane_flights lane g o) ≡ 0
elsewhere x lane g None e = refl
elsewhere x lane g (Some f) e = rw e refl

apart : (lane : Lane) → same_lane lane (across lane) ≡ false
apart Outward = refl
apart Inward = refl

-- a flight of one lane isn't one of the other's
never_across : (x : FlightKey) (lane : Lane) (link : Link) → x.transfer.lane ≡ lane → times x (flights_in (across lane) link) ≡ 0
never_across x Outward link e = elsewhere x Inward (past Inward link.log.history) link.inward.bus.flight (ap (λ l. same_lane l Inward) e)
never_across x Inward link e = elsewhere x Outward (past Outward link.log.history) link.out.bus.flight (ap (λ l. same_lane l Outward) e)

only : (x : FlightKey) (lane : Lane) (g : History) (o : Option FlightRecord) → 0 < times x (lane_flights lane g o) → lane_flights lane g o ≡ x ∷ []
only x lane g None e = absurd (omega (arith, e))
only x lane g (Some f) e = go (same_flight x (flight_in lane g f)) refl
  where
    go : (b : Bool) → same_flight x (flight_in lane g f) ≡ b → flight_in lane g f ∷ [] ≡ x ∷ []
    go true q = ap (λ y. y ∷ []) (sym (same_flight-is x (flight_in lane g f) q))
    go false q = absurd (omega (arith, e, ap one_if q))

only_in : (x : FlightKey) (lane : Lane) (link : Link) → 0 < times x (flights_in lane link) → flights_in lane link ≡ x ∷ []
only_in x Outward link e = only x Outward (past Outward link.log.history) link.out.bus.flight e
only_in x Inward link e = only x Inward (past Inward link.log.history) link.inward.bus.flight e

-- a flight that is out is its lane's only one
pub is_only : (x : FlightKey) (lane : Lane) (link : Link) → x.transfer.lane ≡ lane → 0 < times x (flights_of link) → flights_in lane link ≡ x ∷ []
is_only x lane link e out =
    let b : times x (flights_of link) ≡ times x (flights_in lane link) + times x (flights_in (across lane) link) = both x lane link in
    let n : times x (flights_in (across lane) link) ≡ 0 = never_across x lane link e in
    only_in x lane link (omega arith)

-- and a lane's flight is out
pub is_out : (x : FlightKey) (lane : Lane) (link : Link) → flights_in lane link ≡ x ∷ [] → 0 < times x (flights_of link)
is_out x lane link e =
    let b : times x (flights_of link) ≡ times x (flights_in lane link) + times x (flights_in (across lane) link) = both x lane link in
    let o : times x (flights_in lane link) ≡ times x (x ∷ []) = ap (times x) e in
    let s : one_if (same_flight x x) ≡ 1 = ap one_if (same_flight-refl x) in
    omega arith

pub same_flights : (lane : Lane) (old new : Link) → flights_in lane new ≡ flights_in lane old → flights_in (across lane) new ≡ flights_in (across lane) old → flights_of new ≡ flights_of old
same_flights Outward old new a b = ap (λ xs. xs ++ flights_in Inward new) a ∙ ap (λ xs. flights_in Outward old ++ xs) b
same_flights Inward old new a b = ap (λ xs. xs ++ flights_in Inward new) b ∙ ap (λ xs. flights_in Outward old ++ xs) a

-- WHAT A CALL SAYS

gains : (x : FlightKey) (lane : Lane) (old new : Link) → x.transfer.lane ≡ lane → flights_in lane old ≡ [] → flights_in lane new ≡ x ∷ [] → flights_in (across lane) new ≡ flights_in (across lane) old
    → Gains x (flights_of old) (flights_of new)
gains x lane old new at none one others = (more, before)
  where
    more : (y : FlightKey) → times y (flights_of new) ≡ times y (flights_of old) + times y (x ∷ [])
    more y =
        let a : times y (flights_of new) ≡ times y (flights_in lane new) + times y (flights_in (across lane) new) = both y lane new in
        let b : times y (flights_of old) ≡ times y (flights_in lane old) + times y (flights_in (across lane) old) = both y lane old in
        let c : times y (flights_in lane new) ≡ times y (x ∷ []) = ap (times y) one in
        let d : times y (flights_in lane old) ≡ 0 = ap (times y) none in
        let e : times y (flights_in (across lane) new) ≡ times y (flights_in (across lane) old) = ap (times y) others in
        omega arith

    before : times x (flights_of old) ≡ 0
    before =
        let b : times x (flights_of old) ≡ times x (flights_in lane old) + times x (flights_in (across lane) old) = both x lane old in
        let d : times x (flights_in lane old) ≡ 0 = ap (times x) none in
        let n : times x (flights_in (across lane) old) ≡ 0 = never_across x lane old at in
        omega arith

pub takes : (lane : Lane) (old new : Link) (got : Got LaneTrip) → TakesFrom lane old new got → Takes flight_of got (taken_of old.script old.log.history lane) (flights_of old) (flights_of new)
takes lane old new (Part f) t = (t.came.names, gains (flight_of f) lane old new t.came.lane_is t.came.none_was t.came.is_out t.others)
takes lane old new Cut t = (ap (got_outcome lane (past lane old.log.history)) t.came.writes.2, same_flights lane old new (t.came.none_is ∙ sym t.came.none_was) t.others)
takes lane old new (Not answer) t = (ap (got_outcome lane (past lane old.log.history)) t.came.0, same_flights lane old new t.came.1 t.others)

pub loses : (x : FlightKey) (lane : Lane) (old new : Link) → flights_in lane old ≡ x ∷ [] → LandsIn lane old new → Loses x (flights_of old) (flights_of new)
loses x lane old new one t y =
    let a : times y (flights_of new) ≡ times y (flights_in lane new) + times y (flights_in (across lane) new) = both y lane new in
    let b : times y (flights_of old) ≡ times y (flights_in lane old) + times y (flights_in (across lane) old) = both y lane old in
    let c : times y (flights_in lane old) ≡ times y (x ∷ []) = ap (times y) one in
    let d : times y (flights_in lane new) ≡ 0 = ap (times y) t.none_out in
    let e : times y (flights_in (across lane) new) ≡ times y (flights_in (across lane) old) = ap (times y) t.others in
    omega arith

-- where a lane has no flight out a landing writes nothing
no_serial : (lane : Lane) (g : History) (o : Option FlightRecord) → lane_flights lane g o ≡ [] → flight_serial o ≡ []
no_serial lane g None e = refl
no_serial lane g (Some f) e = absurd (cc)

none_lands : (script : Script) (lane : Lane) (g : History) (ks : List ℕ) → ks ≡ [] → lines_in (land_from script lane g ks) ≡ []
none_lands script lane g ks e = rw e refl

pub nothing_lands : (lane : Lane) (link : Link) → Holds link → flights_in lane link ≡ [] → lines_in (work link.script link.log.history (Work.Land lane)) ≡ []
nothing_lands Outward link k e = none_lands link.script Outward (past Outward link.log.history) (flying (past Outward link.log.history)) (k.out_keeps.stands.queues.fly ∙ no_serial Outward (past Outward link.log.history) link.out.bus.flight e)
nothing_lands Inward link k e = none_lands link.script Inward (past Inward link.log.history) (flying (past Inward link.log.history)) (k.in_keeps.stands.queues.fly ∙ no_serial Inward (past Inward link.log.history) link.inward.bus.flight e)

-- MOVE

-- a flight that is taken and landed
pub moves : (lane : Lane) (old mid new : Link) (f : LaneTrip) (answer : Answer)
    → mid.script ≡ old.script → mid.log.history ≡ old.log.history ++ taken_lines old.script old.log.history lane → TakesFrom lane old mid (Part f)
    → answer ≡ Answer.Did → new.script ≡ mid.script → new.log.history ≡ mid.log.history ++ landed_lines mid.script mid.log.history (flight_of f).transfer → LandsIn f.lane mid new
    → Steps old new (outcome old.script old.log.history (Action.Move lane)) answer
moves lane old mid new f answer s h t a s' h' l =
    let at = t.came.lane_is in
    let first : History = bare (Flying lane f.trip.tx.serial) ∷ [] in
    let then : History = lines_in (work old.script (old.log.history ++ first) (Work.Land lane)) in
    let middle : mid.log.history ≡ old.log.history ++ first = h ∙ ap (λ o. old.log.history ++ lines_in o) t.came.writes in
    let last : lines_in (work mid.script mid.log.history (Work.Land f.lane)) ≡ then =
    ap (λ k. lines_in (work k mid.log.history (Work.Land f.lane))) s
    ∙ (ap (λ m. lines_in (work old.script m (Work.Land f.lane))) middle
    ∙ ap (λ k. lines_in (work old.script (old.log.history ++ first) (Work.Land k))) at) in
    let ends = subst (λ k. LandsIn k mid new) at l in
    subst (λ o. Steps old new (move_after old.script lane old.log.history o) answer) (sym t.came.writes) (record {
      script_is = s' ∙ s;
      history_is = h' ∙ (ap (λ m. mid.log.history ++ m) last ∙ (ap (λ m. m ++ then) middle ∙ append_assoc old.log.history first then));
      answers = a;
      flights_are = same_flights lane old new (ends.none_out ∙ sym t.came.none_was) (ends.others ∙ t.others);
      unchanged = subst (λ r. UnlessDid r (new ≡ old)) (sym a) tt;
    })

-- a queued transfer that is cut: nothing lands after it
pub reaps : (lane : Lane) (old new : Link) → Holds new
    → new.script ≡ old.script → new.log.history ≡ old.log.history ++ taken_lines old.script old.log.history lane → TakesFrom lane old new Cut
    → Steps old new (outcome old.script old.log.history (Action.Move lane)) Answer.Did
reaps lane old new k s h t =
    let first : History = bare (CutLine lane t.came.writes.0 t.came.writes.1) ∷ [] in
    let middle : new.log.history ≡ old.log.history ++ first = h ∙ ap (λ o. old.log.history ++ lines_in o) t.came.writes.2 in
    let last : lines_in (work old.script (old.log.history ++ first) (Work.Land lane)) ≡ [] =
    ap (λ m. lines_in (work old.script m (Work.Land lane))) (sym middle)
    ∙ (ap (λ p. lines_in (work p new.log.history (Work.Land lane))) (sym s)
    ∙ nothing_lands lane new k t.came.none_is) in
    subst (λ o. Steps old new (move_after old.script lane old.log.history o) Answer.Did) (sym t.came.writes.2) (record {
      script_is = s;
      history_is = middle ∙ sym (ap (λ m. old.log.history ++ (first ++ m)) last);
      answers = refl;
      flights_are = same_flights lane old new (t.came.none_is ∙ sym t.came.none_was) t.others;
      unchanged = tt;
    })

-- a take that is refused
pub stays : (lane : Lane) (old new : Link) (answer : Answer) → new ≡ old → work old.script old.log.history (Work.Take lane) ≡ Answers answer
    → Steps old new (outcome old.script old.log.history (Action.Move lane)) answer
stays lane old new answer same e =
    subst (λ (l : Link). Steps old l (outcome old.script old.log.history (Action.Move lane)) answer) (sym same)
    (same_steps old _ answer (ap (move_after old.script lane old.log.history) e))

-- QUIET LINKS

no_flights : (lane : Lane) (g : History) (o : Option FlightRecord) (ks : List ℕ) → ks ≡ flight_serial o → is_empty ks ≡ true → lane_flights lane g o ≡ []
no_flights lane g None ks e q = refl
no_flights lane g (Some f) [] e q = absurd (cc)
no_flights lane g (Some f) (k ∷ ks) e q = absurd (cc)

three_true : (a b c : Bool) → (a && b && c) ≡ true → (a ≡ true) × (b ≡ true)
three_true true true c e = (refl, refl)
three_true true false c e = absurd (cc)
three_true false b c e = absurd (cc)

-- no flight is out of a quiet link
pub quiet_none : (link : Link) → Holds link → quiet link.script link.log.history ≡ true → flights_of link ≡ []
quiet_none link k q =
    let t = three_true _ _ _ q in
    ap (λ fs. fs ++ flights_in Inward link) (no_flights Outward (past Outward link.log.history) link.out.bus.flight (flying (past Outward link.log.history)) k.out_keeps.stands.queues.fly t.0)
    ∙ no_flights Inward (past Inward link.log.history) link.inward.bus.flight (flying (past Inward link.log.history)) k.in_keeps.stands.queues.fly t.1

pub finished_none : (link : Link) → Holds link → is_finished link.script link.log.history ≡ true → flights_of link ≡ []
finished_none link k f = quiet_none link k (and_first _ _ f)
