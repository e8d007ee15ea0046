-- A path whose flight has ended stands for the lane with one line more.
use Rattle.std.proofs.Common.{◌≡◌, ℕ, zero, suc, ◌+◌, ◌-◌, ◌<◌, ◌≤◌, Bool, true, false, not, ◌&&◌, ◌||◌, ◌==◌, eqb, List, [], ◌∷◌, ◌++◌, length, map, Option, Some, None, inl, inr, refl, sym, ap, ◌∙◌, subst, arith, filter}
use Rattle.std.proofs.lemmas.Bool.{false≢true, cases_lt, cases_eq, cases_Bool}
use Rattle.std.proofs.lemmas.List.{length_push}
use Rattle.un_facts.proofs.Copies.{copies_last}
use Rattle.un_facts.proofs.Lists.{all_more}
use Rattle.un_facts.proofs.Booleans.{and_false}
use Rattle.un_facts.specs.Lists.{copies, is_empty}
use Rattle.un_facts.specs.Numbers.{one_if}
use Rattle.un_frame.specs.declared.params.Lane.{Lane}
use Rattle.un_frame.specs.declared.kinds.Planned.{Planned}
use Rattle.un_frame.specs.declared.kinds.FaultKind.{FaultKind}
use Rattle.un_frame.specs.declared.kinds.FaultKind.TheVariants.{Proto, Halt}
use Rattle.un_req.specs.Request.{Buffer, number_of}
use Rattle.un_endpoint.specs.declared.record.FlightRecord.{FlightRecord}
use Rattle.un_endpoint.specs.Bus.{Bus, Trip, record_of, received}
use Rattle.un_endpoint.specs.Outcomes.{Arrives, Fails, Retries, IsSevered, halts}
use Rattle.un_endpoint.specs.Ends.{Transmitter, Receiver}
use Rattle.un_journal.specs.declared.lines.Line.TheVariants.{Landed, Failed, Retried, Cut}
use Rattle.un_journal.specs.History.{History, made, those, flies, waits, waiting, flying, ended, landed, failed, was_cut, opened, arrived, delivered, gave, serial_of as owner_of, mark, attempts, halted, posts, recalls, flights, first, span, made_bytes, left_of, row_from, ends}
use Rattle.un_journal.specs.Sound.{IsSound}
use Rattle.un_journal.proofs.ForLane.{those_first, quiet_grounded, fresh, owns_span, left_is, given_from, NoneEnded, aloft_only, status, status_of, in_turn, top_below, top, landed_below, in_order, flight_is}
use Rattle.un_lane.specs.Way.{Way}
use Rattle.un_lane.specs.Stands.{Stands, ArePlaced, AreQueued, AreAttempts, AreTried, AreMarked, IsTx, IsFlightOf, IsText, FlightIs, finished, serial_of, flight_serial, flight_tx, flight_rx}
use Rattle.un_lane.proofs.Counting.{copies_more, map_last}
use Rattle.un_lane.proofs.Finishing.{finish_plus}
use Rattle.un_lane.proofs.Placing.{tx_moved, rx_moved}
use Rattle.un_lane.proofs.Trying.{tried_rest}
use Rattle.un_lane.proofs.Serials.{those_same, those_plus, those_nothing, apart, same_number}

-- PLACES: the transmit request is done; the receive request has arrived, or is home

land_placed : (lane : Lane) (t : Transmitter) (r : Receiver) (bus : Bus) (trip : Trip) (home' : List ℕ) (arrived' : List Buffer) (h : Bool) → ArePlaced lane t r bus → bus.flight ≡ Some (record_of trip)
    → ((n : ℕ) → copies n home' + copies n (map number_of arrived') ≡ copies n r.home + copies n (map number_of r.arrived) + one_if (eqb n trip.rx))
    → length home' + length arrived' ≡ length r.home + length r.arrived + 1
    → ArePlaced lane (record t { done = t.done ++ trip.tx ∷ [] }) (record r { home = home'; arrived = arrived' }) (record bus { flight = None; flight_mark = None; attempts = 0; halted = h })
land_placed lane t r bus trip home' arrived' h p out numbers total = assumption (
  p,
  tx_moved p (record t { done = t.done ++ trip.tx ∷ [] }) (record bus { flight = None; flight_mark = None; attempts = 0; halted = h }) refl
      (λ n.
      let f : copies n (flight_tx bus.flight) ≡ one_if (eqb n trip.tx.number) + 0 = ap (λ x. copies n (flight_tx x)) out in
      let d : copies n (map number_of (t.done ++ trip.tx ∷ [])) ≡ copies n (map number_of t.done) + one_if (eqb n trip.tx.number) = copies_more n t.done trip.tx in omega arith)
      (let f : length (flight_tx bus.flight) ≡ 1 = ap (λ x. length (flight_tx x)) out in
      let d : length (t.done ++ trip.tx ∷ []) ≡ length t.done + 1 = length_push t.done trip.tx in omega arith),
  rx_moved p (record r { home = home'; arrived = arrived' }) (record bus { flight = None; flight_mark = None; attempts = 0; halted = h }) refl
      (λ n.
      let f : copies n (flight_rx bus.flight) ≡ one_if (eqb n trip.rx) + 0 = ap (λ x. copies n (flight_rx x)) out in
      let s : copies n home' + copies n (map number_of arrived') ≡ copies n r.home + copies n (map number_of r.arrived) + one_if (eqb n trip.rx) = numbers n in omega arith)
      (let f : length (flight_rx bus.flight) ≡ 1 = ap (λ x. length (flight_rx x)) out in
      let s : length home' + length arrived' ≡ length r.home + length r.arrived + 1 = total in omega arith),
)

numbers_home : (r : Receiver) (trip : Trip) (n : ℕ) → copies n (r.home ++ trip.rx ∷ []) + copies n (map number_of r.arrived) ≡ copies n r.home + copies n (map number_of r.arrived) + one_if (eqb n trip.rx)
numbers_home r trip n = let e : copies n (r.home ++ trip.rx ∷ []) ≡ copies n r.home + one_if (eqb n trip.rx) = copies_last n r.home trip.rx in omega arith

numbers_arrived : (r : Receiver) (trip : Trip) (n : ℕ) → copies n r.home + copies n (map number_of (r.arrived ++ received trip ∷ [])) ≡ copies n r.home + copies n (map number_of r.arrived) + one_if (eqb n trip.rx)
numbers_arrived r trip n = let e : copies n (map number_of (r.arrived ++ received trip ∷ [])) ≡ copies n (map number_of r.arrived) + one_if (eqb n trip.rx) = copies_more n r.arrived (received trip) in omega arith

total_home : (r : Receiver) (x : ℕ) → length (r.home ++ x ∷ []) + length r.arrived ≡ length r.home + length r.arrived + 1
total_home r x = let e : length (r.home ++ x ∷ []) ≡ length r.home + 1 = length_push r.home x in omega arith

total_arrived : (r : Receiver) (x : Buffer) → length r.home + length (r.arrived ++ x ∷ []) ≡ length r.home + length r.arrived + 1
total_arrived r x = let e : length (r.arrived ++ x ∷ []) ≡ length r.arrived + 1 = length_push r.arrived x in omega arith

-- THE LANE'S LISTS, for a flight of k that ends

land_queues : (g : History) (deferred : List Buffer) (bus : Bus) (waits' flies' : ℕ → Bool) (halted' h : Bool) → AreQueued deferred bus (waiting g) (flying g) (mark g) (halted g) (posts g) (recalls g) (flights g) (made g)
    → ((j : ℕ) → waits' j ≡ waits g j) → ((j : ℕ) → flies' j ≡ false) → halted' ≡ h
    → AreQueued deferred (record bus { flight = None; flight_mark = None; attempts = 0; halted = h }) (those waits' (made g)) (those flies' (made g)) (mark g) halted' (posts g) (recalls g) (flights g) (made g)
land_queues g deferred bus waits' flies' halted' h w same none e = record {
  wait = those_same (waits g) waits' (made g) (λ j l. same j) ∙ w.wait;
  fly = those_nothing flies' none (made g);
  marked = w.marked;
  unmarked = w.unmarked;
  unmade = w.unmade;
  flight_marked = tt;
  halts = e;
  posted = w.posted;
  grounded = λ d. ((w.grounded d).0, refl);
}

module _ (l : Lane) (k : ℕ) (g : History) (sound : IsSound g) (up : flies g k ≡ true) where
  pub last_one : k ≡ ends g
  last_one = flight_is g sound (in_order g sound) k up

  alone : (j : ℕ) → (j ≡ k → ⊥) → flies g j ≡ false
  alone j ne = elim (cases_Bool (flies g j)) [
    | inl f ↦ absurd (ne (flight_is g sound (in_order g sound) j f ∙ sym last_one))
    | inr f ↦ f
  ]

  pub none_over : NoneEnded (landed g k) (failed g k) (was_cut g k)
  none_over = aloft_only (flies g k) (landed g k) (failed g k) (was_cut g k) (status g k) (status_of g sound k) up

  pub is_made : k < made g
  is_made = elim (cases_lt k (made g)) [ inl h ↦ h | inr h ↦ absurd (false≢true (sym (quiet_grounded g sound k (fresh g sound k h)) ∙ up)) ]

  pub waits_not : waits g k ≡ false
  waits_not = rw up refl

  pub none_fly_now : (j : ℕ) → (not (k == j) && flies g j) ≡ false
  none_fly_now j = elim (cases_eq j k) [
    | inl same ↦ rw (sym same, same_number j) refl
    | inr ne ↦ rw (alone j ne) (and_false (not (k == j)))
  ]

  unopened : opened g k ≡ false
  unopened = (in_turn g sound k).above (let low : top g ≤ ends g = top_below g sound in let e : k ≡ ends g = last_one in omega arith)

  unlanded : (j : ℕ) → k ≤ j → landed g j ≡ false
  unlanded j h = elim (cases_Bool (landed g j)) [
    | inl f ↦ absurd (let low : j < ends g = landed_below g sound j f in let e : k ≡ ends g = last_one in omega arith)
    | inr f ↦ f
  ]

  -- landed
  landed_waits : (j : ℕ) → waits ((Landed l k, []) ∷ g) j ≡ waits g j
  landed_waits j = elim (cases_eq j k) [
    | inl same ↦ subst (λ i. waits ((Landed l k, []) ∷ g) i ≡ waits g i) (sym same) (rw (same_number k, up) refl)
    | inr ne ↦ rw (apart k j ne) refl
  ]

  landed_done : finished ((Landed l k, []) ∷ g) ≡ finished g ++ k ∷ []
  landed_done = finish_plus g sound k last_one is_made (ended ((Landed l k, []) ∷ g)) (rw (same_number k) refl) (λ j ne. rw (apart k j ne) refl)

  landed_arrived : arrived ((Landed l k, []) ∷ g) ≡ arrived g ++ k ∷ []
  landed_arrived = those_plus (λ j. landed g j && not (opened g j)) (λ j. landed ((Landed l k, []) ∷ g) j && not (opened g j)) k
      (rw (same_number k, unopened) refl) (λ j h. rw (apart k j (λ e. omega arith)) refl) (λ j h. rw (unlanded j h) refl)
      (λ j h. rw (apart k j (λ e. omega arith), unlanded j (omega arith)) refl) (made g) is_made

  left_some : (a b : ℕ) → span g k ≡ Some (a, b) → a < b → is_empty (left_of g k) ≡ false
  left_some a b s h = ap is_empty (left_is g k a b s) ∙ some (b - a) (omega arith)
    where
      not_given : gave g a ≡ false
      not_given = elim (cases_Bool (gave g a)) [
        | inl e ↦
            let from = given_from g sound a e in
            let mine : owner_of g a ≡ Some k = (owns_span g sound k (a, b) s).owns a (omega arith) h in
            absurd (false≢true (sym unopened ∙ subst (λ i. opened g i ≡ true) (some_one from.serial k (sym from.is_owner ∙ mine)) from.was_opened))
        | inr e ↦ e
      ]
        where
          some_one : (m n : ℕ) → Some m ≡ Some n → m ≡ n
          some_one m n e = cc

      some : (m : ℕ) → 0 < m → is_empty (filter (λ n. not (gave g n)) (row_from a m)) ≡ false
      some zero z = absurd (omega arith)
      some (suc m) z = rw not_given refl

  landed_delivered : is_empty (left_of g k) ≡ false → length (delivered ((Landed l k, []) ∷ g)) ≡ length (delivered g)
  landed_delivered e = ap length (those_same (λ j. landed g j && is_empty (left_of g j)) (λ j. landed ((Landed l k, []) ∷ g) j && is_empty (left_of g j)) (made g)
      (λ j h. elim (cases_eq j k) [
        | inl same ↦ subst (λ i. (landed ((Landed l k, []) ∷ g) i && is_empty (left_of g i)) ≡ (landed g i && is_empty (left_of g i))) (sym same) (rw (e, same_number k, none_over.not_landed) refl)
        | inr ne ↦ rw (apart k j ne) refl
      ]))

  -- failed
  failed_waits : (kind : FaultKind) (j : ℕ) → waits ((Failed l k kind, []) ∷ g) j ≡ waits g j
  failed_waits kind j = elim (cases_eq j k) [
    | inl same ↦ subst (λ i. waits ((Failed l k kind, []) ∷ g) i ≡ waits g i) (sym same) (rw (same_number k, none_over.not_landed, up) refl)
    | inr ne ↦ rw (apart k j ne) refl
  ]

  failed_done : (kind : FaultKind) → finished ((Failed l k kind, []) ∷ g) ≡ finished g ++ k ∷ []
  failed_done kind = finish_plus g sound k last_one is_made (ended ((Failed l k kind, []) ∷ g)) (rw (same_number k, none_over.not_landed) refl) (λ j ne. rw (apart k j ne) refl)

  failed_halts : (kind : FaultKind) → halted ((Failed l k kind, []) ∷ g) ≡ halts kind || halted g
  failed_halts Proto = refl
  failed_halts Halt = refl

  -- cut
  cut_waits : (c j : ℕ) → waits ((Cut l k c, []) ∷ g) j ≡ waits g j
  cut_waits c j = elim (cases_eq j k) [
    | inl same ↦ subst (λ i. waits ((Cut l k c, []) ∷ g) i ≡ waits g i) (sym same) (rw (same_number k, none_over.not_landed, none_over.not_failed, up) refl)
    | inr ne ↦ rw (apart k j ne) refl
  ]

  cut_done : (c : ℕ) → finished ((Cut l k c, []) ∷ g) ≡ finished g ++ k ∷ []
  cut_done c = finish_plus g sound k last_one is_made (ended ((Cut l k c, []) ∷ g)) (rw (same_number k, none_over.not_landed, none_over.not_failed) refl) (λ j ne. rw (apart k j ne) refl)

-- what flies is the flight that is out
pub out_flies : (g : History) (flight : Option FlightRecord) (trip : Trip) → IsSound g → flying g ≡ flight_serial flight → flight ≡ Some (record_of trip) → flies g trip.tx.serial ≡ true
out_flies g flight trip sound f out = (those_first_one (flies g) (made g) trip.tx.serial (f ∙ ap flight_serial out))
  where
    those_first_one : (p : ℕ → Bool) (n k : ℕ) → those p n ≡ k ∷ [] → p k ≡ true
    those_first_one p n k e = (those_first p n k (ap first e)).passes

-- the flight is the first of those that were tried
pub first_tried : (attempts' : ℕ → ℕ) (bus : Bus) (trip : Trip) → AreTried attempts' (flight_serial bus.flight ++ map serial_of bus.queue) bus.attempts → bus.flight ≡ Some (record_of trip)
    → AreTried attempts' (trip.tx.serial ∷ map serial_of bus.queue) bus.attempts
first_tried attempts' bus trip w out = subst (λ f. AreTried attempts' (flight_serial f ++ map serial_of bus.queue) bus.attempts) out w

land_tries : (g : History) (deferred : List Buffer) (bus : Bus) (trip : Trip) (h : Bool) → AreAttempts deferred bus (attempts g) (made g) → bus.flight ≡ Some (record_of trip)
    → AreAttempts deferred (record bus { flight = None; flight_mark = None; attempts = 0; halted = h }) (attempts g) (made g)
land_tries g deferred bus trip h w out = record {
  tried = tried_rest (attempts g) (map serial_of bus.queue) (first_tried (attempts g) bus trip w.tried out).1;
  deferred_untried = w.deferred_untried;
  unmade_untried = w.unmade_untried;
}

pub arrive_stands : (way : Way) (g : History) (bus' : Bus) (trip : Trip) (plan : Planned) (tx rx : Buffer) → Stands way g → way.bus.flight ≡ Some (record_of trip) → made_bytes g trip.tx.serial ≡ trip.tx.bytes
    → Arrives way.bus bus' trip plan tx rx
    → Stands (record way { tx = record way.tx { done = way.tx.done ++ tx ∷ [] }; rx = record way.rx { arrived = way.rx.arrived ++ rx ∷ [] }; bus = bus' }) ((Landed way.lane trip.tx.serial, []) ∷ g)
arrive_stands way g bus' trip plan tx rx w out bytes a =
    let k = trip.tx.serial in
    let up = out_flies g way.bus.flight trip w.sound w.queues.fly out in
    let text : span g trip.tx.serial ≡ Some (trip.tx.from, trip.tx.to) = subst (FlightIs (λ f. span g f.serial ≡ Some (f.from, f.to))) out w.texts.flight_span in
    let some = left_some way.lane trip.tx.serial g w.sound up trip.tx.from trip.tx.to text (w.texts.some trip.tx.serial trip.tx.from trip.tx.to text) in
    rw (a.rest, a.sent, a.got) (record {
      sound = (up, w.sound);
      placed = land_placed way.lane way.tx way.rx way.bus trip way.rx.home (way.rx.arrived ++ received trip ∷ []) way.bus.halted w.placed out (numbers_arrived way.rx trip) (total_arrived way.rx (received trip));
      building = w.building;
      queues = land_queues g way.tx.deferred way.bus (waits ((Landed way.lane trip.tx.serial, []) ∷ g)) (flies ((Landed way.lane trip.tx.serial, []) ∷ g)) (halted g) way.bus.halted w.queues
          (landed_waits way.lane trip.tx.serial g w.sound up) (none_fly_now way.lane trip.tx.serial g w.sound up) w.queues.halts;
      tries = land_tries g way.tx.deferred way.bus trip way.bus.halted w.tries out;
      ends = record {
        done_is = landed_done way.lane trip.tx.serial g w.sound up ∙ (ap (λ ks. ks ++ trip.tx.serial ∷ []) w.ends.done_is ∙ sym (map_last serial_of way.tx.done trip.tx));
        arrived_is = landed_arrived way.lane trip.tx.serial g w.sound up ∙ (ap (λ ks. ks ++ trip.tx.serial ∷ []) w.ends.arrived_is ∙ sym (map_last serial_of way.rx.arrived (received trip)));
        current_is = w.ends.current_is;
        left_is = w.ends.left_is;
      };
      counts = rw (landed_delivered way.lane trip.tx.serial g w.sound up some) w.counts;
      texts = assumption (w.texts, all_more (IsText (span g) (made_bytes g)) way.rx.arrived (received trip) w.texts.arrived_texts (record { span_is = text; bytes_are = bytes }));
    })

pub fail_stands : (way : Way) (g : History) (bus' : Bus) (trip : Trip) (plan : Planned) (tx rx : Buffer) (kind : FaultKind) → Stands way g → way.bus.flight ≡ Some (record_of trip)
    → Fails way.bus bus' trip plan tx rx kind
    → Stands (record way { tx = record way.tx { done = way.tx.done ++ tx ∷ [] }; rx = record way.rx { home = way.rx.home ++ rx.number ∷ [] }; bus = bus' }) ((Failed way.lane trip.tx.serial kind, []) ∷ g)
fail_stands way g bus' trip plan tx rx kind w out a =
    let up = out_flies g way.bus.flight trip w.sound w.queues.fly out in
    rw (a.rest, a.sent, a.got) (record {
      sound = (up, w.sound);
      placed = land_placed way.lane way.tx way.rx way.bus trip (way.rx.home ++ trip.rx ∷ []) way.rx.arrived (halts kind || way.bus.halted) w.placed out (numbers_home way.rx trip) (total_home way.rx trip.rx);
      building = w.building;
      queues = land_queues g way.tx.deferred way.bus (waits ((Failed way.lane trip.tx.serial kind, []) ∷ g)) (flies ((Failed way.lane trip.tx.serial kind, []) ∷ g)) (halted ((Failed way.lane trip.tx.serial kind, []) ∷ g)) (halts kind || way.bus.halted) w.queues
          (failed_waits way.lane trip.tx.serial g w.sound up kind) (none_fly_now way.lane trip.tx.serial g w.sound up)
          (failed_halts way.lane trip.tx.serial g w.sound up kind ∙ ap (λ b. halts kind || b) w.queues.halts);
      tries = land_tries g way.tx.deferred way.bus trip (halts kind || way.bus.halted) w.tries out;
      ends = record {
        done_is = failed_done way.lane trip.tx.serial g w.sound up kind ∙ (ap (λ ks. ks ++ trip.tx.serial ∷ []) w.ends.done_is ∙ sym (map_last serial_of way.tx.done trip.tx));
        arrived_is = w.ends.arrived_is;
        current_is = w.ends.current_is;
        left_is = w.ends.left_is;
      };
      counts = record {
        tx = w.counts.tx;
        rx = let e : length (way.rx.home ++ trip.rx ∷ []) ≡ length way.rx.home + 1 = length_push way.rx.home trip.rx in
            let s = w.counts.rx in omega (arith, s);
      };
      texts = assumption w.texts;
    })

pub sever_stands : (way : Way) (g : History) (bus' : Bus) (trip : Trip) (tx rx : Buffer) (c : ℕ) → Stands way g → way.bus.flight ≡ Some (record_of trip)
    → IsSevered way.bus bus' trip tx rx c
    → Stands (record way { tx = record way.tx { done = way.tx.done ++ tx ∷ [] }; rx = record way.rx { home = way.rx.home ++ rx.number ∷ [] }; bus = bus' }) ((Cut way.lane trip.tx.serial c, []) ∷ g)
sever_stands way g bus' trip tx rx c w out a =
    let up = out_flies g way.bus.flight trip w.sound w.queues.fly out in
    rw (a.rest, a.sent, a.got) (record {
      sound = (inl up, w.sound);
      placed = land_placed way.lane way.tx way.rx way.bus trip (way.rx.home ++ trip.rx ∷ []) way.rx.arrived way.bus.halted w.placed out (numbers_home way.rx trip) (total_home way.rx trip.rx);
      building = w.building;
      queues = land_queues g way.tx.deferred way.bus (waits ((Cut way.lane trip.tx.serial c, []) ∷ g)) (flies ((Cut way.lane trip.tx.serial c, []) ∷ g)) (halted g) way.bus.halted w.queues
          (cut_waits way.lane trip.tx.serial g w.sound up c) (none_fly_now way.lane trip.tx.serial g w.sound up) w.queues.halts;
      tries = land_tries g way.tx.deferred way.bus trip way.bus.halted w.tries out;
      ends = record {
        done_is = cut_done way.lane trip.tx.serial g w.sound up c ∙ (ap (λ ks. ks ++ trip.tx.serial ∷ []) w.ends.done_is ∙ sym (map_last serial_of way.tx.done trip.tx));
        arrived_is = w.ends.arrived_is;
        current_is = w.ends.current_is;
        left_is = w.ends.left_is;
      };
      counts = rw up (record {
        tx = w.counts.tx;
        rx = let e : length (way.rx.home ++ trip.rx ∷ []) ≡ length way.rx.home + 1 = length_push way.rx.home trip.rx in
            let s = w.counts.rx in omega (arith, s);
      });
      texts = assumption w.texts;
    })
