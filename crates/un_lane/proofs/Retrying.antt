-- A path whose flight is tried again stands for the lane with one line more.
use Rattle.std.proofs.Common.{◌≡◌, ℕ, zero, suc, ◌+◌, ◌<◌, ◌≤◌, Bool, true, false, not, ◌&&◌, ◌||◌, ◌==◌, eqb, List, [], ◌∷◌, ◌++◌, length, map, Option, Some, None, inl, inr, refl, sym, ap, ◌∙◌, subst, arith, if◌then◌else◌}
use Rattle.std.specs.List.{AllByRecursion}
use Rattle.std.proofs.lemmas.Bool.{false≢true, cases_lt, cases_eq, cases_Bool, eqb-true}
use Rattle.std.proofs.lemmas.List.{length_push}
use Rattle.un_facts.proofs.Copies.{copies_last}
use Rattle.un_facts.proofs.Booleans.{and_false}
use Rattle.un_facts.specs.Lists.{copies}
use Rattle.un_facts.specs.Numbers.{one_if}
use Rattle.un_frame.specs.declared.kinds.Planned.{Planned}
use Rattle.un_frame.specs.declared.params.Lane.{Lane}
use Rattle.un_req.specs.Request.{Buffer, number_of}
use Rattle.un_endpoint.specs.declared.record.FlightRecord.{FlightRecord}
use Rattle.un_endpoint.specs.Bus.{Bus, Trip, record_of}
use Rattle.un_endpoint.specs.Outcomes.{Retries}
use Rattle.un_endpoint.specs.Ends.{Transmitter, Receiver}
use Rattle.un_journal.specs.declared.lines.Line.TheVariants.{Retried}
use Rattle.un_journal.specs.History.{History, made, those, flies, waits, waiting, flying, ended, mark, attempts, halted, posts, recalls, flights, retries, span, made_bytes, ends}
use Rattle.un_journal.specs.Sound.{IsSound}
use Rattle.un_journal.proofs.ForLane.{ended_is, in_order}
use Rattle.un_lane.specs.Way.{Way}
use Rattle.un_lane.specs.Stands.{Stands, ArePlaced, AreQueued, AreAttempts, AreTried, AreMarked, IsTx, IsFlightOf, FlightIs, IsText, serial_of, flight_serial, flight_tx, flight_rx}
use Rattle.un_lane.proofs.Landing.{out_flies, first_tried, last_one, is_made, none_over, waits_not, none_fly_now}
use Rattle.un_lane.proofs.Placing.{tx_moved, rx_moved}
use Rattle.un_lane.proofs.Serials.{those_same, those_front, those_nothing, apart, same_number}

abbrev queued_again : Bus → Buffer → Bus
queued_again bus x = record bus { queue = x ∷ bus.queue; flight = None; flight_mark = None; attempts = bus.attempts + 1 }

retry_placed : (lane : Lane) (t : Transmitter) (r : Receiver) (bus : Bus) (trip : Trip) → ArePlaced lane t r bus → bus.flight ≡ Some (record_of trip) → length trip.tx.bytes ≤ trip.tx.capacity
    → ArePlaced lane t (record r { home = r.home ++ trip.rx ∷ [] }) (queued_again bus trip.tx)
retry_placed lane t r bus trip p out short =
    let of_pool = subst (FlightIs (IsFlightOf t.size t.capacity r.size r.capacity)) out p.flight_is in
    let sized : trip.tx.capacity ≡ t.capacity = of_pool.tx_sized in
    assumption (
      p,
      tx_moved p t (queued_again bus trip.tx) refl
          (λ n. let f : copies n (flight_tx bus.flight) ≡ one_if (eqb n trip.tx.number) + 0 = ap (λ x. copies n (flight_tx x)) out in omega arith)
          (let f : length (flight_tx bus.flight) ≡ 1 = ap (λ x. length (flight_tx x)) out in omega arith),
      rx_moved p (record r { home = r.home ++ trip.rx ∷ [] }) (queued_again bus trip.tx) refl
          (λ n.
          let f : copies n (flight_rx bus.flight) ≡ one_if (eqb n trip.rx) + 0 = ap (λ x. copies n (flight_rx x)) out in
          let h : copies n (r.home ++ trip.rx ∷ []) ≡ copies n r.home + one_if (eqb n trip.rx) = copies_last n r.home trip.rx in omega arith)
          (let f : length (flight_rx bus.flight) ≡ 1 = ap (λ x. length (flight_rx x)) out in
          let h : length (r.home ++ trip.rx ∷ []) ≡ length r.home + 1 = length_push r.home trip.rx in omega arith),
      the_first t trip.tx of_pool.tx_known sized (omega (arith, short, sized)),
      p.queued_are,
    )
  where
    the_first : (t : Transmitter) (x : Buffer) → x.number < t.size → x.capacity ≡ t.capacity → length x.bytes ≤ t.capacity → IsTx t.size t.capacity x
    the_first t x known sized short = record { known = known; sized = sized; short = short }

-- a flight of k that is tried again
module _ (l : Lane) (k n : ℕ) (g : History) (sound : IsSound g) (up : flies g k ≡ true) where
  waits_again : waits ((Retried l k n, []) ∷ g) k ≡ true
  waits_again = let o = none_over l k g sound up in rw (same_number k, o.not_landed, o.not_failed, o.not_cut) refl

  waits_other : (j : ℕ) → (j ≡ k → ⊥) → waits ((Retried l k n, []) ∷ g) j ≡ waits g j
  waits_other j ne = rw (apart k j ne) refl

  waits_later : (j : ℕ) → j ≤ k → waits g j ≡ false
  waits_later j low = elim (cases_eq j k) [
    | inl same ↦ subst (λ i. waits g i ≡ false) (sym same) (waits_not l k g sound up)
    | inr ne ↦ over j (let e : k ≡ ends g = last_one l k g sound up in omega (arith, low, ne, e))
  ]
    where
      over : (j : ℕ) → j < ends g → waits g j ≡ false
      over j below =
          let e : ended g j ≡ true = ended_is g sound j ∙ (in_order g sound j).below below in
          rw e (and_false (not (flies g j)))

  pub retried_waiting : waiting ((Retried l k n, []) ∷ g) ≡ k ∷ waiting g
  retried_waiting = those_front (waits g) (waits ((Retried l k n, []) ∷ g)) k waits_again waits_other waits_later (made g) (is_made l k g sound up)

-- a number that p doesn't pass stands nowhere among those that p passes
none_same : (p : ℕ → Bool) (k : ℕ) → p k ≡ false → (n : ℕ) → AllByRecursion (λ j. (k == j) ≡ false) (those p n)
none_same p k passed zero = tt
none_same p k passed (suc n) = joined (those p n) (none_same p k passed n) (p n) refl
  where
    joined : (js : List ℕ) → AllByRecursion (λ j. (k == j) ≡ false) js → (b : Bool) → p n ≡ b → AllByRecursion (λ j. (k == j) ≡ false) (js ++ (if b then n ∷ [] else []))
    joined [] w true e = (apart k n (λ same. false≢true (sym passed ∙ subst (λ i. p i ≡ true) same e)), tt)
    joined [] w false e = tt
    joined (j ∷ js) w b e = (w.0, joined js w.1 b e)

-- a transfer that stands behind k is as often tried as before
untried_still : (l : Lane) (k n : ℕ) (g : History) (js : List ℕ) → AllByRecursion (λ j. (k == j) ≡ false) js → AllByRecursion (λ j. attempts g j ≡ 0) js
    → AllByRecursion (λ j. attempts ((Retried l k n, []) ∷ g) j ≡ 0) js
untried_still l k n g [] other none = tt
untried_still l k n g (j ∷ js) other none = (rw other.0 none.0, untried_still l k n g js other.1 none.1)

none_waits : (deferred queue : List Buffer) (flight : Option FlightRecord) (f : FlightRecord) → (0 < length deferred → (queue ≡ []) × (flight ≡ None)) → flight ≡ Some f → deferred ≡ []
none_waits [] queue flight f g e = refl
none_waits (d ∷ ds) queue flight f g e = absurd (let n : flight ≡ None = (g (omega arith)).1 in cc)

no_marks : (ms : List ℕ) → length ms ≡ 0 → ms ≡ []
no_marks [] e = refl
no_marks (m ∷ ms) e = absurd (omega arith)

-- with nothing deferred those that wait are the queued ones
wait_queue : (deferred queue : List Buffer) (ks : List ℕ) → deferred ≡ [] → ks ≡ map serial_of deferred ++ map serial_of queue → ks ≡ map serial_of queue
wait_queue deferred queue ks none e = e ∙ ap (λ (ds : List Buffer). map serial_of ds ++ map serial_of queue) none

retry_queues : (l : Lane) (n : ℕ) (g : History) (deferred : List Buffer) (bus : Bus) (trip : Trip) → IsSound g → flies g trip.tx.serial ≡ true
    → AreQueued deferred bus (waiting g) (flying g) (mark g) (halted g) (posts g) (recalls g) (flights g) (made g)
    → bus.flight ≡ Some (record_of trip) → bus.flight_mark ≡ None → length bus.marks ≡ 0
    → AreQueued deferred (queued_again bus trip.tx) (waiting ((Retried l trip.tx.serial n, []) ∷ g)) (flying ((Retried l trip.tx.serial n, []) ∷ g)) (mark g) (halted g) (posts g) (recalls g) (flights g) (made g)
retry_queues l n g deferred bus trip sound up w out unmarked none_marked =
    let none : deferred ≡ [] = none_waits deferred bus.queue bus.flight (record_of trip) w.grounded out in
    let none_left : bus.marks ≡ [] = no_marks bus.marks none_marked in
    let first : mark g trip.tx.serial ≡ None = subst (FlightIs (λ f. mark g f.serial ≡ bus.flight_mark)) out w.flight_marked ∙ unmarked in
    record {
      wait = retried_waiting l trip.tx.serial n g sound up ∙ (ap (λ ks. trip.tx.serial ∷ ks) (wait_queue deferred bus.queue (waiting g) none w.wait)
          ∙ ap (λ (ds : List Buffer). map serial_of ds ++ (trip.tx.serial ∷ map serial_of bus.queue)) (sym none));
      fly = those_nothing (flies ((Retried l trip.tx.serial n, []) ∷ g)) (none_fly_now l trip.tx.serial g sound up) (made g);
      marked = subst (λ cs. AreMarked (mark g) (trip.tx.serial ∷ map serial_of bus.queue) cs) (sym none_left) (first, subst (AreMarked (mark g) (map serial_of bus.queue)) none_left w.marked);
      unmarked = w.unmarked;
      unmade = w.unmade;
      flight_marked = tt;
      halts = w.halts;
      posted = w.posted;
      grounded = λ h. absurd (let e : length deferred ≡ 0 = ap length none in omega arith);
    }

retry_tries : (l : Lane) (n : ℕ) (g : History) (deferred : List Buffer) (bus : Bus) (trip : Trip) → IsSound g → flies g trip.tx.serial ≡ true
    → AreQueued deferred bus (waiting g) (flying g) (mark g) (halted g) (posts g) (recalls g) (flights g) (made g)
    → AreAttempts deferred bus (attempts g) (made g) → bus.flight ≡ Some (record_of trip)
    → AreAttempts deferred (queued_again bus trip.tx) (attempts ((Retried l trip.tx.serial n, []) ∷ g)) (made g)
retry_tries l n g deferred bus trip sound up q w out =
    let none : deferred ≡ [] = none_waits deferred bus.queue bus.flight (record_of trip) q.grounded out in
    let tried = first_tried (attempts g) bus trip w.tried out in
    let others = subst (AllByRecursion (λ j. (trip.tx.serial == j) ≡ false)) (wait_queue deferred bus.queue (waiting g) none q.wait) (none_same (waits g) trip.tx.serial (waits_not l trip.tx.serial g sound up) (made g)) in
    let made_is : trip.tx.serial < made g = is_made l trip.tx.serial g sound up in
    record {
      tried = (rw (same_number trip.tx.serial) (let e : attempts g trip.tx.serial ≡ bus.attempts = tried.0 in omega arith), untried_still l trip.tx.serial n g (map serial_of bus.queue) others tried.1);
      deferred_untried = subst (AllByRecursion (λ (r : Buffer). attempts ((Retried l trip.tx.serial n, []) ∷ g) r.serial ≡ 0)) (sym none) tt;
      unmade_untried = λ j h. rw (apart trip.tx.serial j (λ e. omega arith)) (w.unmade_untried j h);
    }

pub retry_stands : (way : Way) (g : History) (bus' : Bus) (trip : Trip) (plan : Planned) (rx : Buffer) (n : ℕ) → Stands way g → way.bus.flight ≡ Some (record_of trip) → made_bytes g trip.tx.serial ≡ trip.tx.bytes
    → length trip.tx.bytes ≤ trip.tx.capacity → Retries way.bus bus' trip plan rx n
    → Stands (record way { rx = record way.rx { home = way.rx.home ++ rx.number ∷ [] }; bus = bus' }) ((Retried way.lane trip.tx.serial n, []) ∷ g)
retry_stands way g bus' trip plan rx n w out bytes short a =
    let up = out_flies g way.bus.flight trip w.sound w.queues.fly out in
    let text : span g trip.tx.serial ≡ Some (trip.tx.from, trip.tx.to) = subst (FlightIs (λ f. span g f.serial ≡ Some (f.from, f.to))) out w.texts.flight_span in
    rw (a.rest, a.got) (record {
      sound = (up, w.sound);
      placed = retry_placed way.lane way.tx way.rx way.bus trip w.placed out short;
      building = w.building;
      queues = retry_queues way.lane n g way.tx.deferred way.bus trip w.sound up w.queues out a.unmarked a.none_marked;
      tries = retry_tries way.lane n g way.tx.deferred way.bus trip w.sound up w.queues w.tries out;
      ends = w.ends;
      counts = record {
        tx = w.counts.tx;
        rx = let e : length (way.rx.home ++ trip.rx ∷ []) ≡ length way.rx.home + 1 = length_push way.rx.home trip.rx in
            let s = w.counts.rx in omega (arith, s);
      };
      texts = record {
        deferred_texts = w.texts.deferred_texts;
        queued_texts = (is_text text bytes, w.texts.queued_texts);
        arrived_texts = w.texts.arrived_texts;
        current_text = w.texts.current_text;
        flight_span = tt;
        some = w.texts.some;
        whole = w.texts.whole;
      };
    })
  where
    is_text : span g trip.tx.serial ≡ Some (trip.tx.from, trip.tx.to) → made_bytes g trip.tx.serial ≡ trip.tx.bytes → IsText (span g) (made_bytes g) trip.tx
    is_text text bytes = record { span_is = text; bytes_are = bytes }
