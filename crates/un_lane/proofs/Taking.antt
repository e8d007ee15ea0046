-- A path that has taken a flight, or given up a marked transfer, stands for the lane with one line more.
use Rattle.std.proofs.Common.{◌≡◌, ℕ, suc, ◌+◌, ◌<◌, ◌≤◌, Bool, true, false, not, ◌||◌, ◌==◌, eqb, List, [], ◌∷◌, ◌++◌, length, map, Option, Some, None, inr, refl, sym, ap, ◌∙◌, subst, arith}
use Rattle.std.specs.List.{AllByRecursion}
use Rattle.std.proofs.lemmas.List.{length_push}
use Rattle.un_facts.proofs.Booleans.{and_false}
use Rattle.un_facts.proofs.Numbers.{one_here}
use Rattle.un_facts.specs.Lists.{copies}
use Rattle.un_facts.specs.Numbers.{one_if}
use Rattle.un_frame.specs.declared.params.Lane.{Lane}
use Rattle.un_req.specs.Request.{Buffer, number_of}
use Rattle.un_endpoint.specs.declared.record.FlightRecord.{FlightRecord}
use Rattle.un_endpoint.specs.Bus.{Bus, Trip, record_of}
use Rattle.un_endpoint.specs.Outcomes.{Departs, Reaps}
use Rattle.un_endpoint.specs.Ends.{Transmitter, Receiver, IsAwayTx, tx_copies}
use Rattle.un_journal.specs.declared.lines.Line.TheVariants.{Flying, Cut}
use Rattle.un_journal.specs.History.{History, attempts, made, flies, waits, waiting, flying, ended, landed, failed, was_cut, mark, halted, posts, recalls, flights, first, span, made_bytes, ends}
use Rattle.un_journal.specs.Sound.{IsNext}
use Rattle.un_journal.proofs.ForLane.{those_rest, next_from, in_order, next_is}
use Rattle.un_lane.specs.Way.{Way}
use Rattle.un_lane.specs.Stands.{Stands, ArePlaced, AreQueued, AreMarked, AreTried, IsTx, IsRx, IsText, serial_of, flight_serial, flight_tx, flight_rx}
use Rattle.un_lane.proofs.Counting.{copies_more, map_last}
use Rattle.un_lane.proofs.Finishing.{finish_plus}
use Rattle.un_lane.proofs.Placing.{tx_moved, rx_moved}
use Rattle.un_lane.proofs.Trying.{tried_rest}
use Rattle.un_lane.proofs.Serials.{those_single, those_nothing, apart, same_number}

-- where something is queued nothing is deferred
pub none_deferred : (deferred queue : List Buffer) (flight : Option FlightRecord) (x : Buffer) (xs : List Buffer) → (0 < length deferred → (queue ≡ []) × (flight ≡ None)) → queue ≡ x ∷ xs → deferred ≡ []
none_deferred [] queue flight x xs g e = refl
none_deferred (d ∷ ds) queue flight x xs g e = absurd (let n : queue ≡ [] = (g (omega arith)).0 in cc)

-- the first that waits is the first queued transfer
pub queue_waits : (deferred : List Buffer) (bus : Bus) (x : Buffer) (xs : List Buffer) (ks : List ℕ) → deferred ≡ [] → bus.queue ≡ x ∷ xs → ks ≡ map serial_of deferred ++ map serial_of bus.queue → ks ≡ x.serial ∷ map serial_of xs
queue_waits deferred bus x xs ks d q w = w ∙ (ap (λ ds. map serial_of ds ++ map serial_of bus.queue) d ∙ ap (map serial_of) q)

depart_placed : (lane : Lane) (t : Transmitter) (r : Receiver) (bus : Bus) (trip : Trip) (posted : Buffer) (queue' posted' : List Buffer) → ArePlaced lane t r bus → bus.flight ≡ None
    → bus.queue ≡ trip.tx ∷ queue' → bus.posted ≡ posted ∷ posted' → trip.rx ≡ posted.number → trip.rx_capacity ≡ posted.capacity
    → ArePlaced lane t r (record bus { queue = queue'; posted = posted'; flight = Some (record_of trip); flight_mark = None })
depart_placed lane t r bus trip posted queue' posted' p alone q o number capacity =
    let queued = subst (AllByRecursion (IsTx t.size t.capacity)) q p.queued_are in
    let lent = subst (AllByRecursion (IsRx r.size r.capacity)) o p.posted_are in
    assumption (
      p,
      tx_moved p t (record bus { queue = queue'; posted = posted'; flight = Some (record_of trip); flight_mark = None }) refl
          (λ n.
          let e : copies n (map number_of bus.queue) ≡ one_if (eqb n trip.tx.number) + copies n (map number_of queue') = ap (λ xs. copies n (map number_of xs)) q in
          let f : copies n (flight_tx bus.flight) ≡ 0 = ap (λ x. copies n (flight_tx x)) alone in omega arith)
          (let e : length bus.queue ≡ suc (length queue') = ap length q in
          let f : length (flight_tx bus.flight) ≡ 0 = ap (λ x. length (flight_tx x)) alone in omega arith),
      rx_moved p r (record bus { queue = queue'; posted = posted'; flight = Some (record_of trip); flight_mark = None }) refl
          (λ n.
          let e : copies n (map number_of bus.posted) ≡ one_if (eqb n posted.number) + copies n (map number_of posted') = ap (λ xs. copies n (map number_of xs)) o in
          let f : copies n (flight_rx bus.flight) ≡ 0 = ap (λ x. copies n (flight_rx x)) alone in
          let s : one_if (eqb n trip.rx) ≡ one_if (eqb n posted.number) = ap (λ m. one_if (eqb n m)) number in omega arith)
          (let e : length bus.posted ≡ suc (length posted') = ap length o in
          let f : length (flight_rx bus.flight) ≡ 0 = ap (λ x. length (flight_rx x)) alone in omega arith),
      queued.1,
      lent.1,
      queued.0,
      subst (λ m. m < r.size) (sym number) lent.0.known,
      capacity ∙ lent.0.sized,
    )

-- a flight of k
module _ (l : Lane) (k : ℕ) (g : History) (next : IsNext g k) where
  waits_other : (j : ℕ) → (j ≡ k → ⊥) → waits ((Flying l k, []) ∷ g) j ≡ waits g j
  waits_other j ne = rw (apart k j ne) refl

  waits_here : waits ((Flying l k, []) ∷ g) k ≡ false
  waits_here = rw (same_number k) refl

  pub waiting_less : (ks : List ℕ) → waiting g ≡ k ∷ ks → waiting ((Flying l k, []) ∷ g) ≡ ks
  waiting_less ks e = those_rest (waits g) (waits ((Flying l k, []) ∷ g)) k waits_here waits_other (made g) ks e

  pub flying_one : flying ((Flying l k, []) ∷ g) ≡ k ∷ []
  flying_one = those_single (flies ((Flying l k, []) ∷ g)) k (rw (same_number k) refl) (λ j ne. rw (apart k j ne) (next.is_alone j)) (made g) next.is_made

depart_queues : (l : Lane) (g : History) (deferred : List Buffer) (bus : Bus) (trip : Trip) (posted : Buffer) (queue' posted' : List Buffer) → IsNext g trip.tx.serial
    → AreQueued deferred bus (waiting g) (flying g) (mark g) (halted g) (posts g) (recalls g) (flights g) (made g) → bus.marks ≡ []
    → bus.queue ≡ trip.tx ∷ queue' → bus.posted ≡ posted ∷ posted'
    → AreQueued deferred (record bus { queue = queue'; posted = posted'; flight = Some (record_of trip); flight_mark = None })
    (waiting ((Flying l trip.tx.serial, []) ∷ g)) (flying ((Flying l trip.tx.serial, []) ∷ g)) (mark g) (halted g) (posts g) (recalls g) (flights g + 1) (made g)
depart_queues l g deferred bus trip posted queue' posted' next w m q o =
    let d : deferred ≡ [] = none_deferred deferred bus.queue bus.flight trip.tx queue' w.grounded q in
    let marks : AreMarked (mark g) (trip.tx.serial ∷ map serial_of queue') [] =
    subst (λ cs. AreMarked (mark g) (trip.tx.serial ∷ map serial_of queue') cs) m (subst (λ xs. AreMarked (mark g) (map serial_of xs) bus.marks) q w.marked) in
    record {
      wait = waiting_less l trip.tx.serial g next (map serial_of queue') (queue_waits deferred bus trip.tx queue' (waiting g) d q w.wait)
          ∙ ap (λ ds. map serial_of ds ++ map serial_of queue') (sym d);
      fly = flying_one l trip.tx.serial g next;
      marked = subst (λ cs. AreMarked (mark g) (map serial_of queue') cs) (sym m) marks.1;
      unmarked = w.unmarked;
      unmade = w.unmade;
      flight_marked = marks.0;
      halts = w.halts;
      posted =
          let e : length bus.posted ≡ suc (length posted') = ap length o in
          let s : recalls g + flights g + length bus.posted ≡ posts g = w.posted in omega arith;
      grounded = λ h. absurd (let e : length deferred ≡ 0 = ap length d in omega arith);
    }

pub next_queued : (way : Way) (g : History) (x : Buffer) (xs : List Buffer) → Stands way g → way.bus.flight ≡ None → way.bus.queue ≡ x ∷ xs → IsNext g x.serial
next_queued way g x xs w alone q =
    let d : way.tx.deferred ≡ [] = none_deferred way.tx.deferred way.bus.queue way.bus.flight x xs w.queues.grounded q in
    next_from g x.serial w.sound (w.queues.fly ∙ ap flight_serial alone)
    (ap first (queue_waits way.tx.deferred way.bus x xs (waiting g) d q w.queues.wait))

-- with no flight the first queued transfer has the count
waiting_tried : (attempts' : ℕ → ℕ) (flight : Option FlightRecord) (queue : List Buffer) (count : ℕ) (x : Buffer) (xs : List Buffer) → AreTried attempts' (flight_serial flight ++ map serial_of queue) count → flight ≡ None → queue ≡ x ∷ xs
    → AreTried attempts' (x.serial ∷ map serial_of xs) count
waiting_tried attempts' flight queue count x xs w alone q =
    subst (λ (ys : List Buffer). AreTried attempts' (map serial_of ys) count) q (subst (λ f. AreTried attempts' (flight_serial f ++ map serial_of queue) count) alone w)

pub depart_stands : (way : Way) (g : History) (bus' : Bus) (trip : Trip) → Stands way g → Departs way.bus bus' trip
    → Stands (record way { bus = bus' }) ((Flying way.lane trip.tx.serial, []) ∷ g)
depart_stands way g bus' trip w dep =
    let next = next_queued way g trip.tx bus'.queue w dep.alone dep.left in
    let texts = subst (AllByRecursion (IsText (span g) (made_bytes g))) dep.left w.texts.queued_texts in
    let tried = waiting_tried (attempts g) way.bus.flight way.bus.queue way.bus.attempts trip.tx bus'.queue w.tries.tried dep.alone dep.left in
    let stands : Stands (record way { bus = record way.bus { queue = bus'.queue; posted = bus'.posted; flight = Some (record_of trip); flight_mark = None } }) ((Flying way.lane trip.tx.serial, []) ∷ g) =
    record {
      sound = (next, w.sound);
      placed = depart_placed way.lane way.tx way.rx way.bus trip dep.posted bus'.queue bus'.posted w.placed dep.alone dep.left dep.used dep.number dep.capacity;
      building = w.building;
      queues = depart_queues way.lane g way.tx.deferred way.bus trip dep.posted bus'.queue bus'.posted next w.queues dep.unmarked dep.left dep.used;
      tries = record { tried = tried; deferred_untried = w.tries.deferred_untried; unmade_untried = w.tries.unmade_untried };
      ends = w.ends;
      counts = w.counts;
      texts = assumption (w.texts, texts.1, texts.0.span_is);
    } in
    subst (λ b. Stands (record way { bus = b }) ((Flying way.lane trip.tx.serial, []) ∷ g)) (sym dep.rest) stands

-- GIVING UP A MARKED TRANSFER

pub queued_away : (lane : Lane) (t : Transmitter) (r : Receiver) (bus : Bus) (x : Buffer) (xs : List Buffer) → ArePlaced lane t r bus → bus.queue ≡ x ∷ xs → IsAwayTx t x
queued_away lane t r bus x xs p q =
    let queued = subst (AllByRecursion (IsTx t.size t.capacity)) q p.queued_are in
    record {
      known = queued.0.known;
      sized = queued.0.sized;
      away =
          let e : copies x.number (map number_of bus.queue) ≡ one_if (eqb x.number x.number) + copies x.number (map number_of xs) = ap (λ ys. copies x.number (map number_of ys)) q in
          let s : one_if (eqb x.number x.number) ≡ 1 = one_here x.number in
          let w : tx_copies t x.number + (copies x.number (map number_of bus.queue) + copies x.number (flight_tx bus.flight)) ≤ 1 = p.tx_once x.number in omega arith;
    }

reap_placed : (lane : Lane) (t : Transmitter) (r : Receiver) (bus : Bus) (x : Buffer) (queue' : List Buffer) (marks' : List ℕ) → ArePlaced lane t r bus → bus.queue ≡ x ∷ queue'
    → ArePlaced lane (record t { done = t.done ++ x ∷ [] }) r (record bus { queue = queue'; marks = marks'; attempts = 0 })
reap_placed lane t r bus x queue' marks' p q =
    let queued = subst (AllByRecursion (IsTx t.size t.capacity)) q p.queued_are in
    assumption (
      p,
      tx_moved p (record t { done = t.done ++ x ∷ [] }) (record bus { queue = queue'; marks = marks'; attempts = 0 }) refl
          (λ n.
          let e : copies n (map number_of bus.queue) ≡ one_if (eqb n x.number) + copies n (map number_of queue') = ap (λ xs. copies n (map number_of xs)) q in
          let d : copies n (map number_of (t.done ++ x ∷ [])) ≡ copies n (map number_of t.done) + one_if (eqb n x.number) = copies_more n t.done x in omega arith)
          (let e : length bus.queue ≡ suc (length queue') = ap length q in
          let d : length (t.done ++ x ∷ []) ≡ length t.done + 1 = length_push t.done x in omega arith),
      queued.1,
    )

-- a cut of k, which waits
module _ (l : Lane) (k c : ℕ) (g : History) (next : IsNext g k) where
  pub cut_waiting : (ks : List ℕ) → waiting g ≡ k ∷ ks → waiting ((Cut l k c, []) ∷ g) ≡ ks
  cut_waiting ks e = those_rest (waits g) (waits ((Cut l k c, []) ∷ g)) k cut_here cut_other (made g) ks e
    where
      cut_other : (j : ℕ) → (j ≡ k → ⊥) → waits ((Cut l k c, []) ∷ g) j ≡ waits g j
      cut_other j ne = rw (apart k j ne) refl

      or_last : (b : Bool) → not (b || true) ≡ false
      or_last true = refl
      or_last false = refl

      cut_here : waits ((Cut l k c, []) ∷ g) k ≡ false
      cut_here = rw (same_number k) (or_last (landed g k || failed g k))

  pub cut_flying : flying ((Cut l k c, []) ∷ g) ≡ []
  cut_flying = those_nothing (flies ((Cut l k c, []) ∷ g)) (λ j. rw (next.is_alone j) (and_false (not (k == j)))) (made g)

reap_queues : (l : Lane) (g : History) (deferred : List Buffer) (bus : Bus) (x : Buffer) (queue' : List Buffer) (c : ℕ) (marks' : List ℕ) → IsNext g x.serial
    → AreQueued deferred bus (waiting g) (flying g) (mark g) (halted g) (posts g) (recalls g) (flights g) (made g)
    → bus.flight ≡ None → bus.queue ≡ x ∷ queue' → bus.marks ≡ c ∷ marks'
    → (mark g x.serial ≡ Some c) × AreQueued deferred (record bus { queue = queue'; marks = marks'; attempts = 0 })
    (waiting ((Cut l x.serial c, []) ∷ g)) (flying ((Cut l x.serial c, []) ∷ g)) (mark g) (halted g) (posts g) (recalls g) (flights g) (made g)
reap_queues l g deferred bus x queue' c marks' next w alone q m =
    let d : deferred ≡ [] = none_deferred deferred bus.queue bus.flight x queue' w.grounded q in
    let marks : AreMarked (mark g) (x.serial ∷ map serial_of queue') (c ∷ marks') =
    subst (λ cs. AreMarked (mark g) (x.serial ∷ map serial_of queue') cs) m (subst (λ xs. AreMarked (mark g) (map serial_of xs) bus.marks) q w.marked) in (
      marks.0,
      record {
        wait = cut_waiting l x.serial c g next (map serial_of queue') (queue_waits deferred bus x queue' (waiting g) d q w.wait)
            ∙ ap (λ ds. map serial_of ds ++ map serial_of queue') (sym d);
        fly = cut_flying l x.serial c g next ∙ ap flight_serial (sym alone);
        marked = marks.1;
        unmarked = w.unmarked;
        unmade = w.unmade;
        flight_marked = w.flight_marked;
        halts = w.halts;
        posted = w.posted;
        grounded = λ h. absurd (let e : length deferred ≡ 0 = ap length d in omega arith);
      },
    )

pub reap_stands : (way : Way) (g : History) (bus' : Bus) (x : Buffer) (c : ℕ) → Stands way g → Reaps way.bus bus' x c
    → Stands (record way { tx = record way.tx { done = way.tx.done ++ x ∷ [] }; bus = bus' }) ((Cut way.lane x.serial c, []) ∷ g)
reap_stands way g bus' x c w rep =
    let next = next_queued way g x bus'.queue w rep.alone rep.left in
    let texts = subst (AllByRecursion (IsText (span g) (made_bytes g))) rep.left w.texts.queued_texts in
    let queues = reap_queues way.lane g way.tx.deferred way.bus x bus'.queue c bus'.marks next w.queues rep.alone rep.left rep.marked in
    let last : x.serial ≡ ends g = next_is g w.sound (in_order g w.sound) x.serial next in
    let tried = waiting_tried (attempts g) way.bus.flight way.bus.queue way.bus.attempts x bus'.queue w.tries.tried rep.alone rep.left in
    let stands : Stands (record way { tx = record way.tx { done = way.tx.done ++ x ∷ [] }; bus = record way.bus { queue = bus'.queue; marks = bus'.marks; attempts = 0 } }) ((Cut way.lane x.serial c, []) ∷ g) =
    record {
      sound = (inr next, w.sound);
      placed = reap_placed way.lane way.tx way.rx way.bus x bus'.queue bus'.marks w.placed rep.left;
      building = w.building;
      queues = queues.1;
      tries = record { tried = subst (λ f. AreTried (attempts g) (flight_serial f ++ map serial_of bus'.queue) 0) (sym rep.alone) (tried_rest (attempts g) (map serial_of bus'.queue) tried.1); deferred_untried = w.tries.deferred_untried; unmade_untried = w.tries.unmade_untried };
      ends = record {
        done_is = finish_plus g w.sound x.serial last next.is_made (ended ((Cut way.lane x.serial c, []) ∷ g))
            (rw (same_number x.serial) (or_true (landed g x.serial || failed g x.serial))) (λ j ne. rw (apart x.serial j ne) refl)
            ∙ (ap (λ ks. ks ++ x.serial ∷ []) w.ends.done_is ∙ sym (map_last serial_of way.tx.done x));
        arrived_is = w.ends.arrived_is;
        current_is = w.ends.current_is;
        left_is = w.ends.left_is;
      };
      counts = rw (next.is_alone x.serial) w.counts;
      texts = assumption (w.texts, texts.1);
    } in
    subst (λ b. Stands (record way { tx = record way.tx { done = way.tx.done ++ x ∷ [] }; bus = b }) ((Cut way.lane x.serial c, []) ∷ g)) (sym rep.rest) stands
  where
    or_true : (a : Bool) → (a || (true || was_cut g x.serial)) ≡ true
    or_true true = refl
    or_true false = refl
