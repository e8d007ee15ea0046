-- What the history of a link with a phase looks up, by what the path has: what is deferred, queued and unmarked, and what is home.
use Rattle.std.proofs.Common.{◌≡◌, ℕ, zero, suc, ◌<◌, ◌≤◌, Bool, true, false, not, ◌&&◌, ◌||◌, List, [], ◌∷◌, ◌++◌, length, map, drop, filter, Option, Some, None, is_some, inl, inr, refl, sym, ap, ◌∙◌, arith, append-nil, append_assoc, if◌then◌else◌}
use Rattle.std.proofs.lemmas.Bool.{false≢true, cases_Bool, cases_lt}
use Rattle.un_facts.proofs.Booleans.{and_false}
use Rattle.un_frame.specs.declared.params.Lane.{Lane}
use Rattle.un_frame.specs.declared.params.Lane.TheVariants.{Outward, Inward}
use Rattle.un_frame.specs.declared.kinds.Phase.{Phase}
use Rattle.un_frame.specs.declared.kinds.Phase.TheVariants.{Up, Asleep, Stopping, Leaving, Down, Away}
use Rattle.un_endpoint.specs.declared.record.FlightRecord.{FlightRecord}
use Rattle.un_journal.specs.History.{History, made, those, flies, waits, waiting, ended, mark, ends}
use Rattle.un_journal.specs.Lookup.{deferred, queued, unmarked, is_deferring, is_asleep}
use Rattle.un_journal.specs.Sound.{IsSound}
use Rattle.un_journal.proofs.ForLane.{in_order, flight_is, ended_is}
use Rattle.un_lane.specs.Way.{Way}
use Rattle.un_lane.specs.Phases.{Agrees, defers}
use Rattle.un_lane.specs.Controls.{unmarked_flight, unmarked_in}
use Rattle.un_lane.specs.Stands.{Stands, AreMarked, FlightIs, serial_of, flight_serial}
use Rattle.un_lane.proofs.Serials.{those_same}

-- DEFERRED AND QUEUED

pub deferring_is : (phase : Phase) (lane : Lane) → is_deferring phase lane ≡ defers lane (is_asleep phase)
deferring_is Up Outward = refl
deferring_is Up Inward = refl
deferring_is Asleep Outward = refl
deferring_is Asleep Inward = refl
deferring_is Stopping Outward = refl
deferring_is Stopping Inward = refl
deferring_is Leaving Outward = refl
deferring_is Leaving Inward = refl
deferring_is Down Outward = refl
deferring_is Down Inward = refl
deferring_is Away Outward = refl
deferring_is Away Inward = refl

queued_when : (phase : Phase) (lane : Lane) (g : History) → queued phase lane g ≡ (if is_deferring phase lane then [] else waiting g)
queued_when Up Outward g = refl
queued_when Up Inward g = refl
queued_when Asleep Outward g = refl
queued_when Asleep Inward g = refl
queued_when Stopping Outward g = refl
queued_when Stopping Inward g = refl
queued_when Leaving Outward g = refl
queued_when Leaving Inward g = refl
queued_when Down Outward g = refl
queued_when Down Inward g = refl
queued_when Away Outward g = refl
queued_when Away Inward g = refl

deferred_when : (phase : Phase) (lane : Lane) (g : History) → deferred phase lane g ≡ (if is_deferring phase lane then waiting g else [])
deferred_when Up Outward g = refl
deferred_when Up Inward g = refl
deferred_when Asleep Outward g = refl
deferred_when Asleep Inward g = refl
deferred_when Stopping Outward g = refl
deferred_when Stopping Inward g = refl
deferred_when Leaving Outward g = refl
deferred_when Leaving Inward g = refl
deferred_when Down Outward g = refl
deferred_when Down Inward g = refl
deferred_when Away Outward g = refl
deferred_when Away Inward g = refl

pub queued_is : (phase : Phase) (way : Way) (g : History) → Stands way g → Agrees (is_asleep phase) way → queued phase way.lane g ≡ map serial_of way.bus.queue
queued_is phase way g w a = queued_when phase way.lane g ∙ (ap (λ b. if b then [] else waiting g) (deferring_is phase way.lane) ∙ go (defers way.lane (is_asleep phase)) refl)
  where
    go : (b : Bool) → defers way.lane (is_asleep phase) ≡ b → (if b then [] else waiting g) ≡ map serial_of way.bus.queue
    go true e = ap (map serial_of) (sym (a.none_queued e).0)
    go false e = w.queues.wait ∙ ap (λ ds. map serial_of ds ++ map serial_of way.bus.queue) (a.none_deferred e)

pub deferred_is : (phase : Phase) (way : Way) (g : History) → Stands way g → Agrees (is_asleep phase) way → deferred phase way.lane g ≡ map serial_of way.tx.deferred
deferred_is phase way g w a = deferred_when phase way.lane g ∙ (ap (λ b. if b then waiting g else []) (deferring_is phase way.lane) ∙ go (defers way.lane (is_asleep phase)) refl)
  where
    go : (b : Bool) → defers way.lane (is_asleep phase) ≡ b → (if b then waiting g else []) ≡ map serial_of way.tx.deferred
    go true e = w.queues.wait ∙ (ap (λ q. map serial_of way.tx.deferred ++ map serial_of q) (a.none_queued e).0 ∙ append-nil (map serial_of way.tx.deferred))
    go false e = ap (map serial_of) (sym (a.none_deferred e))

-- UNMARKED

those_filter : (p q : ℕ → Bool) (n : ℕ) → those (λ k. p k && q k) n ≡ filter q (those p n)
those_filter p q zero = refl
those_filter p q (suc n) = ap (λ xs. xs ++ (if p n && q n then n ∷ [] else [])) (those_filter p q n) ∙ last (p n)
  where
    joined : (xs ys : List ℕ) → filter q (xs ++ ys) ≡ filter q xs ++ filter q ys
    joined [] ys = refl
    joined (x ∷ xs) ys = go (q x) (joined xs ys)
      where
        go : (b : Bool) → filter q (xs ++ ys) ≡ filter q xs ++ filter q ys → (if b then (x ∷ filter q (xs ++ ys)) else filter q (xs ++ ys)) ≡ (if b then (x ∷ filter q xs) else filter q xs) ++ filter q ys
        go true e = ap (λ zs. x ∷ zs) e
        go false e = e

    last : (b : Bool) → filter q (those p n) ++ (if b && q n then n ∷ [] else []) ≡ filter q (those p n ++ (if b then n ∷ [] else []))
    last true = sym (joined (those p n) (n ∷ []))
    last false = append-nil (filter q (those p n)) ∙ ap (filter q) (sym (append-nil (those p n)))

-- what passes the one test is below what passes the other
those_both : (p q : ℕ → Bool) → ((i j : ℕ) → p i ≡ true → q j ≡ true → i < j) → (n : ℕ) → those (λ k. p k || q k) n ≡ those p n ++ those q n
those_both p q h zero = refl
those_both p q h (suc n) = ap (λ xs. xs ++ (if p n || q n then n ∷ [] else [])) (those_both p q h n) ∙ go (p n) refl
  where
    none : (m : ℕ) → m ≤ n → p n ≡ true → those q m ≡ []
    none zero l e = refl
    none (suc m) l e = ap (λ xs. xs ++ (if q m then m ∷ [] else [])) (none m (omega arith) e) ∙ off (q m) refl
      where
        off : (b : Bool) → q m ≡ b → (if b then m ∷ [] else []) ≡ []
        off false f = refl
        off true f = absurd (let s : n < m = h n m e f in omega arith)

    not_here : p n ≡ true → q n ≡ false
    not_here e = elim (cases_Bool (q n)) [ inl f ↦ absurd (let s : n < n = h n n e f in omega arith) | inr f ↦ f ]

    go : (b : Bool) → p n ≡ b → (those p n ++ those q n) ++ (if b || q n then n ∷ [] else []) ≡ (those p n ++ (if b then n ∷ [] else [])) ++ (those q n ++ (if q n then n ∷ [] else []))
    go true e =
        ap (λ xs. (those p n ++ xs) ++ n ∷ []) (none n (omega arith) e)
        ∙ (ap (λ xs. xs ++ n ∷ []) (append-nil (those p n))
        ∙ sym (ap (λ xs. (those p n ++ n ∷ []) ++ xs) (ap (λ xs. xs ++ (if q n then n ∷ [] else [])) (none n (omega arith) e) ∙ ap (λ b. if b then n ∷ [] else []) (not_here e)) ∙ append-nil (those p n ++ n ∷ [])))
    go false e = append_assoc (those p n) (those q n) (if q n then n ∷ [] else []) ∙ ap (λ xs. xs ++ (those q n ++ (if q n then n ∷ [] else []))) (sym (append-nil (those p n)))

-- a flight is below every transfer that waits
flight_below : (g : History) → IsSound g → (i j : ℕ) → flies g i ≡ true → waits g j ≡ true → i < j
flight_below g sound i j up w =
    let at : i ≡ ends g = flight_is g sound (in_order g sound) i up in
    elim (cases_lt j (ends g)) [
      | inl low ↦ absurd (over (flies g j) (ended_is g sound j ∙ (in_order g sound j).below low))
      | inr high ↦ elim (cases_lt i j) [ inl h ↦ h | inr h ↦ absurd (flying_too (let s : j ≡ i = omega arith in s)) ]
    ]
  where
    over : (b : Bool) → ended g j ≡ true → ⊥
    over b e = false≢true (sym at_end ∙ w)
      where
        at_end : waits g j ≡ false
        at_end = ap (λ x. not (flies g j) && not x) e ∙ and_false (not (flies g j))

    flying_too : j ≡ i → ⊥
    flying_too s = false≢true (sym (ap (λ x. not x && not (ended g j)) (ap (flies g) s ∙ up)) ∙ w)

unmarked_queue : (m : ℕ → Option ℕ) (ks cs : List ℕ) → AreMarked m ks cs → filter (λ k. not (is_some (m k))) ks ≡ drop (length cs) ks
unmarked_queue m [] [] a = refl
unmarked_queue m [] (c ∷ cs) a = absurd (let l : suc (length cs) ≡ 0 = ap length a in omega arith)
unmarked_queue m (k ∷ ks) [] a = rw a.0 (ap (λ xs. k ∷ xs) (unmarked_queue m ks [] a.1))
unmarked_queue m (k ∷ ks) (c ∷ cs) a = rw a.0 (unmarked_queue m ks cs a.1)

unmarked_one : (m : ℕ → Option ℕ) (flight : Option FlightRecord) (fm : Option ℕ) → FlightIs (λ f. m f.serial ≡ fm) flight → filter (λ k. not (is_some (m k))) (flight_serial flight) ≡ unmarked_flight flight fm
unmarked_one m None fm a = refl
unmarked_one m (Some f) None a = rw a refl
unmarked_one m (Some f) (Some c) a = rw a refl

filter_joined : (q : ℕ → Bool) (xs ys : List ℕ) → filter q (xs ++ ys) ≡ filter q xs ++ filter q ys
filter_joined q [] ys = refl
filter_joined q (x ∷ xs) ys = go (q x) (filter_joined q xs ys)
  where
    go : (b : Bool) → filter q (xs ++ ys) ≡ filter q xs ++ filter q ys → (if b then (x ∷ filter q (xs ++ ys)) else filter q (xs ++ ys)) ≡ (if b then (x ∷ filter q xs) else filter q xs) ++ filter q ys
    go true e = ap (λ zs. x ∷ zs) e
    go false e = e

or_off : (b : Bool) → (b || false) ≡ b
or_off true = refl
or_off false = refl

pub unmarked_is : (phase : Phase) (way : Way) (g : History) → Stands way g → Agrees (is_asleep phase) way → unmarked phase way.lane g ≡ unmarked_in way.bus
unmarked_is phase way g w a =
    those_filter (λ k. flies g k || (not (is_deferring phase way.lane) && waits g k)) (λ k. not (is_some (mark g k))) (made g)
    ∙ (ap (filter (λ k. not (is_some (mark g k)))) (all (is_deferring phase way.lane) (deferring_is phase way.lane)) ∙ (filter_joined (λ k. not (is_some (mark g k))) (flight_serial way.bus.flight) (map serial_of way.bus.queue)
    ∙ (ap (λ xs. xs ++ filter (λ k. not (is_some (mark g k))) (map serial_of way.bus.queue)) (unmarked_one (mark g) way.bus.flight way.bus.flight_mark w.queues.flight_marked)
    ∙ ap (λ xs. unmarked_flight way.bus.flight way.bus.flight_mark ++ xs) (unmarked_queue (mark g) (map serial_of way.bus.queue) way.bus.marks w.queues.marked))))
  where
    all : (b : Bool) → b ≡ defers way.lane (is_asleep phase) → those (λ k. flies g k || (not b && waits g k)) (made g) ≡ flight_serial way.bus.flight ++ map serial_of way.bus.queue
    all true e =
        let none = a.none_queued (sym e) in
        those_same (flies g) (λ k. flies g k || (not true && waits g k)) (made g) (λ j l. or_off (flies g j))
        ∙ (w.queues.fly ∙ (sym (append-nil (flight_serial way.bus.flight)) ∙ ap (λ q. flight_serial way.bus.flight ++ map serial_of q) (sym none.0)))
    all false e =
        those_both (flies g) (waits g) (flight_below g w.sound) (made g)
        ∙ (ap (λ xs. xs ++ waiting g) w.queues.fly ∙ ap (λ xs. flight_serial way.bus.flight ++ xs) (w.queues.wait ∙ ap (λ ds. map serial_of ds ++ map serial_of way.bus.queue) (a.none_deferred (sym e))))
