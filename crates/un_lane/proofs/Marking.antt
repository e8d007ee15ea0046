-- A path that has marked a transfer stands for the lane with one line more.
use Rattle.std.proofs.Common.{◌≡◌, ℕ, zero, suc, ◌<◌, Bool, true, false, not, ◌&&◌, List, [], ◌∷◌, ◌++◌, length, map, drop, Option, Some, None, is_some, slice_get, inl, inr, refl, sym, ap, ◌∙◌, subst, arith, add-one, append-nil, drop_of_length-le, if◌then◌else◌}
use Rattle.std.proofs.lemmas.Bool.{false≢true}
use Rattle.std.proofs.lemmas.List.{length-map, length_push}
use Rattle.std.proofs.lemmas.Option.{slice_get-map}
use Rattle.std.specs.List.{AllByRecursion}
use Rattle.std.specs.Option.{option_map}
use Rattle.un_frame.specs.declared.params.Lane.{Lane}
use Rattle.un_req.specs.Request.{Buffer}
use Rattle.un_endpoint.specs.declared.record.FlightRecord.{FlightRecord}
use Rattle.un_endpoint.specs.Bus.{Bus}
use Rattle.un_endpoint.specs.Outcomes.{MarksNone, Marks}
use Rattle.un_endpoint.specs.Ends.{Transmitter, Receiver}
use Rattle.un_journal.specs.declared.lines.Line.TheVariants.{Marked}
use Rattle.un_journal.specs.History.{History, made, those, flies, waits, waiting, flying, mark, halted, posts, recalls, flights, first}
use Rattle.un_journal.proofs.ForLane.{those_first}
use Rattle.un_lane.specs.Way.{Way}
use Rattle.un_lane.specs.Controls.{unmarked_flight, unmarked_in}
use Rattle.un_lane.specs.Stands.{Stands, ArePlaced, AreQueued, AreMarked, FlightIs, serial_of, flight_serial}
use Rattle.un_lane.proofs.Making.{those_below}
use Rattle.un_lane.proofs.Serials.{apart, same_number}

-- LISTS OF SERIALS

-- a list by a test passes it, and rises
pub those_pass : (p : ℕ → Bool) (n : ℕ) → AllByRecursion (λ k. p k ≡ true) (those p n)
those_pass p zero = tt
those_pass p (suc n) = joined (those p n) _ (those_pass p n) (last (p n) refl)
  where
    joined : (xs ys : List ℕ) → AllByRecursion (λ k. p k ≡ true) xs → AllByRecursion (λ k. p k ≡ true) ys → AllByRecursion (λ k. p k ≡ true) (xs ++ ys)
    joined [] ys a b = b
    joined (x ∷ xs) ys a b = (a.0, joined xs ys a.1 b)

    last : (b : Bool) → p n ≡ b → AllByRecursion (λ k. p k ≡ true) (if b then n ∷ [] else [])
    last true e = (e, tt)
    last false e = tt

pub Rises : List ℕ → Type 0
Rises [] = Unit {0}
Rises (x ∷ xs) = AllByRecursion (λ y. x < y) xs × Rises xs

pub those_rise : (p : ℕ → Bool) (n : ℕ) → Rises (those p n)
unfolding Rises
those_rise p zero = tt
those_rise p (suc n) = go (p n) (those_rise p n)
  where
    above : (x : ℕ) (xs : List ℕ) → AllByRecursion (λ y. x < y) xs → x < n → AllByRecursion (λ y. x < y) (xs ++ n ∷ [])
    above x [] a h = (h, tt)
    above x (y ∷ ys) a h = (a.0, above x ys a.1 h)

    last : (xs : List ℕ) → AllByRecursion (λ k. k < n) xs → Rises xs → Rises (xs ++ n ∷ [])
    last [] b r = (tt, tt)
    last (x ∷ xs) b r = (above x xs r.0 b.0, last xs b.1 r.1)

    go : (b : Bool) → Rises (those p n) → Rises (those p n ++ (if b then n ∷ [] else []))
    go true r = last (those p n) (those_below p n) r
    go false r = subst Rises (sym (append-nil (those p n))) r

all_front : (P : ℕ → Type 0) (xs ys : List ℕ) → AllByRecursion P (xs ++ ys) → AllByRecursion P xs
all_front P [] ys a = tt
all_front P (x ∷ xs) ys a = (a.0, all_front P xs ys a.1)

all_back : (P : ℕ → Type 0) (xs ys : List ℕ) → AllByRecursion P (xs ++ ys) → AllByRecursion P ys
all_back P [] ys a = a
all_back P (x ∷ xs) ys a = all_back P xs ys a.1

all_at : (P : ℕ → Type 0) (xs : List ℕ) (i k : ℕ) → AllByRecursion P xs → slice_get xs i ≡ Some k → P k
all_at P [] i k a e = absurd (cc)
all_at P (x ∷ xs) zero k a e = subst P (let s : x ≡ k = cc in s) a.0
all_at P (x ∷ xs) (suc i) k a e = all_at P xs i k a.1 e

all_mapped : (P Q : ℕ → Type 0) (xs : List ℕ) → ((k : ℕ) → P k → Q k) → AllByRecursion P xs → AllByRecursion Q xs
all_mapped P Q [] f a = tt
all_mapped P Q (x ∷ xs) f a = (f x a.0, all_mapped P Q xs f a.1)

-- MARKS

marks_same : (m m' : ℕ → Option ℕ) (ks cs : List ℕ) → AllByRecursion (λ j. m' j ≡ m j) ks → AreMarked m ks cs → AreMarked m' ks cs
marks_same m m' [] cs s a = a
marks_same m m' (k ∷ ks) [] s a = (s.0 ∙ a.0, marks_same m m' ks [] s.1 a.1)
marks_same m m' (k ∷ ks) (c ∷ cs) s a = (s.0 ∙ a.0, marks_same m m' ks cs s.1 a.1)

none_at : (m : ℕ → Option ℕ) (ks cs : List ℕ) (k : ℕ) → AreMarked m ks cs → slice_get ks (length cs) ≡ Some k → m k ≡ None
none_at m [] cs k a e = absurd (cc)
none_at m (x ∷ ks) [] k a e = subst (λ i. m i ≡ None) (let s : x ≡ k = cc in s) a.0
none_at m (x ∷ ks) (c ∷ cs) k a e = none_at m ks cs k a.1 e

-- the next one of a rising list is marked
marks_next : (m m' : ℕ → Option ℕ) (ks cs : List ℕ) (k c : ℕ) → m k ≡ None → m' k ≡ Some c → ((j : ℕ) → (j ≡ k → ⊥) → m' j ≡ m j) → Rises ks → AreMarked m ks cs → slice_get ks (length cs) ≡ Some k → AreMarked m' ks (cs ++ c ∷ [])
unfolding Rises
marks_next m m' [] cs k c n h o r a e = absurd (cc)
marks_next m m' (x ∷ ks) [] k c n h o r a e =
    let s : x ≡ k = cc in
    (ap m' s ∙ h, marks_same m m' ks [] (all_mapped (λ y. x < y) (λ j. m' j ≡ m j) ks (λ j l. o j (λ f. omega (arith, f, s, l))) r.0) a.1)
marks_next m m' (x ∷ ks) (y ∷ cs) k c n h o r a e =
    (o x (λ f. absurd (let p : Some y ≡ None = sym a.0 ∙ (ap m f ∙ n) in cc)) ∙ a.0, marks_next m m' ks cs k c n h o r.1 a.1 e)

module _ (l : Lane) (k c : ℕ) (g : History) where
  pub mark_here : mark ((Marked l k c, []) ∷ g) k ≡ Some c
  mark_here = rw (same_number k) refl

  pub mark_other : (j : ℕ) → (j ≡ k → ⊥) → mark ((Marked l k c, []) ∷ g) j ≡ mark g j
  mark_other j ne = rw (apart k j ne) refl

waits_apart : (g : History) (j k : ℕ) → flies g k ≡ true → waits g j ≡ true → j ≡ k → ⊥
waits_apart g j k up w e = false≢true (sym (rw up refl) ∙ subst (λ i. waits g i ≡ true) e w)

-- PLACES AND QUEUES

pub marked_placed : (lane : Lane) (t : Transmitter) (r : Receiver) (bus : Bus) (ms : List ℕ) (fm : Option ℕ) → ArePlaced lane t r bus → ArePlaced lane t r (record bus { marks = ms; flight_mark = fm })
marked_placed lane t r bus ms fm p = assumption p

-- every deferred and every queued transfer waits
all_wait : (g : History) (deferred queue : List Buffer) → waiting g ≡ map serial_of deferred ++ map serial_of queue → AllByRecursion (λ j. waits g j ≡ true) (map serial_of deferred ++ map serial_of queue)
all_wait g deferred queue e = subst (AllByRecursion (λ j. waits g j ≡ true)) e (those_pass (waits g) (made g))

flight_queues : (l : Lane) (g : History) (deferred : List Buffer) (bus : Bus) (f : FlightRecord) (c : ℕ) → bus.flight ≡ Some f
    → AreQueued deferred bus (waiting g) (flying g) (mark g) (halted g) (posts g) (recalls g) (flights g) (made g)
    → AreQueued deferred (record bus { flight_mark = Some c }) (waiting g) (flying g) (mark ((Marked l f.serial c, []) ∷ g)) (halted g) (posts g) (recalls g) (flights g) (made g)
flight_queues l g deferred bus f c out w =
    let first_one = those_first (flies g) (made g) f.serial (ap first (w.fly ∙ ap flight_serial out)) in
    let wait = all_wait g deferred bus.queue w.wait in
    let same = all_mapped (λ j. waits g j ≡ true) (λ j. mark ((Marked l f.serial c, []) ∷ g) j ≡ mark g j) (map serial_of deferred ++ map serial_of bus.queue)
    (λ j h. mark_other l f.serial c g j (waits_apart g j f.serial first_one.passes h)) wait in
    let below : f.serial < made g = first_one.is_below in
    record {
      wait = w.wait;
      fly = w.fly;
      marked = marks_same (mark g) (mark ((Marked l f.serial c, []) ∷ g)) (map serial_of bus.queue) bus.marks (all_back _ (map serial_of deferred) (map serial_of bus.queue) same) w.marked;
      unmarked = marks_same (mark g) (mark ((Marked l f.serial c, []) ∷ g)) (map serial_of deferred) [] (all_front _ (map serial_of deferred) (map serial_of bus.queue) same) w.unmarked;
      unmade = λ j h. mark_other l f.serial c g j (λ e. omega arith) ∙ w.unmade j h;
      flight_marked = subst (FlightIs (λ x. mark ((Marked l f.serial c, []) ∷ g) x.serial ≡ Some c)) (sym out) (mark_here l f.serial c g);
      halts = w.halts;
      posted = w.posted;
      grounded = w.grounded;
    }

-- where a request is found there is a first one
found_some : (xs : List Buffer) (i : ℕ) (x : Buffer) → slice_get xs i ≡ Some x → 0 < length xs
found_some [] i x e = absurd (cc)
found_some (y ∷ ys) i x e = omega arith

deferred_none : (deferred queue : List Buffer) (flight : Option FlightRecord) → (0 < length deferred → (queue ≡ []) × (flight ≡ None)) → 0 < length queue → deferred ≡ []
deferred_none [] queue flight g h = refl
deferred_none (d ∷ ds) queue flight g h = absurd (let n : length queue ≡ 0 = ap length (g (omega arith)).0 in omega arith)

flight_apart : (l : Lane) (g : History) (k c : ℕ) (flight : Option FlightRecord) (fm : Option ℕ) → flying g ≡ flight_serial flight → waits g k ≡ true → FlightIs (λ f. mark g f.serial ≡ fm) flight
    → FlightIs (λ f. mark ((Marked l k c, []) ∷ g) f.serial ≡ fm) flight
flight_apart l g k c None fm e h a = tt
flight_apart l g k c (Some f) fm e h a =
    let first_one = those_first (flies g) (made g) f.serial (ap first e) in
    mark_other l k c g f.serial (λ s. waits_apart g k f.serial first_one.passes h (sym s)) ∙ a

queue_marked : (l : Lane) (g : History) (deferred : List Buffer) (bus : Bus) (x : Buffer) (c : ℕ) → slice_get bus.queue (length bus.marks) ≡ Some x
    → AreQueued deferred bus (waiting g) (flying g) (mark g) (halted g) (posts g) (recalls g) (flights g) (made g)
    → AreQueued deferred (record bus { marks = bus.marks ++ c ∷ [] }) (waiting g) (flying g) (mark ((Marked l x.serial c, []) ∷ g)) (halted g) (posts g) (recalls g) (flights g) (made g)
queue_marked l g deferred bus x c found w =
    let some : 0 < length bus.queue = found_some bus.queue (length bus.marks) x found in
    let none : deferred ≡ [] = deferred_none deferred bus.queue bus.flight w.grounded some in
    let is : waiting g ≡ map serial_of bus.queue = w.wait ∙ ap (λ ds. map serial_of ds ++ map serial_of bus.queue) none in
    let at : slice_get (map serial_of bus.queue) (length bus.marks) ≡ Some x.serial = slice_get-map serial_of bus.queue (length bus.marks) ∙ ap (option_map serial_of) found in
    let rises : Rises (map serial_of bus.queue) = subst Rises is (those_rise (waits g) (made g)) in
    let wait : waits g x.serial ≡ true = all_at (λ j. waits g j ≡ true) (map serial_of bus.queue) (length bus.marks) x.serial (subst (AllByRecursion (λ j. waits g j ≡ true)) is (those_pass (waits g) (made g))) at in
    let below : x.serial < made g = all_at (λ j. j < made g) (map serial_of bus.queue) (length bus.marks) x.serial (subst (AllByRecursion (λ j. j < made g)) is (those_below (waits g) (made g))) at in
    let unmarked : mark g x.serial ≡ None = none_at (mark g) (map serial_of bus.queue) bus.marks x.serial w.marked at in
    record {
      wait = w.wait;
      fly = w.fly;
      marked = marks_next (mark g) (mark ((Marked l x.serial c, []) ∷ g)) (map serial_of bus.queue) bus.marks x.serial c unmarked (mark_here l x.serial c g) (mark_other l x.serial c g) rises w.marked at;
      unmarked = subst (λ ds. AreMarked (mark ((Marked l x.serial c, []) ∷ g)) (map serial_of ds) []) (sym none) refl;
      unmade = λ j h. mark_other l x.serial c g j (λ e. omega arith) ∙ w.unmade j h;
      flight_marked = flight_apart l g x.serial c bus.flight bus.flight_mark w.fly wait w.flight_marked;
      halts = w.halts;
      posted = w.posted;
      grounded = w.grounded;
    }

pub mark_stands : (way : Way) (g : History) (bus' : Bus) (k c : ℕ) → Stands way g → Marks way.bus bus' c (Some k) → Stands (record way { bus = bus' }) ((Marked way.lane k c, []) ∷ g)
mark_stands way g bus' k c w (inl m) =
    let stands : Stands (record way { bus = record way.bus { flight_mark = Some c } }) ((Marked way.lane m.flight.serial c, []) ∷ g) = record {
      sound = (tt, w.sound);
      placed = marked_placed way.lane way.tx way.rx way.bus way.bus.marks (Some c) w.placed;
      building = w.building;
      queues = flight_queues way.lane g way.tx.deferred way.bus m.flight c m.out w.queues;
      tries = assumption w.tries;
      ends = w.ends;
      counts = w.counts;
      texts = w.texts;
    } in
    subst (λ b. Stands (record way { bus = b }) ((Marked way.lane k c, []) ∷ g)) (sym m.rest)
    (subst (λ i. Stands (record way { bus = record way.bus { flight_mark = Some c } }) ((Marked way.lane i c, []) ∷ g)) m.serial_is stands)
mark_stands way g bus' k c w (inr m) =
    let stands : Stands (record way { bus = record way.bus { marks = way.bus.marks ++ c ∷ [] } }) ((Marked way.lane m.request.serial c, []) ∷ g) = record {
      sound = (tt, w.sound);
      placed = marked_placed way.lane way.tx way.rx way.bus (way.bus.marks ++ c ∷ []) way.bus.flight_mark w.placed;
      building = w.building;
      queues = queue_marked way.lane g way.tx.deferred way.bus m.request c m.found w.queues;
      tries = assumption w.tries;
      ends = w.ends;
      counts = w.counts;
      texts = w.texts;
    } in
    subst (λ b. Stands (record way { bus = b }) ((Marked way.lane k c, []) ∷ g)) (sym m.rest)
    (subst (λ i. Stands (record way { bus = record way.bus { marks = way.bus.marks ++ c ∷ [] } }) ((Marked way.lane i c, []) ∷ g)) m.serial_is stands)

-- WHAT ISN'T MARKED

no_flight : (flight : Option FlightRecord) (fm : Option ℕ) → (is_some flight && not (is_some fm)) ≡ false → unmarked_flight flight fm ≡ []
no_flight None fm e = refl
no_flight (Some f) None e = absurd (false≢true (sym e))
no_flight (Some f) (Some c) e = refl

drop_at_some : (xs : List ℕ) (n k : ℕ) → slice_get xs n ≡ Some k → drop n xs ≡ k ∷ drop (suc n) xs
drop_at_some [] n k e = absurd (cc)
drop_at_some (x ∷ xs) zero k e = ap (λ i. i ∷ xs) (let s : x ≡ k = cc in s)
drop_at_some (x ∷ xs) (suc n) k e = drop_at_some xs n k e

-- the transfer that is marked was the first that wasn't
pub mark_first : (bus bus' : Bus) (c k : ℕ) → Marks bus bus' c (Some k) → unmarked_in bus ≡ k ∷ unmarked_in bus'
mark_first bus bus' c k (inl m) =
    let old : unmarked_flight bus.flight bus.flight_mark ≡ m.flight.serial ∷ [] = rw (m.out, m.unmarked) refl in
    let new : unmarked_in bus' ≡ drop (length bus.marks) (map serial_of bus.queue) = ap unmarked_in m.rest ∙ rw m.out refl in
    ap (λ ks. ks ++ drop (length bus.marks) (map serial_of bus.queue)) old ∙ (ap (λ i. i ∷ drop (length bus.marks) (map serial_of bus.queue)) m.serial_is ∙ ap (λ ks. k ∷ ks) (sym new))
mark_first bus bus' c k (inr m) =
    let none : unmarked_flight bus.flight bus.flight_mark ≡ [] = no_flight bus.flight bus.flight_mark m.no_flight in
    let at : slice_get (map serial_of bus.queue) (length bus.marks) ≡ Some k = slice_get-map serial_of bus.queue (length bus.marks) ∙ (ap (option_map serial_of) m.found ∙ ap Some m.serial_is) in
    let longer : length (bus.marks ++ c ∷ []) ≡ suc (length bus.marks) = length_push bus.marks c ∙ add-one (length bus.marks) in
    let new : unmarked_in bus' ≡ drop (suc (length bus.marks)) (map serial_of bus.queue) = ap unmarked_in m.rest ∙ (ap (λ ks. ks ++ drop (length (bus.marks ++ c ∷ [])) (map serial_of bus.queue)) none ∙ ap (λ n. drop n (map serial_of bus.queue)) longer) in
    ap (λ ks. ks ++ drop (length bus.marks) (map serial_of bus.queue)) none ∙ (drop_at_some (map serial_of bus.queue) (length bus.marks) k at ∙ ap (λ ks. k ∷ ks) (sym new))

pub mark_none : (bus bus' : Bus) → MarksNone bus bus' → unmarked_in bus ≡ []
mark_none bus bus' m =
    let l : length (map serial_of bus.queue) ≡ length bus.queue = length-map bus.queue serial_of in
    let a : length bus.marks ≡ length bus.queue = m.all in
    ap (λ ks. ks ++ drop (length bus.marks) (map serial_of bus.queue)) (no_flight bus.flight bus.flight_mark m.no_flight)
    ∙ drop_of_length-le (map serial_of bus.queue) (omega arith)
