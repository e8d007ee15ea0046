-- The lane's parts after a made line, whose transfer is the next one.
use Rattle.std.proofs.Common.{◌≡◌, ℕ, zero, suc, ◌+◌, ◌-◌, ◌<◌, ◌≤◌, Bool, true, false, not, ◌&&◌, ◌==◌, List, [], ◌∷◌, ◌++◌, length, map, Option, Some, None, ◌⊎◌, inl, inr, refl, sym, ap, ◌∙◌, subst, arith, add-one, append-nil, nat_le, if◌then◌else◌}
use Rattle.std.proofs.lemmas.Bool.{false≢true, ne_eqb, eq-eqb, cases_eq, false_from_ne_true}
use Rattle.std.specs.List.{AllByRecursion}
use Rattle.un_facts.specs.Lists.{is_empty}
use Rattle.un_frame.specs.declared.params.Lane.{Lane}
use Rattle.un_frame.specs.declared.params.Class.{Class}
use Rattle.un_frame.specs.Parts.{ReadsAs}
use Rattle.un_req.specs.Request.{Buffer}
use Rattle.un_endpoint.specs.declared.record.FlightRecord.{FlightRecord}
use Rattle.un_endpoint.specs.Bus.{Bus}
use Rattle.un_endpoint.specs.Ends.{Opened as Current}
use Rattle.un_journal.specs.declared.lines.Line.TheVariants.{Made}
use Rattle.un_journal.specs.History.{History, made, those, flies, waits, waiting, flying, ended, landed, failed, was_cut, opened, arrived, current, delivered, mark, halted, posts, recalls, flights, returned, first, span, made_bytes, left_of, told_if}
use Rattle.un_journal.specs.Sound.{IsSound}
use Rattle.un_journal.proofs.ForLane.{those_first, Quiet, status, status_of, is_aloft, is_arrived, is_faulted, is_severed, opened_landed, fresh}
use Rattle.un_lane.specs.Stands.{AreQueued, AreAtEnds, AreTexts, AreMarked, IsText, CurrentIs, FlightIs, finished, serial_of}
use Rattle.un_lane.proofs.Counting.{map_last}
use Rattle.un_lane.proofs.Serials.{those_same}

those_more : (p : ℕ → Bool) (n : ℕ) → p n ≡ false → those p (n + 1) ≡ those p n
those_more p n e = rw (add-one, e) (append-nil (those p n))

those_last : (p : ℕ → Bool) (n : ℕ) → p n ≡ true → those p (n + 1) ≡ those p n ++ n ∷ []
those_last p n e = rw (add-one, e) refl

pub those_below : (p : ℕ → Bool) (n : ℕ) → AllByRecursion (λ k. k < n) (those p n)
those_below p n = upto n (omega arith)
  where
    joined : (xs ys : List ℕ) → AllByRecursion (λ k. k < n) xs → AllByRecursion (λ k. k < n) ys → AllByRecursion (λ k. k < n) (xs ++ ys)
    joined [] ys a b = b
    joined (x ∷ xs) ys a b = (a.0, joined xs ys a.1 b)

    last : (b : Bool) (m : ℕ) → m < n → AllByRecursion (λ k. k < n) (if b then m ∷ [] else [])
    last true m h = (h, tt)
    last false m h = tt

    upto : (m : ℕ) → m ≤ n → AllByRecursion (λ k. k < n) (those p m)
    upto zero h = tt
    upto (suc m) h = joined (those p m) _ (upto m (omega arith)) (last (p m) m (omega arith))

-- a transfer with a span was made
pub span_below : (g : History) → IsSound g → (j : ℕ) (s : ℕ × ℕ) → span g j ≡ Some s → j < made g
span_below [] sound j s e = absurd (cc)
span_below ((Made l k a b, bytes) ∷ g) sound j s e = go (cases_eq k j) (λ f. span_below g sound.1 j s f)
  where
    go : (k ≡ j) ⊎ (k ≡ j → ⊥) → (span g j ≡ Some s → j < made g) → j < made g + 1
    go (inl same) rec = let m : k ≡ made g = sound.0.0 in omega arith
    go (inr ne) rec = let low : j < made g = rec (rw (ne_eqb k j ne) at e) in omega arith
span_below (x ∷ g) sound j s e = span_below g sound.1 j s e

pub record Unknown (g : History) (k : ℕ) : Type 0 where
  pub not_flying : flies g k ≡ false
  pub not_landed : landed g k ≡ false
  pub not_failed : failed g k ≡ false
  pub not_cut : was_cut g k ≡ false
  pub not_opened : opened g k ≡ false

pub next_unknown : (g : History) → IsSound g → Unknown g (made g)
next_unknown g sound =
    let q : status g (made g) ≡ Quiet = fresh g sound (made g) (omega arith) in
    let r = status_of g sound (made g) in
    let l : landed g (made g) ≡ false = r.landed_is ∙ ap is_arrived q in
    record {
      not_flying = r.flies_is ∙ ap is_aloft q;
      not_landed = l;
      not_failed = r.failed_is ∙ ap is_faulted q;
      not_cut = r.cut_is ∙ ap is_severed q;
      not_opened = false_from_ne_true (opened g (made g)) (λ o. false≢true (sym l ∙ opened_landed g sound (made g) o));
    }

marked_more : (m : ℕ → Option ℕ) (ks cs : List ℕ) (k : ℕ) → AreMarked m ks cs → m k ≡ None → AreMarked m (ks ++ k ∷ []) cs
marked_more m [] [] k a e = (e, refl)
marked_more m [] (c ∷ cs) k a e = absurd (cc)
marked_more m (j ∷ ks) [] k a e = (a.0, marked_more m ks [] k a.1 e)
marked_more m (j ∷ ks) (c ∷ cs) k a e = (a.0, marked_more m ks cs k a.1 e)

module _ (l : Lane) (a b : ℕ) (bytes : List ℕ) (g : History) (sound : IsSound g) where
  abbrev after : History
  after = (Made l (made g) a b, bytes) ∷ g

  u : Unknown g (made g)
  u = next_unknown g sound

  waiting_more : waiting ((Made l (made g) a b, bytes) ∷ g) ≡ waiting g ++ made g ∷ []
  waiting_more = those_last (waits g) (made g) (rw (u.not_flying, u.not_landed, u.not_failed, u.not_cut) refl)

  flying_same : flying ((Made l (made g) a b, bytes) ∷ g) ≡ flying g
  flying_same = those_more (flies g) (made g) u.not_flying

  arrived_same : arrived ((Made l (made g) a b, bytes) ∷ g) ≡ arrived g
  arrived_same = those_more (λ k. landed g k && not (opened g k)) (made g) (rw u.not_landed refl)

  finished_same : finished ((Made l (made g) a b, bytes) ∷ g) ≡ finished g
  finished_same = those_more (λ k. ended g k && nat_le (returned g) k) (made g) (rw (u.not_landed, u.not_failed, u.not_cut) refl)

  left_same : (k : ℕ) → k < made g → left_of ((Made l (made g) a b, bytes) ∷ g) k ≡ left_of g k
  left_same k h = rw (ne_eqb (made g) k (λ e. omega arith)) refl

  current_same : current ((Made l (made g) a b, bytes) ∷ g) ≡ current g
  current_same =
      ap first (those_more _ (made g) (rw u.not_opened refl)
      ∙ those_same (λ k. opened g k && not (is_empty (left_of g k))) _ (made g) (λ k h. ap (λ xs. opened g k && not (is_empty xs)) (left_same k h)))

  pub delivered_same : delivered ((Made l (made g) a b, bytes) ∷ g) ≡ delivered g
  delivered_same =
      those_more _ (made g) (rw u.not_landed refl)
      ∙ those_same (λ k. landed g k && is_empty (left_of g k)) _ (made g) (λ k h. ap (λ xs. landed g k && is_empty xs) (left_same k h))

  pub made_ends : (done arrived' : List Buffer) (c : Option Current) → AreAtEnds done arrived' c (finished g) (arrived g) (current g) (left_of g)
      → AreAtEnds done arrived' c (finished ((Made l (made g) a b, bytes) ∷ g)) (arrived ((Made l (made g) a b, bytes) ∷ g)) (current ((Made l (made g) a b, bytes) ∷ g)) (left_of ((Made l (made g) a b, bytes) ∷ g))
  made_ends done arrived' None w = record {
    done_is = finished_same ∙ w.done_is;
    arrived_is = arrived_same ∙ w.arrived_is;
    current_is = current_same ∙ w.current_is;
    left_is = tt;
  }
  made_ends done arrived' (Some o) w = record {
    done_is = finished_same ∙ w.done_is;
    arrived_is = arrived_same ∙ w.arrived_is;
    current_is = current_same ∙ w.current_is;
    left_is = record {
      numbers = left_same o.request.serial (those_first (λ k. opened g k && not (is_empty (left_of g k))) (made g) o.request.serial w.current_is).is_below ∙ w.left_is.numbers;
      some = w.left_is.some;
    };
  }

  pub made_queued : (deferred : List Buffer) (bus : Bus) (x : Buffer) → x.serial ≡ made g → deferred ≡ []
      → AreQueued deferred bus (waiting g) (flying g) (mark g) (halted g) (posts g) (recalls g) (flights g) (made g)
      → AreQueued deferred (record bus { queue = bus.queue ++ x ∷ [] }) (waiting ((Made l (made g) a b, bytes) ∷ g)) (flying ((Made l (made g) a b, bytes) ∷ g)) (mark g) (halted g) (posts g) (recalls g) (flights g) (made g + 1)
  made_queued deferred bus x s none w = record {
    wait = waiting_more ∙ (ap (λ ks. ks ++ made g ∷ []) (w.wait ∙ ap (λ ds. map serial_of ds ++ map serial_of bus.queue) none)
        ∙ (ap (λ k. map serial_of bus.queue ++ k ∷ []) (sym s) ∙ (sym (map_last serial_of bus.queue x) ∙ ap (λ ds. map serial_of ds ++ map serial_of (bus.queue ++ x ∷ [])) (sym none))));
    fly = flying_same ∙ w.fly;
    marked = subst (λ ks. AreMarked (mark g) ks bus.marks) (sym (map_last serial_of bus.queue x)) (marked_more (mark g) (map serial_of bus.queue) bus.marks x.serial w.marked (w.unmade x.serial (omega arith)));
    unmarked = w.unmarked;
    unmade = λ j h. w.unmade j (omega arith);
    flight_marked = w.flight_marked;
    halts = w.halts;
    posted = w.posted;
    grounded = λ h. absurd (let e : length deferred ≡ 0 = ap length none in omega arith);
  }

  pub made_deferred : (deferred : List Buffer) (bus : Bus) (x : Buffer) → x.serial ≡ made g → bus.queue ≡ [] → bus.flight ≡ None
      → AreQueued deferred bus (waiting g) (flying g) (mark g) (halted g) (posts g) (recalls g) (flights g) (made g)
      → AreQueued (deferred ++ x ∷ []) bus (waiting ((Made l (made g) a b, bytes) ∷ g)) (flying ((Made l (made g) a b, bytes) ∷ g)) (mark g) (halted g) (posts g) (recalls g) (flights g) (made g + 1)
  made_deferred deferred bus x s none no_flight w = record {
    wait = waiting_more ∙ (ap (λ ks. ks ++ made g ∷ []) (w.wait ∙ (ap (λ qs. map serial_of deferred ++ map serial_of qs) none ∙ append-nil (map serial_of deferred)))
        ∙ (ap (λ k. map serial_of deferred ++ k ∷ []) (sym s) ∙ (sym (map_last serial_of deferred x) ∙ (sym (append-nil (map serial_of (deferred ++ x ∷ []))) ∙ ap (λ qs. map serial_of (deferred ++ x ∷ []) ++ map serial_of qs) (sym none)))));
    fly = flying_same ∙ w.fly;
    marked = w.marked;
    unmarked = subst (λ ks. AreMarked (mark g) ks []) (sym (map_last serial_of deferred x)) (marked_more (mark g) (map serial_of deferred) [] x.serial w.unmarked (w.unmade x.serial (omega arith)));
    unmade = λ j h. w.unmade j (omega arith);
    flight_marked = w.flight_marked;
    halts = w.halts;
    posted = w.posted;
    grounded = λ h. (none, no_flight);
  }

  text_same : (x : Buffer) → IsText (span g) (made_bytes g) x → IsText (span ((Made l (made g) a b, bytes) ∷ g)) (made_bytes ((Made l (made g) a b, bytes) ∷ g)) x
  text_same x t =
      let low : x.serial < made g = span_below g sound x.serial (x.from, x.to) t.span_is in
      let ne : (made g == x.serial) ≡ false = ne_eqb (made g) x.serial (λ e. omega arith) in
      record { span_is = rw ne t.span_is; bytes_are = rw ne t.bytes_are }

  texts_same : (xs : List Buffer) → AllByRecursion (IsText (span g) (made_bytes g)) xs → AllByRecursion (IsText (span ((Made l (made g) a b, bytes) ∷ g)) (made_bytes ((Made l (made g) a b, bytes) ∷ g))) xs
  texts_same [] t = tt
  texts_same (x ∷ xs) t = (text_same x t.0, texts_same xs t.1)

  current_text : (c : Option Current) → CurrentIs (λ o. IsText (span g) (made_bytes g) o.request × (o.request.from ≤ o.next)) c
      → CurrentIs (λ o. IsText (span ((Made l (made g) a b, bytes) ∷ g)) (made_bytes ((Made l (made g) a b, bytes) ∷ g)) o.request × (o.request.from ≤ o.next)) c
  current_text None t = tt
  current_text (Some o) t = (text_same o.request t.0, t.1)

  flight_text : (f : Option FlightRecord) → FlightIs (λ x. span g x.serial ≡ Some (x.from, x.to)) f → FlightIs (λ x. span ((Made l (made g) a b, bytes) ∷ g) x.serial ≡ Some (x.from, x.to)) f
  flight_text None t = tt
  flight_text (Some x) t =
      let low : x.serial < made g = span_below g sound x.serial (x.from, x.to) t in
      rw (ne_eqb (made g) x.serial (λ e. omega arith)) t

  same_span : (s t : ℕ × ℕ) → Some s ≡ Some t → s ≡ t
  same_span s t e = cc

  pub made_texts : (class : Class) (deferred queue arrived' : List Buffer) (c : Option Current) (f : Option FlightRecord) → a < b → ReadsAs class bytes (b - a)
      → AreTexts class deferred queue arrived' c f (span g) (made_bytes g)
      → AreTexts class deferred queue arrived' c f (span ((Made l (made g) a b, bytes) ∷ g)) (made_bytes ((Made l (made g) a b, bytes) ∷ g))
  made_texts class deferred queue arrived' c f more reads w = record {
    deferred_texts = texts_same deferred w.deferred_texts;
    queued_texts = texts_same queue w.queued_texts;
    arrived_texts = texts_same arrived' w.arrived_texts;
    current_text = current_text c w.current_text;
    flight_span = flight_text f w.flight_span;
    some = λ k i j e. some_at k i j (made g == k) refl e;
    whole = λ k i j e. whole_at k i j (made g == k) refl e;
  }
    where
      some_at : (k i j : ℕ) (t : Bool) → (made g == k) ≡ t → told_if (made g == k) (a, b) (span g k) ≡ Some (i, j) → i < j
      some_at k i j true t e =
          let s : (a, b) ≡ (i, j) = same_span (a, b) (i, j) (rw t at e) in
          let si : a ≡ i = ap (λ (p : ℕ × ℕ). p.0) s in let sj : b ≡ j = ap (λ (p : ℕ × ℕ). p.1) s in omega arith
      some_at k i j false t e = w.some k i j (rw t at e)

      whole_at : (k i j : ℕ) (t : Bool) → (made g == k) ≡ t → told_if (made g == k) (a, b) (span g k) ≡ Some (i, j) → ReadsAs class (made_bytes ((Made l (made g) a b, bytes) ∷ g) k) (j - i)
      whole_at k i j true t e =
          let s : (a, b) ≡ (i, j) = same_span (a, b) (i, j) (rw t at e) in
          rw t (subst (λ (p : ℕ × ℕ). ReadsAs class bytes (p.1 - p.0)) s reads)
      whole_at k i j false t e = rw t (w.whole k i j (rw t at e))

  -- the new transfer's request
  pub new_text : (x : Buffer) → x.serial ≡ made g → x.from ≡ a → x.to ≡ b → x.bytes ≡ bytes → IsText (span ((Made l (made g) a b, bytes) ∷ g)) (made_bytes ((Made l (made g) a b, bytes) ∷ g)) x
  new_text x s f t by =
      let same : (made g == x.serial) ≡ true = eq-eqb (made g) x.serial (sym s) in
      record { span_is = rw (same, f, t) refl; bytes_are = rw (same, by) refl }
