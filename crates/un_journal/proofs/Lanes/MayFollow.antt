-- Every lane of a legal history is sound: what the first of a lane's lists says of the line that may follow.
use Rattle.std.proofs.Common.{◌≡◌, ℕ, ◌+◌, ◌-◌, ◌<◌, ◌≤◌, Bool, true, false, not, ◌&&◌, ◌||◌, ◌==◌, List, [], ◌∷◌, ◌++◌, Option, Some, None, ◌⊎◌, inl, inr, refl, sym, ap, ◌∙◌, subst, arith, if◌then◌else◌, append_assoc, append-nil, filter}
use Rattle.std.proofs.lemmas.Bool.{false≢true, eqb-true, eqb-false, cases_lt, or_cases, or_right, and_parts, not-false, not-true}
use Rattle.std.proofs.lemmas.Option.{same_Some}
use Rattle.un_frame.proofs.LaneLemmas.{same_lane-is}
use Rattle.un_facts.proofs.Lists.{empty_is}
use Rattle.un_facts.proofs.Booleans.{and_not}
use Rattle.un_facts.specs.Lists.{is_empty}
use Rattle.un_facts.specs.Numbers.{within}
use Rattle.un_frame.specs.declared.params.Lane.{Lane}
use Rattle.un_frame.specs.declared.params.Lane.TheVariants.{Outward, Inward}
use Rattle.un_frame.specs.declared.kinds.Phase.{Phase}
use Rattle.un_frame.specs.declared.kinds.Phase.TheVariants.{Up, Asleep, Stopping, Leaving, Down, Away}
use Rattle.un_frame.specs.Lanes.{same_lane}
use Rattle.un_journal.specs.declared.lines.Line.TheVariants.{Made, Flying, Landed, Failed, Retried, Cut, Dropped, Opened, Gave}
use Rattle.un_journal.specs.History.{Entry, History, past, concerns, made, cover, flies, waits, landed, opened, gave, span, span_numbers, serial_of, waiting, flying, arrived, current, left_of, first, row_from, told_if}
use Rattle.un_journal.specs.Lookup.{queued}
use Rattle.un_journal.specs.Sound.{IsSound, Follows, IsNext, IsNextSpan, IsFirstArrived, IsNextNumber}
use Rattle.un_journal.proofs.Lanes.Status.{Status, Quiet, Aloft, Arrived, Faulted, Severed, status, status_of, is_aloft, is_arrived}
use Rattle.un_journal.proofs.Lanes.Owners.{owned, opened_landed, within_true, within_yes}
use Rattle.un_journal.proofs.Lanes.GivenOrder.{top, opened_below, Made_now, is_new, is_old, told_cases}
use Rattle.un_journal.proofs.Lists.Passing.{those_none, first_none, those_first, IsFirstInRow, row_none, row_first}
use Rattle.un_journal.proofs.Lists.NewestFirst.{past_more}

-- ADDING LINES

abbrev pub AllSound : History → Type 0
AllSound h = (lane : Lane) → IsSound (past lane h)

-- what a line needs in each lane that it concerns
abbrev pub MayFollow : History → Entry → Type 0
MayFollow h e = (lane : Lane) → concerns lane e ≡ true → Follows e (past lane h)

abbrev pub MayFollowAll : History → History → Type 0
MayFollowAll h [] = Unit {0}
MayFollowAll h (e ∷ es) = MayFollow h e × MayFollowAll (h ++ e ∷ []) es

sound_if : (b : Bool) (e : Entry) (g : History) → IsSound g → (b ≡ true → Follows e g) → IsSound (if b then (e ∷ g) else g)
sound_if true e g sound f = (f refl, sound)
sound_if false e g sound f = sound

pub add_line : (h : History) (e : Entry) → AllSound h → MayFollow h e → AllSound (h ++ e ∷ [])
add_line h e sound f lane = rw past_more (sound_if (concerns lane e) e (past lane h) (sound lane) (f lane))

pub add_lines : (h lines : History) → AllSound h → MayFollowAll h lines → AllSound (h ++ lines)
add_lines h [] sound f = rw append-nil sound
add_lines h (e ∷ es) sound f = subst AllSound (append_assoc h (e ∷ []) es) (add_lines (h ++ e ∷ []) es (add_line h e sound f.0) f.1)

-- a line of one lane
pub of_lane : (h : History) (e : Entry) (lane : Lane) → ((l : Lane) → concerns l e ≡ same_lane l lane) → Follows e (past lane h) → MayFollow h e
of_lane h e lane same f l c = subst (λ i. Follows e (past i h)) (sym (same_lane-is l lane (sym (same l) ∙ c))) f

-- WHAT THE LOOK-UPS SAY OF A SOUND LANE

fresh_if : (b : Bool) (s t : Status) → (b ≡ true → ⊥) → s ≡ Quiet → (if b then t else s) ≡ Quiet
fresh_if true s t never q = absurd (never refl)
fresh_if false s t never q = q

pub quiet_grounded : (g : History) → IsSound g → (k : ℕ) → status g k ≡ Quiet → flies g k ≡ false
quiet_grounded g sound k q = (status_of g sound k).flies_is ∙ ap is_aloft q

not_flying : (g : History) → IsSound g → (j k : ℕ) → status g k ≡ Quiet → flies g j ≡ true → (j == k) ≡ true → ⊥
not_flying g sound j k q f e = false≢true (sym (quiet_grounded g sound k q) ∙ subst (λ i. flies g i ≡ true) (eqb-true j k e) f)

not_next : (g : History) (j k : ℕ) → made g ≤ k → IsNext g j → (j == k) ≡ true → ⊥
not_next g j k h n e = let jk : j ≡ k = eqb-true j k e in let low : j < made g = n.is_made in omega arith

not_cut : (g : History) → IsSound g → (j k : ℕ) → made g ≤ k → status g k ≡ Quiet → (flies g j ≡ true) ⊎ IsNext g j → (j == k) ≡ true → ⊥
not_cut g sound j k h q (inl f) e = not_flying g sound j k q f e
not_cut g sound j k h q (inr n) e = not_next g j k h n e

-- a serial that wasn't made has never status
pub fresh : (g : History) → IsSound g → (k : ℕ) → made g ≤ k → status g k ≡ Quiet
fresh [] sound k h = refl
fresh ((Made l j a b, bytes) ∷ g) sound k h = fresh g sound.1 k (omega arith)
fresh ((Flying l j, bytes) ∷ g) sound k h = fresh_if (j == k) (status g k) Aloft (not_next g j k h sound.0) (fresh g sound.1 k h)
fresh ((Landed l j, bytes) ∷ g) sound k h = let q = fresh g sound.1 k h in fresh_if (j == k) (status g k) Arrived (not_flying g sound.1 j k q sound.0) q
fresh ((Failed l j kind, bytes) ∷ g) sound k h = let q = fresh g sound.1 k h in fresh_if (j == k) (status g k) Faulted (not_flying g sound.1 j k q sound.0) q
fresh ((Retried l j n, bytes) ∷ g) sound k h = let q = fresh g sound.1 k h in fresh_if (j == k) (status g k) Quiet (not_flying g sound.1 j k q sound.0) q
fresh ((Cut l j c, bytes) ∷ g) sound k h = let q = fresh g sound.1 k h in fresh_if (j == k) (status g k) Severed (not_cut g sound.1 j k h q sound.0) q
fresh (e ∷ g) sound k h = fresh g sound.1 k h

-- nothing flies where the list is empty
pub none_flies : (g : History) → IsSound g → flying g ≡ [] → (j : ℕ) → flies g j ≡ false
none_flies g sound e j =
    elim (cases_lt j (made g)) [ inl low ↦ those_none (flies g) (made g) e j low | inr high ↦ quiet_grounded g sound j (fresh g sound j high) ]

pub next_from : (g : History) (k : ℕ) → IsSound g → flying g ≡ [] → first (waiting g) ≡ Some k → IsNext g k
next_from g k sound none e =
    let f = those_first (waits g) (made g) k e in
    record { is_made = f.is_below; is_waiting = f.passes; is_least = f.is_least; is_alone = none_flies g sound none }

pub queued_waiting : (phase : Phase) (lane : Lane) (g : History) (k : ℕ) → first (queued phase lane g) ≡ Some k → first (waiting g) ≡ Some k
queued_waiting Asleep Outward g k e = absurd (cc)
queued_waiting Asleep Inward g k e = e
queued_waiting Up lane g k e = e
queued_waiting Stopping lane g k e = e
queued_waiting Leaving lane g k e = e
queued_waiting Down lane g k e = e
queued_waiting Away lane g k e = e

-- SPANS

-- the span of a transfer is that of its numbers
pub record Spans (g : History) (k a b : ℕ) : Type 0 where
  pub is_span : span g k ≡ Some (a, b)
  pub is_low : a ≤ b
  pub is_high : b ≤ cover g
  pub owns : (n : ℕ) → a ≤ n → n < b → serial_of g n ≡ Some k

pub record HasSpan (o : Option (ℕ × ℕ)) (n : ℕ) : Type 0 where
  pub from : ℕ
  pub to : ℕ
  pub is_span : o ≡ Some (from, to)
  pub above : from ≤ n
  pub below : n < to

has_more : (b : Bool) (x y n : ℕ) (o : Option (ℕ × ℕ)) → (b ≡ true → ⊥) → HasSpan o n → HasSpan (told_if b (x, y) o) n
has_more true x y n o never w = absurd (never refl)
has_more false x y n o never w = w

has_new : (j a b n k : ℕ) (o : Option (ℕ × ℕ)) → (a ≤ n) × (n < b) → (v : Bool) → (v ≡ false → ⊥) → HasSpan (told_if v (a, b) o) n
has_new j a b n k o i true never = record { from = a; to = b; is_span = refl; above = i.0; below = i.1 }
has_new j a b n k o i false never = absurd (never refl)

has_made : (g : History) (j a b n k : ℕ) → IsSound g → (j ≡ made g) × IsNextSpan g a b → Made_now (within a b n) j (serial_of g n) k → (serial_of g n ≡ Some k → HasSpan (span g k) n) → HasSpan (told_if (j == k) (a, b) (span g k)) n
has_made g j a b n k sound f (is_new v jk) rec = has_new j a b n k (span g k) (within_true a b n v) (j == k) (λ e. eqb-false j k e jk)
has_made g j a b n k sound f (is_old v e) rec =
    has_more (j == k) a b n (span g k) (λ t. let jk : j ≡ k = eqb-true j k t in let low : k < made g = (owned g sound n).known k e in let jm : j ≡ made g = f.0 in omega arith) (rec e)

-- a number that a transfer owns is in its span
pub has_span : (g : History) → IsSound g → (n k : ℕ) → serial_of g n ≡ Some k → HasSpan (span g k) n
has_span [] sound n k e = absurd (cc)
has_span ((Made l j a b, bytes) ∷ g) sound n k e = has_made g j a b n k sound.1 sound.0 (told_cases (within a b n) j (serial_of g n) k e) (has_span g sound.1 n k)
has_span (x ∷ g) sound n k e = has_span g sound.1 n k e

pub record OwnsSpan (g : History) (k : ℕ) (s : ℕ × ℕ) : Type 0 where
  pub in_order : s.0 ≤ s.1
  pub is_high : s.1 ≤ cover g
  pub owns : (n : ℕ) → s.0 ≤ n → n < s.1 → serial_of g n ≡ Some k

told_owner : (v : Bool) (j k : ℕ) (o : Option ℕ) → (v ≡ true → ⊥) → o ≡ Some k → told_if v j o ≡ Some k
told_owner true j k o never e = absurd (never refl)
told_owner false j k o never e = e

told_new : (v : Bool) (j : ℕ) (o : Option ℕ) → v ≡ true → told_if v j o ≡ Some j
told_new true j o e = refl
told_new false j o e = absurd (false≢true e)

owns_new : (g : History) (l : Lane) (j a b : ℕ) (bytes : List ℕ) (s : ℕ × ℕ) → (j ≡ made g) × IsNextSpan g a b → (a, b) ≡ s → OwnsSpan ((Made l j a b, bytes) ∷ g) j s
owns_new g l j a b bytes s f e = subst (OwnsSpan ((Made l j a b, bytes) ∷ g) j) e (record {
  in_order = let ab : a < b = f.1.is_some in omega arith;
  is_high = omega arith;
  owns = λ n p q. told_new (within a b n) j (serial_of g n) (within_yes a b n p q);
})

owns_old : (g : History) (l : Lane) (j a b k : ℕ) (bytes : List ℕ) (s : ℕ × ℕ) → (j ≡ made g) × IsNextSpan g a b → OwnsSpan g k s → OwnsSpan ((Made l j a b, bytes) ∷ g) k s
owns_old g l j a b k bytes s f w = record {
  in_order = w.in_order;
  is_high = let high : s.1 ≤ cover g = w.is_high in let ac : a ≡ cover g = f.1.begins in let ab : a < b = f.1.is_some in omega arith;
  owns = λ n p q. told_owner (within a b n) j k (serial_of g n)
      (λ t. let high : s.1 ≤ cover g = w.is_high in let ac : a ≡ cover g = f.1.begins in absurd (omega (arith, (within_true a b n t).0))) (w.owns n p q);
}

owns_made : (v : Bool) (g : History) (l : Lane) (j a b k : ℕ) (bytes : List ℕ) (s : ℕ × ℕ) → (j == k) ≡ v → (j ≡ made g) × IsNextSpan g a b → told_if v (a, b) (span g k) ≡ Some s → (span g k ≡ Some s → OwnsSpan g k s) → OwnsSpan ((Made l j a b, bytes) ∷ g) k s
owns_made true g l j a b k bytes s v f e rec = subst (λ i. OwnsSpan ((Made l j a b, bytes) ∷ g) i s) (eqb-true j k v) (owns_new g l j a b bytes s f (some_pair (a, b) s e))
  where
    some_pair : (x y : ℕ × ℕ) → Some x ≡ Some y → x ≡ y
    some_pair x y e = cc
owns_made false g l j a b k bytes s v f e rec = owns_old g l j a b k bytes s f (rec e)

-- every number of a transfer's span is its own
pub owns_span : (g : History) → IsSound g → (k : ℕ) (s : ℕ × ℕ) → span g k ≡ Some s → OwnsSpan g k s
owns_span [] sound k s e = absurd (cc)
owns_span ((Made l j a b, bytes) ∷ g) sound k s e = owns_made (j == k) g l j a b k bytes s refl sound.0 e (owns_span g sound.1 k s)
owns_span ((Dropped l a b c, bytes) ∷ g) sound k s e =
    let w = owns_span g sound.1 k s e in
    record {
      in_order = w.in_order;
      owns = w.owns;
      is_high = let high : s.1 ≤ cover g = w.is_high in let ac : a ≡ cover g = sound.0.begins in let ab : a < b = sound.0.is_some in omega arith;
    }
owns_span (x ∷ g) sound k s e = let w = owns_span g sound.1 k s e in record { in_order = w.in_order; is_high = w.is_high; owns = w.owns }

-- THE RECEIVING END

-- the numbers left of a transfer with this span
pub left_is : (g : History) (k a b : ℕ) → span g k ≡ Some (a, b) → left_of g k ≡ filter (λ n. not (gave g n)) (row_from a (b - a))
left_is g k a b e = rw e refl

pub whole_gave : (g : History) (k n : ℕ) → is_empty (left_of g k) ≡ true → HasSpan (span g k) n → gave g n ≡ true
whole_gave g k n e w =
    not-false (gave g n) (row_none (λ m. not (gave g m)) w.from (w.to - w.from) (sym (left_is g k w.from w.to w.is_span) ∙ empty_is (left_of g k) e) n w.above
    (let p : w.from ≤ n = w.above in let q : n < w.to = w.below in omega arith))

pub landed_made : (g : History) → IsSound g → (k : ℕ) → landed g k ≡ true → k < made g
landed_made g sound k e =
    elim (cases_lt k (made g)) [ inl h ↦ h | inr h ↦ absurd (false≢true (sym ((status_of g sound k).landed_is ∙ ap is_arrived (fresh g sound k h)) ∙ e)) ]

pub arrived_from : (g : History) (k : ℕ) → IsSound g → current g ≡ None → first (arrived g) ≡ Some k → IsFirstArrived g k
arrived_from g k sound none e =
    let f = those_first (λ j. landed g j && not (opened g j)) (made g) k e in
    let r = and_parts (landed g k) (not (opened g k)) f.passes in
    record {
      is_landed = r.0;
      is_unopened = not-true (opened g k) r.1;
      is_least = λ j h l. and_not (landed g j) (opened g j) (f.is_least j h) l;
      is_alone = λ j n o i.
          whole_gave g j n
          (and_not (opened g j) (is_empty (left_of g j))
          (those_none (λ q. opened g q && not (is_empty (left_of g q))) (made g) (first_none _ none) j (landed_made g sound j (opened_landed g sound j o))) o)
          (has_span g sound n j i);
    }

-- only the transfer that was opened last can have a number left
whole_open : (g : History) (j k n : ℕ) → IsFirstArrived g j → (j == k || opened g k) ≡ true → k + 1 < j + 1 → serial_of g n ≡ Some k → gave g n ≡ true
whole_open g j k n f o h e =
    elim (or_cases (j == k) (opened g k) o) [
      | inl same ↦ absurd (let jk : j ≡ k = eqb-true j k same in omega arith)
      | inr before ↦ f.is_alone k n before e
    ]

whole_made : (g : History) (j a b k n : ℕ) → IsSound g → j ≡ made g → opened g k ≡ true → Made_now (within a b n) j (serial_of g n) k → (serial_of g n ≡ Some k → gave g n ≡ true) → gave g n ≡ true
whole_made g j a b k n sound jm o (is_new v jk) rec = absurd (let low : k < made g = landed_made g sound k (opened_landed g sound k o) in omega arith)
whole_made g j a b k n sound jm o (is_old v e) rec = rec e

pub whole_below : (g : History) → IsSound g → (k n : ℕ) → opened g k ≡ true → k + 1 < top g → serial_of g n ≡ Some k → gave g n ≡ true
whole_below [] sound k n o h e = absurd (false≢true o)
whole_below ((Opened l j, bytes) ∷ g) sound k n o h e = whole_open g j k n sound.0 o h e
whole_below ((Gave l m, bytes) ∷ g) sound k n o h e = or_right (m == n) (gave g n) (whole_below g sound.1 k n o h e)
whole_below ((Made l j a b, bytes) ∷ g) sound k n o h e =
    whole_made g j a b k n sound.1 sound.0.0 o (told_cases (within a b n) j (serial_of g n) k e) (whole_below g sound.1 k n o h)
whole_below (x ∷ g) sound k n o h e = whole_below g sound.1 k n o h e

pub is_top : (g : History) → IsSound g → (k n : ℕ) → opened g k ≡ true → serial_of g n ≡ Some k → gave g n ≡ false → k + 1 ≡ top g
is_top g sound k n o e left =
    let low : k < top g = opened_below g sound k o in
    elim (cases_lt (k + 1) (top g)) [ inl h ↦ absurd (false≢true (sym left ∙ whole_below g sound k n o h e)) | inr h ↦ omega arith ]

pair_same : (a b c d : ℕ) (o : Option (ℕ × ℕ)) → o ≡ Some (a, b) → o ≡ Some (c, d) → a ≡ c
pair_same a b c d o e f = first_same (same_Some (a, b) (c, d) (sym e ∙ f))
  where
    first_same : {x y : ℕ × ℕ} → x ≡ y → x.0 ≡ y.0
    first_same e = ap (λ (p : ℕ × ℕ). p.0) e

number_at : (g : History) (k n a b : ℕ) → IsSound g → opened g k ≡ true → span g k ≡ Some (a, b) → IsFirstInRow (λ m. not (gave g m)) a (b - a) n → IsNextNumber g n
number_at g k n a b sound o e f =
    let w = owns_span g sound k (a, b) e in
    let mine : serial_of g n ≡ Some k = w.owns n f.from (let ab : a ≤ b = w.in_order in let hi : n < a + (b - a) = f.to in omega arith) in
    let left : gave g n ≡ false = not-true (gave g n) f.passes in
    record {
      serial = k;
      is_opened = o;
      is_in_span = mine;
      is_left = left;
      is_least = λ m h i. let s = has_span g sound m k i in
          not-false (gave g m) (f.is_least m (let p : s.from ≤ m = s.above in let q : s.from ≡ a = pair_same s.from s.to a b (span g k) s.is_span e in omega arith) h);
      is_alone = λ j m oj i lm.
          let p : j + 1 ≡ top g = is_top g sound j m oj i lm in
          let q : k + 1 ≡ top g = is_top g sound k n o mine left in omega arith;
    }

number_from : (g : History) (k n : ℕ) (s : Option (ℕ × ℕ)) → IsSound g → opened g k ≡ true → span g k ≡ s → first (filter (λ m. not (gave g m)) (span_numbers s)) ≡ Some n → IsNextNumber g n
number_from g k n None sound o e f = absurd (cc)
number_from g k n (Some s) sound o e f = number_at g k n s.0 s.1 sound o e (row_first (λ m. not (gave g m)) s.0 (s.1 - s.0) n f)

pub next_number_from : (g : History) (k n : ℕ) → IsSound g → current g ≡ Some k → first (left_of g k) ≡ Some n → IsNextNumber g n
next_number_from g k n sound c e =
    let f = those_first (λ j. opened g j && not (is_empty (left_of g j))) (made g) k c in
    number_from g k n (span g k) sound (and_parts (opened g k) _ f.passes).0 refl e
