-- What one more gave line changes: the current transfer has one number less left, and where none is left it is delivered.
use Rattle.std.proofs.Common.{◌≡◌, ℕ, ◌+◌, ◌-◌, ◌<◌, ◌≤◌, Bool, true, false, not, ◌&&◌, ◌||◌, ◌==◌, List, [], ◌∷◌, length, Option, Some, None, inl, inr, refl, sym, ap, ◌∙◌, subst, arith, if◌then◌else◌, filter}
use Rattle.std.proofs.lemmas.Bool.{ne_eqb, eq-eqb, cases_eq, not-true}
use Rattle.std.proofs.lemmas.Option.{same_Some}
use Rattle.un_facts.specs.Lists.{is_empty}
use Rattle.un_frame.specs.declared.params.Lane.{Lane}
use Rattle.un_journal.specs.declared.lines.Line.TheVariants.{Gave}
use Rattle.un_journal.specs.History.{History, made, gave, span, span_numbers, serial_of, landed, opened, left_of, delivered, current, first}
use Rattle.un_journal.specs.Sound.{IsSound}
use Rattle.un_journal.proofs.Lists.Passing.{row_first, those_empty, those_first_is, those_count, filter_outside, filter_first}
use Rattle.un_journal.proofs.Lanes.MayFollow.{owns_span, landed_made, is_top}
use Rattle.un_journal.proofs.Lanes.GivenOrder.{top}
use Rattle.un_journal.proofs.Lanes.Owners.{opened_landed}

-- the number that is given belongs to transfer k
module _ (l : Lane) (n k : ℕ) (bytes : List ℕ) (g : History) (sound : IsSound g) (mine : serial_of g n ≡ Some k) where
  other_number : (m : ℕ) → (m ≡ n → ⊥) → not ((n == m) || gave g m) ≡ not (gave g m)
  other_number m apart = rw (ne_eqb n m (λ e. apart (sym e))) refl

  this_number : not ((n == n) || gave g n) ≡ false
  this_number = rw (eq-eqb n n refl) refl

  left_other_span : (j : ℕ) (s : Option (ℕ × ℕ)) → (j ≡ k → ⊥) → span g j ≡ s → filter (λ m. not ((n == m) || gave g m)) (span_numbers s) ≡ filter (λ m. not (gave g m)) (span_numbers s)
  left_other_span j None apart e = refl
  left_other_span j (Some s) apart e =
      filter_outside (λ m. not (gave g m)) (λ m. not ((n == m) || gave g m)) s.0 (s.1 - s.0) n other_number
      (λ m lo hi same. let w = owns_span g sound j s e in
      apart (same_Some j k (sym (w.owns n (let sm : m ≡ n = same in omega arith) (let sm : m ≡ n = same in let ord : s.0 ≤ s.1 = w.in_order in omega arith)) ∙ mine)))

  -- every other transfer has the same numbers left
  pub left_other : (j : ℕ) → (j ≡ k → ⊥) → left_of ((Gave l n, bytes) ∷ g) j ≡ left_of g j
  left_other j apart = left_other_span j (span g j) apart refl

  left_here_span : (ns : List ℕ) (s : Option (ℕ × ℕ)) → filter (λ m. not (gave g m)) (span_numbers s) ≡ n ∷ ns → filter (λ m. not ((n == m) || gave g m)) (span_numbers s) ≡ ns
  left_here_span ns None e = absurd (cc)
  left_here_span ns (Some s) e = filter_first (λ m. not (gave g m)) (λ m. not ((n == m) || gave g m)) n this_number other_number s.0 (s.1 - s.0) ns e

  -- and the current one has one less
  pub left_here : (ns : List ℕ) → left_of g k ≡ n ∷ ns → left_of ((Gave l n, bytes) ∷ g) k ≡ ns
  left_here ns e = left_here_span ns (span g k) e

  pub delivered_more : (ns : List ℕ) → opened g k ≡ true → left_of g k ≡ n ∷ ns
      → length (delivered ((Gave l n, bytes) ∷ g)) ≡ length (delivered g) + (if is_empty ns then 1 else 0)
  delivered_more ns o e =
      those_count (λ j. landed g j && is_empty (left_of g j)) (λ j. landed g j && is_empty (left_of ((Gave l n, bytes) ∷ g) j)) k
      (rw (here, e) refl) (λ j apart. ap (λ xs. landed g j && is_empty xs) (left_other j apart)) (made g) (landed_made g sound k here)
      ∙ ap (λ b. length (delivered g) + (if b then 1 else 0)) (ap (λ b. b && is_empty (left_of ((Gave l n, bytes) ∷ g) k)) here ∙ ap is_empty (left_here ns e))
    where
      here : landed g k ≡ true
      here = opened_landed g sound k o

  -- no other opened transfer has a number left
  pub others_whole : (m : ℕ) (ms : List ℕ) (j : ℕ) → opened g k ≡ true → gave g n ≡ false → (j ≡ k → ⊥) → opened g j ≡ true → (s : Option (ℕ × ℕ)) → span g j ≡ s
      → filter (λ i. not (gave g i)) (span_numbers s) ≡ m ∷ ms → ⊥
  others_whole m ms j o left apart oj None e f = cc
  others_whole m ms j o left apart oj (Some s) e f =
      let w = owns_span g sound j s e in
      let r = row_first (λ i. not (gave g i)) s.0 (s.1 - s.0) m (ap first f) in
      let owner : serial_of g m ≡ Some j = w.owns m r.from (let ord : s.0 ≤ s.1 = w.in_order in let hi : m < s.0 + (s.1 - s.0) = r.to in omega arith) in
      let a : j + 1 ≡ top g = is_top g sound j m oj owner (not-true (gave g m) r.passes) in
      let b : k + 1 ≡ top g = is_top g sound k n o mine left in
      apart (omega arith)

  other_idle_left : (j : ℕ) (xs : List ℕ) → opened g k ≡ true → gave g n ≡ false → (j ≡ k → ⊥) → opened g j ≡ true → left_of g j ≡ xs → not (is_empty xs) ≡ false
  other_idle_left j [] o left apart oj e = refl
  other_idle_left j (m ∷ ms) o left apart oj e = absurd (others_whole m ms j o left apart oj (span g j) refl e)

  other_idle : (j : ℕ) (b : Bool) → opened g k ≡ true → gave g n ≡ false → (j ≡ k → ⊥) → opened g j ≡ b → (b && not (is_empty (left_of g j))) ≡ false
  other_idle j false o left apart e = refl
  other_idle j true o left apart e = other_idle_left j (left_of g j) o left apart e refl

  current_test : (ns : List ℕ) → opened g k ≡ true → gave g n ≡ false → left_of g k ≡ n ∷ ns
      → (j : ℕ) → (j ≡ k → ⊥) → (opened g j && not (is_empty (left_of ((Gave l n, bytes) ∷ g) j))) ≡ false
  current_test ns o left e j apart = ap (λ xs. opened g j && not (is_empty xs)) (left_other j apart) ∙ other_idle j (opened g j) o left apart refl

  -- after its last number no transfer is current
  pub current_none : opened g k ≡ true → gave g n ≡ false → left_of g k ≡ n ∷ [] → current ((Gave l n, bytes) ∷ g) ≡ None
  current_none o left e = ap first (those_empty (λ j. opened g j && not (is_empty (left_of ((Gave l n, bytes) ∷ g) j))) (made g) (λ j h. elim (cases_eq j k) [
    | inl same ↦ subst (λ i. (opened g i && not (is_empty (left_of ((Gave l n, bytes) ∷ g) i))) ≡ false) (sym same) (rw (o, left_here [] e) refl)
    | inr apart ↦ current_test [] o left e j apart
  ]))

  -- before that it stays current
  pub current_stays : (m : ℕ) (ms : List ℕ) → opened g k ≡ true → gave g n ≡ false → left_of g k ≡ n ∷ m ∷ ms → current ((Gave l n, bytes) ∷ g) ≡ Some k
  current_stays m ms o left e =
      those_first_is (λ j. opened g j && not (is_empty (left_of ((Gave l n, bytes) ∷ g) j))) (made g) k (rw (o, left_here (m ∷ ms) e) refl)
      (landed_made g sound k (opened_landed g sound k o)) (λ j h. current_test (m ∷ ms) o left e j (λ same. omega arith))
