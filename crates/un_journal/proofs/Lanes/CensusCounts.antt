-- The census of a number: its counts are those of the five places, so they add up to 1 where it is accepted.
use Rattle.std.proofs.Common.{◌≡◌, ℕ, zero, suc, ◌+◌, ◌-◌, ◌<◌, ◌≤◌, Bool, true, false, not, ◌&&◌, ◌||◌, ◌==◌, nat_lt, List, [], ◌∷◌, ◌++◌, Option, Some, None, inl, inr, refl, sym, ap, ◌∙◌, subst, arith, if◌then◌else◌, filter, is_some}
use Rattle.std.proofs.lemmas.Bool.{false≢true, cases_lt, eqb-true, eqb-false, eq-eqb, ne_eqb, and_parts, lt-ltb, le-ltb, not-true}
use Rattle.std.proofs.lemmas.Option.{same_Some, none-some}
use Rattle.un_facts.specs.Lists.{is_empty}
use Rattle.un_facts.specs.Numbers.{one_if, within}
use Rattle.un_frame.specs.declared.params.Lane.{Lane}
use Rattle.un_frame.specs.declared.params.Lane.TheVariants.{Outward, Inward}
use Rattle.un_frame.specs.declared.params.Params.{Params}
use Rattle.un_frame.specs.declared.kinds.Phase.{Phase}
use Rattle.un_frame.specs.declared.kinds.Phase.TheVariants.{Up, Asleep, Stopping, Leaving, Down, Away}
use Rattle.un_journal.specs.declared.census.Census.{Census}
use Rattle.un_journal.specs.declared.lines.Line.TheVariants.{Made, Failed, Cut, Dropped, Gave}
use Rattle.un_journal.specs.History.{History, told_if, those, first, row_from, numbers, more_if, taken, cover, made, span, span_numbers, serial_of, dropped, flies, waits, landed, failed, was_cut, opened, gave, given, left_of, waiting, flying, arrived, current, for_serial, in_builder, in_list, in_transfer, at_peer, is_lost}
use Rattle.un_journal.specs.Lookup.{block_open, deferred, queued}
use Rattle.un_journal.specs.Sound.{IsSound}
use Rattle.un_journal.specs.Places.{trues, places}
use Rattle.un_journal.specs.Census.{occurrences, numbers_of, built_numbers, in_block, outside_block, left_in, lost_numbers, lane_census, total, NamesPlace, nowhere}
use Rattle.un_journal.proofs.Lists.Passing.{IsFirstOf, those_first, those_none, first_none, row_first}
use Rattle.un_journal.proofs.Lanes.Owners.{owned, given_from, opened_landed, within_yes, within_below, within_above, within_true}
use Rattle.un_journal.proofs.Lanes.MayFollow.{has_span, OwnsSpan, owns_span, whole_gave, is_top, fresh}
use Rattle.un_journal.proofs.Lanes.GivenOrder.{cover_below, top}
use Rattle.un_journal.proofs.Lanes.Status.{NoneEnded, status_of, flying_open, cut_open, waits_only}
use Rattle.un_journal.proofs.Lanes.Places.{partition}

-- HOW OFTEN A NUMBER STANDS IN A LIST

more_sum : (b : Bool) (x y : ℕ) → more_if b (x + y) ≡ more_if b x + y
more_sum true x y = omega arith
more_sum false x y = refl

pub occurrences_append : (n : ℕ) (xs ys : List ℕ) → occurrences n (xs ++ ys) ≡ occurrences n xs + occurrences n ys
occurrences_append n [] ys = omega arith
occurrences_append n (x ∷ xs) ys = ap (more_if (x == n)) (occurrences_append n xs ys) ∙ more_sum (x == n) (occurrences n xs) (occurrences n ys)

within_from : (a m n : ℕ) → within a (a + m) n ≡ true → (a ≤ n) × (n < a + m)
within_from a m n e = within_true a (a + m) n e

pub occurrences_row : (n a m : ℕ) → occurrences n (row_from a m) ≡ one_if (within a (a + m) n)
occurrences_row n a zero = ap one_if (sym (none (within a (a + 0) n) refl))
  where
    none : (b : Bool) → within a (a + 0) n ≡ b → within a (a + 0) n ≡ false
    none false e = e
    none true e = let r = within_true a (a + 0) n e in absurd (let low : a ≤ n = r.0 in let high : n < a + 0 = r.1 in omega arith)
occurrences_row n a (suc m) = go (a == n) refl (occurrences_row n (a + 1) m)
  where
    go : (b : Bool) → (a == n) ≡ b → occurrences n (row_from (a + 1) m) ≡ one_if (within (a + 1) (a + 1 + m) n) → more_if b (occurrences n (row_from (a + 1) m)) ≡ one_if (within a (a + suc m) n)
    go true e rec =
        let same : a ≡ n = eqb-true a n e in
        rw (rec, within_below (a + 1) (a + 1 + m) n (omega arith), within_yes a (a + suc m) n (omega arith) (omega arith)) refl
    go false e rec = rec ∙ ap one_if (elim (cases_lt n (a + 1)) [
      | inl low ↦ within_below (a + 1) (a + 1 + m) n low ∙ sym (within_below a (a + suc m) n (let apart = eqb-false a n e in omega (arith, apart)))
      | inr high ↦ elim (cases_lt n (a + 1 + m)) [
        | inl under ↦ within_yes (a + 1) (a + 1 + m) n high under ∙ sym (within_yes a (a + suc m) n (omega arith) (omega arith))
        | inr over ↦ within_above (a + 1) (a + 1 + m) n over ∙ sym (within_above a (a + suc m) n (omega arith))
      ]
    ])

pub occurrences_numbers : (n a b : ℕ) → a ≤ b → occurrences n (numbers (a, b)) ≡ one_if (within a b n)
occurrences_numbers n a b low = occurrences_row n a (b - a) ∙ ap (λ i. one_if (within a i n)) end
  where
    end : a + (b - a) ≡ b
    end = omega arith

occurrences_filter : (p : ℕ → Bool) (n : ℕ) (xs : List ℕ) → occurrences n (filter p xs) ≡ (if p n then occurrences n xs else 0)
occurrences_filter p n [] = none (p n)
  where
    none : (b : Bool) → ◌≡◌ {A = ℕ} 0 (if b then 0 else 0)
    none true = refl
    none false = refl
occurrences_filter p n (x ∷ xs) = go (x == n) refl (p x) refl (occurrences_filter p n xs)
  where
    go : (s : Bool) → (x == n) ≡ s → (v : Bool) → p x ≡ v → occurrences n (filter p xs) ≡ (if p n then occurrences n xs else 0)
        → occurrences n (if v then (x ∷ filter p xs) else filter p xs) ≡ (if p n then more_if s (occurrences n xs) else 0)
    go false s true v rec = rw s rec
    go false s false v rec = rec
    go true s true v rec = rw (s, rec, at_n true v) refl
      where
        at_n : (b : Bool) → p x ≡ b → p n ≡ b
        at_n b e = subst (λ i. p i ≡ b) (eqb-true x n s) e
    go true s false v rec = rw (rec, at_n false v) refl
      where
        at_n : (b : Bool) → p x ≡ b → p n ≡ b
        at_n b e = subst (λ i. p i ≡ b) (eqb-true x n s) e

-- THE NUMBERS OF TRANSFERS

-- whether this is its transfer
abbrev is_owner : Option ℕ → ℕ → Bool
is_owner o k = for_serial (λ j. j == k) o

not_owner : (o : Option ℕ) (k : ℕ) → (o ≡ Some k → ⊥) → is_owner o k ≡ false
not_owner None k never = refl
not_owner (Some j) k never = ne_eqb j k (λ e. never (ap (λ i. Some i) e))

owner_is : (o : Option ℕ) (k : ℕ) → o ≡ Some k → is_owner o k ≡ true
owner_is o k e = rw e (eq-eqb k k refl)

span_occurrences : (g : History) → IsSound g → (k n : ℕ) → occurrences n (span_numbers (span g k)) ≡ one_if (is_owner (serial_of g n) k)
span_occurrences g sound k n = go (span g k) refl
  where
    go : (o : Option (ℕ × ℕ)) → span g k ≡ o → occurrences n (span_numbers o) ≡ one_if (is_owner (serial_of g n) k)
    go None e = ap one_if (sym (not_owner (serial_of g n) k (λ i. let w = has_span g sound n k i in absurd_pair (w.from, w.to) (sym e ∙ w.is_span))))
      where
        absurd_pair : (x : ℕ × ℕ) → None ≡ Some x → ⊥
        absurd_pair x q = cc
    go (Some s) e = occurrences_numbers n s.0 s.1 w.in_order ∙ ap one_if (same (within s.0 s.1 n) refl)
      where
        w : OwnsSpan g k s
        w = owns_span g sound k s e

        same : (v : Bool) → within s.0 s.1 n ≡ v → within s.0 s.1 n ≡ is_owner (serial_of g n) k
        same true v = let r = within_true s.0 s.1 n v in v ∙ sym (owner_is (serial_of g n) k (w.owns n r.0 r.1))
        same false v = v ∙ sym (not_owner (serial_of g n) k (λ i.
            let h = has_span g sound n k i in
            let p : s ≡ (h.from, h.to) = same_Some s (h.from, h.to) (sym e ∙ h.is_span) in
            let lo : s.0 ≡ h.from = ap (λ (q : ℕ × ℕ). q.0) p in
            let hi : s.1 ≡ h.to = ap (λ (q : ℕ × ℕ). q.1) p in
            let above : h.from ≤ n = h.above in
            let below : n < h.to = h.below in
            false≢true (sym v ∙ within_yes s.0 s.1 n (omega arith) (omega arith))))

numbers_append : (g : History) (n : ℕ) (xs ys : List ℕ) → occurrences n (numbers_of g (xs ++ ys)) ≡ occurrences n (numbers_of g xs) + occurrences n (numbers_of g ys)
numbers_append g n [] ys = omega arith
numbers_append g n (x ∷ xs) ys =
    let e : occurrences n (span_numbers (span g x) ++ numbers_of g (xs ++ ys)) ≡ occurrences n (span_numbers (span g x)) + occurrences n (numbers_of g (xs ++ ys)) = occurrences_append n (span_numbers (span g x)) (numbers_of g (xs ++ ys)) in
    let f : occurrences n (span_numbers (span g x) ++ numbers_of g xs) ≡ occurrences n (span_numbers (span g x)) + occurrences n (numbers_of g xs) = occurrences_append n (span_numbers (span g x)) (numbers_of g xs) in
    let r : occurrences n (numbers_of g (xs ++ ys)) ≡ occurrences n (numbers_of g xs) + occurrences n (numbers_of g ys) = numbers_append g n xs ys in omega arith

-- whether n stands in the spans of the transfers below m that pass, by the transfer that owns it
abbrev listed_below : (ℕ → Bool) → ℕ → Option ℕ → ℕ
listed_below p m None = 0
listed_below p m (Some j) = one_if (nat_lt j m && p j)

abbrev counted : Bool → ℕ → ℕ
counted true x = x
counted false x = 0

counted_none : (b : Bool) → counted b 0 ≡ 0
counted_none true = refl
counted_none false = refl

counted_one : (b : Bool) → counted b 1 ≡ one_if b
counted_one true = refl
counted_one false = refl

one_more : (g : History) (n : ℕ) (b : Bool) (m : ℕ) → IsSound g → occurrences n (numbers_of g (if b then m ∷ [] else [])) ≡ counted b (one_if (is_owner (serial_of g n) m))
one_more g n true m sound =
    let e : occurrences n (span_numbers (span g m) ++ []) ≡ occurrences n (span_numbers (span g m)) + 0 = occurrences_append n (span_numbers (span g m)) [] in
    let s : occurrences n (span_numbers (span g m)) ≡ one_if (is_owner (serial_of g n) m) = span_occurrences g sound m n in omega arith
one_more g n false m sound = refl

listed_more : (p : ℕ → Bool) (m : ℕ) (o : Option ℕ) → listed_below p m o + counted (p m) (one_if (is_owner o m)) ≡ listed_below p (suc m) o
listed_more p m None = let e : counted (p m) 0 ≡ 0 = counted_none (p m) in omega arith
listed_more p m (Some j) = elim (cases_lt j m) [
  | inl low ↦
      let e : counted (p m) 0 ≡ 0 = counted_none (p m) in
      rw (lt-ltb j m low, lt-ltb j (suc m) (omega arith), ne_eqb j m (λ i. omega (arith, i))) (omega arith)
  | inr high ↦ elim (cases_lt m j) [
    | inl above ↦
        let e : counted (p m) 0 ≡ 0 = counted_none (p m) in
        rw (le-ltb j m high, le-ltb j (suc m) (omega arith), ne_eqb j m (λ i. omega (arith, i))) (omega arith)
    | inr equal ↦ let same : j ≡ m = omega arith in
        subst (λ i. one_if (nat_lt i m && p i) + counted (p m) (one_if (i == m)) ≡ one_if (nat_lt i (suc m) && p i)) (sym same)
        (let e : counted (p m) 1 ≡ one_if (p m) = counted_one (p m) in rw (le-ltb m m (omega arith), lt-ltb m (suc m) (omega arith), eq-eqb m m refl) (omega arith))
  ]
]

listed : (g : History) → IsSound g → (n : ℕ) (p : ℕ → Bool) (m : ℕ) → occurrences n (numbers_of g (those p m)) ≡ listed_below p m (serial_of g n)
listed g sound n p zero = none (serial_of g n)
  where
    none : (o : Option ℕ) → 0 ≡ listed_below p 0 o
    none None = refl
    none (Some j) = rw (le-ltb j 0 (omega arith)) refl
listed g sound n p (suc m) =
    numbers_append g n (those p m) _ ∙ (ap (λ i. i + occurrences n (numbers_of g (if p m then m ∷ [] else []))) (listed g sound n p m)
    ∙ (ap (λ i. listed_below p m (serial_of g n) + i) (one_more g n (p m) m sound) ∙ listed_more p m (serial_of g n)))

-- of all transfers
pub all_listed : (g : History) → IsSound g → (n : ℕ) (p : ℕ → Bool) → occurrences n (numbers_of g (those p (made g))) ≡ one_if (for_serial p (serial_of g n))
all_listed g sound n p = listed g sound n p (made g) ∙ go (serial_of g n) refl
  where
    go : (o : Option ℕ) → serial_of g n ≡ o → listed_below p (made g) o ≡ one_if (for_serial p o)
    go None e = refl
    go (Some j) e = rw (lt-ltb j (made g) ((owned g sound n).known j e)) refl

-- THE CURRENT TRANSFER

record LeftNumber (g : History) (k : ℕ) : Type 0 where
  number : ℕ
  is_mine : serial_of g number ≡ Some k
  is_left : gave g number ≡ false

left_number : (g : History) → IsSound g → (k : ℕ) → is_empty (left_of g k) ≡ false → LeftNumber g k
left_number g sound k e = go (span g k) refl e
  where
    at_first : (s : ℕ × ℕ) → span g k ≡ Some s → (xs : List ℕ) → filter (λ m. not (gave g m)) (numbers s) ≡ xs → is_empty xs ≡ false → LeftNumber g k
    at_first s q [] f e = absurd (false≢true (sym e))
    at_first s q (m ∷ ms) f e =
        let r = row_first (λ i. not (gave g i)) s.0 (s.1 - s.0) m (ap first f) in
        let w = owns_span g sound k s q in
        record {
          number = m;
          is_mine = w.owns m r.from (let order : s.0 ≤ s.1 = w.in_order in let hi : m < s.0 + (s.1 - s.0) = r.to in omega arith);
          is_left = not-true (gave g m) r.passes;
        }

    go : (o : Option (ℕ × ℕ)) → span g k ≡ o → is_empty (filter (λ m. not (gave g m)) (span_numbers o)) ≡ false → LeftNumber g k
    go None q e = absurd (false≢true (sym e))
    go (Some s) q e = at_first s q _ refl e

-- only the current transfer can have been opened and have a number left
current_owner : (g : History) → IsSound g → (n c k : ℕ) → current g ≡ Some c → serial_of g n ≡ Some k → gave g n ≡ false → opened g k ≡ (k == c)
current_owner g sound n c k cur own left = go (k == c) refl (opened g k) refl
  where
    f : IsFirstOf (λ j. opened g j && not (is_empty (left_of g j))) (made g) c
    f = those_first (λ j. opened g j && not (is_empty (left_of g j))) (made g) c cur

    r : (opened g c ≡ true) × (not (is_empty (left_of g c)) ≡ true)
    r = and_parts (opened g c) (not (is_empty (left_of g c))) f.passes

    go : (b : Bool) → (k == c) ≡ b → (o : Bool) → opened g k ≡ o → o ≡ b
    go true e true i = refl
    go false e false i = refl
    go true e false i = absurd (false≢true (sym (subst (λ j. opened g j ≡ false) (eqb-true k c e) i) ∙ r.0))
    go false e true i =
        let m = left_number g sound c (not-true _ r.1) in
        let p : k + 1 ≡ top g = is_top g sound k n i own left in
        let q : c + 1 ≡ top g = is_top g sound c m.number r.0 m.is_mine m.is_left in
        absurd (let apart = eqb-false k c e in omega (arith, apart))

-- where none is current, every opened transfer is given whole
none_current : (g : History) → IsSound g → (n k : ℕ) → current g ≡ None → serial_of g n ≡ Some k → gave g n ≡ false → opened g k ≡ false
none_current g sound n k cur own left = go (opened g k) refl
  where
    go : (o : Bool) → opened g k ≡ o → o ≡ false
    go false i = refl
    go true i =
        let none = those_none (λ j. opened g j && not (is_empty (left_of g j))) (made g) (first_none _ cur) k ((owned g sound n).known k own) in
        absurd (false≢true (sym left ∙ whole_gave g k n (whole (is_empty (left_of g k)) (subst (λ b. (b && not (is_empty (left_of g k))) ≡ false) i none)) (has_span g sound n k own)))
      where
        whole : (b : Bool) → not b ≡ false → b ≡ true
        whole true e = refl
        whole false e = absurd (false≢true (sym e))

current_listed : (g : History) → IsSound g → (n : ℕ) → occurrences n (left_in g (current g)) ≡ one_if (for_serial (λ k. opened g k && not (gave g n)) (serial_of g n))
current_listed g sound n = go (current g) refl (serial_of g n) refl (gave g n) refl
  where
    among : (c : ℕ) (v : Bool) → gave g n ≡ v → occurrences n (left_of g c) ≡ (if not v then one_if (is_owner (serial_of g n) c) else 0)
    among c v e = occurrences_filter (λ m. not (gave g m)) n (span_numbers (span g c)) ∙ rw (e, span_occurrences g sound c n) refl

    go : (cur : Option ℕ) → current g ≡ cur → (o : Option ℕ) → serial_of g n ≡ o → (v : Bool) → gave g n ≡ v → occurrences n (left_in g cur) ≡ one_if (for_serial (λ k. opened g k && not (gave g n)) o)
    go None cur None own v e = refl
    go None cur (Some k) own true e = rw e (none (opened g k))
      where
        none : (b : Bool) → 0 ≡ one_if (b && false)
        none true = refl
        none false = refl
    go None cur (Some k) own false e = rw (e, none_current g sound n k cur own e) refl
    go (Some c) cur None own true e = among c true e
    go (Some c) cur None own false e = among c false e ∙ rw own refl
    go (Some c) cur (Some k) own true e = among c true e ∙ rw e (none (opened g k))
      where
        none : (b : Bool) → 0 ≡ one_if (b && false)
        none true = refl
        none false = refl
    go (Some c) cur (Some k) own false e = among c false e ∙ rw (e, own, current_owner g sound n c k cur own e) (same (k == c))
      where
        same : (b : Bool) → one_if b ≡ one_if (b && true)
        same true = refl
        same false = refl

-- GIVEN AND LOST

given_once : (b v : Bool) → (b ≡ true → v ≡ false) → one_if v + more_if b 0 ≡ one_if (b || v)
given_once true v h = rw (h refl) refl
given_once false true h = refl
given_once false false h = refl

given_listed : (g : History) → IsSound g → (n : ℕ) → occurrences n (given g) ≡ one_if (gave g n)
given_listed [] sound n = refl
given_listed ((Gave l m, bytes) ∷ g) sound n =
    occurrences_append n (given g) (m ∷ []) ∙ (ap (λ i. i + more_if (m == n) 0) (given_listed g sound.1 n)
    ∙ given_once (m == n) (gave g n) (λ e. subst (λ i. gave g i ≡ false) (eqb-true m n e) sound.0.is_left))
given_listed (e ∷ g) sound n = given_listed g sound.1 n

abbrev lost_one : Bool → Bool → Option ℕ → (ℕ → Bool) → ℕ
lost_one v d o p = one_if (for_serial p o || d)

-- a transfer that ends badly was in no other place before
end_once : (k : ℕ) (o : Option ℕ) (d : Bool) (p q : ℕ → Bool) → (is_some o ≡ true → d ≡ false) → ((j : ℕ) → (k == j) ≡ true → p j ≡ false)
    → ((j : ℕ) → q j ≡ (k == j || p j)) → one_if (for_serial p o || d) + one_if (is_owner o k) ≡ one_if (for_serial q o || d)
end_once k None d p q apart fresh' more = omega arith
end_once k (Some j) d p q apart fresh' more = rw (more j, apart refl) (go (k == j) refl (j == k) refl)
  where
    go : (b : Bool) → (k == j) ≡ b → (c : Bool) → (j == k) ≡ c → one_if (p j || false) + one_if c ≡ one_if ((b || p j) || false)
    go true e true f = rw (fresh' j e) refl
    go false e false f = omega arith
    go true e false f = absurd (eqb-false j k f (sym (eqb-true k j e)))
    go false e true f = absurd (eqb-false k j e (sym (eqb-true j k f)))

none_ended : (l x c : Bool) → NoneEnded l x c → (x || c) ≡ false
none_ended l x c w = rw (w.not_failed, w.not_cut) refl

drop_once : (v d : Bool) (o : Option ℕ) (p : ℕ → Bool) → (v ≡ true → (is_some o ≡ false) × (d ≡ false)) → one_if (for_serial p o || d) + one_if v ≡ one_if (for_serial p o || (v || d))
drop_once false d o p h = omega arith
drop_once true d None p h = rw (h refl).1 refl
drop_once true d (Some k) p h = absurd (false≢true (sym (h refl).0))

made_lost : (v : Bool) (j : ℕ) (o : Option ℕ) (d : Bool) (p : ℕ → Bool) → (v ≡ true → (is_some o ≡ false) × (p j ≡ false)) → one_if (for_serial p o || d) ≡ one_if (for_serial p (told_if v j o) || d)
made_lost false j o d p h = refl
made_lost true j None d p h = rw (h refl).1 refl
made_lost true j (Some k) d p h = absurd (false≢true (sym (h refl).0))

exclusive : (g : History) → IsSound g → (n : ℕ) → is_some (serial_of g n) ≡ true → dropped g n ≡ false
exclusive g sound n e = elim (cases_lt n (cover g)) [ inl low ↦ not_is (dropped g n) (sym e ∙ (owned g sound n).below low) | inr high ↦ ((owned g sound n).above high).1 ]
  where
    not_is : (b : Bool) → true ≡ not b → b ≡ false
    not_is true h = absurd (false≢true (sym h))
    not_is false h = refl

quiet_is_whole : (g : History) → IsSound g → (k : ℕ) → made g ≤ k → (failed g k || was_cut g k) ≡ false
quiet_is_whole g sound k h = let r = status_of g sound k in rw (r.failed_is, r.cut_is, fresh g sound k h) refl

lost_listed : (g : History) → IsSound g → (n : ℕ) → occurrences n (lost_numbers g) ≡ one_if (is_lost g n)
lost_listed [] sound n = refl
lost_listed ((Failed l k kind, bytes) ∷ g) sound n =
    occurrences_append n (lost_numbers g) _ ∙ (ap (λ i. i + occurrences n (span_numbers (span g k))) (lost_listed g sound.1 n)
    ∙ (ap (λ i. one_if (is_lost g n) + i) (span_occurrences g sound.1 k n)
    ∙ end_once k (serial_of g n) (dropped g n) (λ j. failed g j || was_cut g j) (λ j. (k == j || failed g j) || was_cut g j) (exclusive g sound.1 n)
    (λ j e. none_ended (landed g j) (failed g j) (was_cut g j) (flying_open g k j (status_of g sound.1 j) sound.0 e)) (λ j. or_assoc (k == j) (failed g j) (was_cut g j))))
  where
    or_assoc : (a b c : Bool) → ((a || b) || c) ≡ (a || (b || c))
    or_assoc true b c = refl
    or_assoc false b c = refl
lost_listed ((Cut l k c, bytes) ∷ g) sound n =
    occurrences_append n (lost_numbers g) _ ∙ (ap (λ i. i + occurrences n (span_numbers (span g k))) (lost_listed g sound.1 n)
    ∙ (ap (λ i. one_if (is_lost g n) + i) (span_occurrences g sound.1 k n)
    ∙ end_once k (serial_of g n) (dropped g n) (λ j. failed g j || was_cut g j) (λ j. failed g j || (k == j || was_cut g j)) (exclusive g sound.1 n)
    (λ j e. none_ended (landed g j) (failed g j) (was_cut g j) (cut_open g k j (status_of g sound.1 j) sound.0 e)) (λ j. or_swap (k == j) (failed g j) (was_cut g j))))
  where
    or_swap : (a b c : Bool) → (b || (a || c)) ≡ (a || (b || c))
    or_swap true true c = refl
    or_swap true false c = refl
    or_swap false b c = refl
lost_listed ((Dropped l a b c, bytes) ∷ g) sound n =
    occurrences_append n (lost_numbers g) _ ∙ (ap (λ i. i + occurrences n (numbers (a, b))) (lost_listed g sound.1 n)
    ∙ (ap (λ i. one_if (is_lost g n) + i) (occurrences_numbers n a b (let some : a < b = sound.0.is_some in omega arith))
    ∙ drop_once (within a b n) (dropped g n) (serial_of g n) (λ k. failed g k || was_cut g k)
    (λ v. let r = within_true a b n v in (owned g sound.1 n).above (let begin : a ≡ cover g = sound.0.begins in let low : a ≤ n = r.0 in omega arith))))
lost_listed ((Made l k a b, bytes) ∷ g) sound n =
    lost_listed g sound.1 n
    ∙ made_lost (within a b n) k (serial_of g n) (dropped g n) (λ j. failed g j || was_cut g j)
    (λ v. let r = within_true a b n v in
    let w = (owned g sound.1 n).above (let begin : a ≡ cover g = sound.0.1.begins in let low : a ≤ n = r.0 in omega arith) in
    (w.0, quiet_is_whole g sound.1 k (let e : k ≡ made g = sound.0.0 in omega arith)))
lost_listed (e ∷ g) sound n = lost_listed g sound.1 n

-- THE PLACES

open_or_not : (b : Bool) (n : ℕ) (ns : List ℕ) → occurrences n (in_block b ns) + occurrences n (outside_block b ns) ≡ occurrences n ns
open_or_not true n ns = omega arith
open_or_not false n ns = omega arith

builder_counts : (params : Params) (lane : Lane) (g : History) → IsSound g → (n : ℕ) → occurrences n (in_block (block_open params lane g) (built_numbers g)) + occurrences n (outside_block (block_open params lane g) (built_numbers g)) ≡ one_if (within (cover g) (taken g) n)
builder_counts params lane g sound n = open_or_not (block_open params lane g) n (built_numbers g) ∙ occurrences_numbers n (cover g) (taken g) (cover_below g sound)

builder_is : (g : History) → IsSound g → (n : ℕ) → n < taken g → within (cover g) (taken g) n ≡ in_builder g n
builder_is g sound n low = elim (cases_lt n (cover g)) [
  | inl under ↦ within_below (cover g) (taken g) n under ∙ covered (is_some (serial_of g n)) (dropped g n) ((owned g sound n).below under)
  | inr over ↦ within_yes (cover g) (taken g) n over low ∙ (let w = (owned g sound n).above over in rw (w.0, w.1) refl)
]
  where
    covered : (s d : Bool) → s ≡ not d → false ≡ (not s && not d)
    covered true d e = refl
    covered false true e = refl
    covered false false e = absurd (false≢true e)

waiting_counts : (phase : Phase) (lane : Lane) (g : History) (n : ℕ) → occurrences n (numbers_of g (deferred phase lane g)) + occurrences n (numbers_of g (queued phase lane g)) ≡ occurrences n (numbers_of g (waiting g))
waiting_counts Asleep Outward g n = omega arith
waiting_counts Asleep Inward g n = omega arith
waiting_counts Up lane g n = omega arith
waiting_counts Stopping lane g n = omega arith
waiting_counts Leaving lane g n = omega arith
waiting_counts Down lane g n = omega arith
waiting_counts Away lane g n = omega arith

-- a number of a list waits, has arrived or is left of the current transfer
list_by : (w l o v : Bool) → (w ≡ true → l ≡ false) → (o ≡ true → l ≡ true) → (v ≡ true → o ≡ true) → one_if w + one_if (l && not o) + one_if (o && not v) ≡ one_if (w || (l && not v))
list_by true true o v a b c = absurd (false≢true (sym (a refl)))
list_by true false true v a b c = absurd (false≢true (b refl))
list_by true false false v a b c = refl
list_by false true true true a b c = refl
list_by false true true false a b c = refl
list_by false true false true a b c = absurd (false≢true (c refl))
list_by false true false false a b c = refl
list_by false false true v a b c = absurd (false≢true (b refl))
list_by false false false v a b c = refl

waits_apart : (f l x c : Bool) → (not f && not (l || x || c)) ≡ true → l ≡ false
waits_apart f l x c e = (waits_only f l x c e).1.not_landed

list_counts : (phase : Phase) (lane : Lane) (g : History) → IsSound g → (n : ℕ)
    → occurrences n (numbers_of g (deferred phase lane g)) + occurrences n (numbers_of g (queued phase lane g)) + occurrences n (numbers_of g (arrived g)) + occurrences n (left_in g (current g)) ≡ one_if (in_list g n)
list_counts phase lane g sound n =
    let w : occurrences n (numbers_of g (deferred phase lane g)) + occurrences n (numbers_of g (queued phase lane g)) ≡ occurrences n (numbers_of g (waiting g)) = waiting_counts phase lane g n in
    let a : occurrences n (numbers_of g (waiting g)) ≡ one_if (for_serial (waits g) (serial_of g n)) = all_listed g sound n (waits g) in
    let b : occurrences n (numbers_of g (arrived g)) ≡ one_if (for_serial (λ k. landed g k && not (opened g k)) (serial_of g n)) = all_listed g sound n (λ k. landed g k && not (opened g k)) in
    let c : occurrences n (left_in g (current g)) ≡ one_if (for_serial (λ k. opened g k && not (gave g n)) (serial_of g n)) = current_listed g sound n in
    let d : one_if (for_serial (waits g) (serial_of g n)) + one_if (for_serial (λ k. landed g k && not (opened g k)) (serial_of g n)) + one_if (for_serial (λ k. opened g k && not (gave g n)) (serial_of g n)) ≡ one_if (in_list g n) = go (serial_of g n) refl in omega arith
  where
    go : (o : Option ℕ) → serial_of g n ≡ o → one_if (for_serial (waits g) o) + one_if (for_serial (λ k. landed g k && not (opened g k)) o) + one_if (for_serial (λ k. opened g k && not (gave g n)) o)
        ≡ one_if (for_serial (λ k. waits g k || (landed g k && not (gave g n))) o)
    go None e = refl
    go (Some k) e = list_by (waits g k) (landed g k) (opened g k) (gave g n) (waits_apart (flies g k) (landed g k) (failed g k) (was_cut g k)) (opened_landed g sound k)
        (λ v. let r = given_from g sound n v in subst (λ j. opened g j ≡ true) (same_Some r.serial k (sym r.is_owner ∙ e)) r.was_opened)

five : (a b c d e : Bool) → trues (a ∷ b ∷ c ∷ d ∷ e ∷ []) ≡ one_if a + one_if b + one_if c + one_if d + one_if e
five a b c d e =
    let p : trues (a ∷ b ∷ c ∷ d ∷ e ∷ []) ≡ trues (b ∷ c ∷ d ∷ e ∷ []) + one_if a = more a _ in
    let q : trues (b ∷ c ∷ d ∷ e ∷ []) ≡ trues (c ∷ d ∷ e ∷ []) + one_if b = more b _ in
    let r : trues (c ∷ d ∷ e ∷ []) ≡ trues (d ∷ e ∷ []) + one_if c = more c _ in
    let s : trues (d ∷ e ∷ []) ≡ trues (e ∷ []) + one_if d = more d _ in
    let t : trues (e ∷ []) ≡ 0 + one_if e = more e [] in omega arith
  where
    more : (b : Bool) (bs : List Bool) → trues (b ∷ bs) ≡ trues bs + one_if b
    more true bs = refl
    more false bs = omega arith

all_zero : (b r d q f a c v l : ℕ) → b ≡ 0 → r ≡ 0 → d ≡ 0 → q ≡ 0 → f ≡ 0 → a ≡ 0 → c ≡ 0 → v ≡ 0 → l ≡ 0
    → ◌≡◌ {A = Census} (record { builder = b; remainder = r; deferred = d; queued = q; flying = f; arrived = a; current = c; given = v; lost = l }) nowhere
all_zero b r d q f a c v l eb er ed eq ef ea ec ev el = rw (eb, er, ed, eq, ef, ea, ec, ev, el) refl

module _ (params : Params) (phase : Phase) (lane : Lane) (g : History) (sound : IsSound g) (n : ℕ) where
  pub names_place : n < taken g → NamesPlace (lane_census params phase lane g n) g n
  names_place low = record {
    is_builder = builder_counts params lane g sound n ∙ ap one_if (builder_is g sound n low);
    is_list = list_counts phase lane g sound n;
    is_transfer = all_listed g sound n (flies g);
    is_peer = given_listed g sound n;
    is_loss = lost_listed g sound n;
  }

  pub adds_up : n < taken g → total (lane_census params phase lane g n) ≡ 1
  adds_up low =
      let w = names_place low in
      let b : occurrences n (in_block (block_open params lane g) (built_numbers g)) + occurrences n (outside_block (block_open params lane g) (built_numbers g)) ≡ one_if (in_builder g n) = w.is_builder in
      let i : occurrences n (numbers_of g (deferred phase lane g)) + occurrences n (numbers_of g (queued phase lane g)) + occurrences n (numbers_of g (arrived g)) + occurrences n (left_in g (current g)) ≡ one_if (in_list g n) = w.is_list in
      let f : occurrences n (numbers_of g (flying g)) ≡ one_if (in_transfer g n) = w.is_transfer in
      let p : occurrences n (given g) ≡ one_if (at_peer g n) = w.is_peer in
      let x : occurrences n (lost_numbers g) ≡ one_if (is_lost g n) = w.is_loss in
      let one : trues (places g n) ≡ 1 = partition g sound n in
      let sum : trues (places g n) ≡ one_if (in_builder g n) + one_if (in_list g n) + one_if (in_transfer g n) + one_if (at_peer g n) + one_if (is_lost g n) = five (in_builder g n) (in_list g n) (in_transfer g n) (at_peer g n) (is_lost g n) in omega arith

  no_owner : taken g ≤ n → serial_of g n ≡ None
  no_owner high = go (serial_of g n) ((owned g sound n).above (let low : cover g ≤ taken g = cover_below g sound in omega arith)).0
    where
      go : (o : Option ℕ) → is_some o ≡ false → o ≡ None
      go None e = refl
      go (Some k) e = absurd (false≢true (sym e))

  not_given : serial_of g n ≡ None → (v : Bool) → gave g n ≡ v → v ≡ false
  not_given none false e = refl
  not_given none true e = let r = given_from g sound n e in absurd (none-some r.serial (sym none ∙ r.is_owner))

  pub is_nowhere : taken g ≤ n → lane_census params phase lane g n ≡ nowhere
  is_nowhere high =
      let none : serial_of g n ≡ None = no_owner high in
      let b : occurrences n (in_block (block_open params lane g) (built_numbers g)) + occurrences n (outside_block (block_open params lane g) (built_numbers g)) ≡ 0 =
      builder_counts params lane g sound n ∙ ap one_if (within_above (cover g) (taken g) n high) in
      let i : occurrences n (numbers_of g (deferred phase lane g)) + occurrences n (numbers_of g (queued phase lane g)) + occurrences n (numbers_of g (arrived g)) + occurrences n (left_in g (current g)) ≡ 0 =
      list_counts phase lane g sound n ∙ ap (λ o. one_if (for_serial (λ k. waits g k || (landed g k && not (gave g n))) o)) none in
      let f : occurrences n (numbers_of g (flying g)) ≡ 0 = all_listed g sound n (flies g) ∙ ap (λ o. one_if (for_serial (flies g) o)) none in
      let p : occurrences n (given g) ≡ 0 = given_listed g sound n ∙ ap one_if (not_given none (gave g n) refl) in
      let d : dropped g n ≡ false = ((owned g sound n).above (let low : cover g ≤ taken g = cover_below g sound in omega arith)).1 in
      let x : occurrences n (lost_numbers g) ≡ 0 = lost_listed g sound n ∙ (ap (λ o. one_if (for_serial (λ k. failed g k || was_cut g k) o || dropped g n)) none ∙ ap one_if d) in
      all_zero _ _ _ _ _ _ _ _ _ (omega arith) (omega arith) (omega arith) (omega arith) f (omega arith) (omega arith) p x
