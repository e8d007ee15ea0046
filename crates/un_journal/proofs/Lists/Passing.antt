-- Numbers that pass a test, in order: the first of them, how many there are, and what one more or one less changes.
use Rattle.std.proofs.Common.{◌≡◌, ℕ, zero, suc, ◌+◌, ◌<◌, ◌≤◌, Bool, true, false, List, [], ◌∷◌, ◌++◌, Some, None, ◌⊎◌, inl, inr, refl, ap, ◌∙◌, subst, arith, if◌then◌else◌, filter, ◌==◌, sym, ◌||◌, length, length-append}
use Rattle.std.proofs.lemmas.Bool.{cases_lt, false≢true, eq-eqb, cases_eq, or_right, or_cases, or_left}
use Rattle.std.proofs.lemmas.Option.{same_Some, none-some}
use Rattle.un_facts.proofs.Lists.{cons_parts}
use Rattle.un_journal.specs.History.{those, first, row_from}

-- THE FIRST OF THOSE

pub record IsFirstOf (p : ℕ → Bool) (n k : ℕ) : Type 0 where
  pub passes : p k ≡ true
  pub is_below : k < n
  pub is_least : (j : ℕ) → j < k → p j ≡ false

first_append : {X : Type 0} (xs ys : List X) (x : X) → first (xs ++ ys) ≡ Some x → (first xs ≡ Some x) ⊎ ((xs ≡ []) × (first ys ≡ Some x))
first_append [] ys x e = inr (refl, e)
first_append (z ∷ xs) ys x e = inl e

append_empty : {X : Type 0} (xs ys : List X) → xs ++ ys ≡ [] → (xs ≡ []) × (ys ≡ [])
append_empty [] ys e = (refl, e)
append_empty (x ∷ xs) ys e = absurd (cc)

last_first : (b : Bool) (n k : ℕ) → first (if b then n ∷ [] else []) ≡ Some k → (b ≡ true) × (n ≡ k)
last_first true n k e = (refl, same_Some n k e)
last_first false n k e = absurd (none-some k e)

last_none : (b : Bool) (n : ℕ) → (if b then n ∷ [] else []) ≡ [] → b ≡ false
last_none true n e = absurd (cc)
last_none false n e = refl

-- none pass where the list is empty
pub those_none : (p : ℕ → Bool) (n : ℕ) → those p n ≡ [] → (j : ℕ) → j < n → p j ≡ false
those_none p zero e j h = absurd (omega arith)
those_none p (suc n) e j h = go (append_empty (those p n) _ e) (those_none p n)
  where
    go : (those p n ≡ []) × ((if p n then n ∷ [] else []) ≡ []) → (those p n ≡ [] → (i : ℕ) → i < n → p i ≡ false) → p j ≡ false
    go r before = elim (cases_lt j n) [ inl low ↦ before r.0 j low | inr high ↦ let same : n ≡ j = omega arith in subst (λ i. p i ≡ false) same (last_none (p n) n r.1) ]

pub first_none : {X : Type 0} (xs : List X) → first xs ≡ None → xs ≡ []
first_none [] e = refl
first_none (x ∷ xs) e = absurd (cc)

pub those_first : (p : ℕ → Bool) (n k : ℕ) → first (those p n) ≡ Some k → IsFirstOf p n k
those_first p zero k e = absurd (none-some k e)
those_first p (suc n) k e = go (first_append (those p n) _ k e) (those_first p n k)
  where
    more : IsFirstOf p n k → IsFirstOf p (suc n) k
    more w = record { passes = w.passes; is_below = let low : k < n = w.is_below in omega arith; is_least = w.is_least }

    last : those p n ≡ [] → (p n ≡ true) × (n ≡ k) → IsFirstOf p (suc n) k
    last none f = record { passes = subst (λ i. p i ≡ true) f.1 f.0; is_below = omega (arith, f.1); is_least = λ j h. those_none p n none j (omega (arith, f.1)) }

    go : (first (those p n) ≡ Some k) ⊎ ((those p n ≡ []) × (first (if p n then n ∷ [] else []) ≡ Some k)) → (first (those p n) ≡ Some k → IsFirstOf p n k) → IsFirstOf p (suc n) k
    go (inl before) rec = more (rec before)
    go (inr r) rec = last r.0 (last_first (p n) n k r.1)

-- THE FIRST OF A ROW THAT PASSES

pub record IsFirstInRow (p : ℕ → Bool) (a m n : ℕ) : Type 0 where
  pub passes : p n ≡ true
  pub from : a ≤ n
  pub to : n < a + m
  pub is_least : (i : ℕ) → a ≤ i → i < n → p i ≡ false

pub row_none : (p : ℕ → Bool) (a m : ℕ) → filter p (row_from a m) ≡ [] → (i : ℕ) → a ≤ i → i < a + m → p i ≡ false
row_none p a zero e i h g = absurd (omega arith)
row_none p a (suc m) e i h g = go (p a) refl e (row_none p (a + 1) m)
  where
    go : (b : Bool) → p a ≡ b → (if b then (a ∷ filter p (row_from (a + 1) m)) else filter p (row_from (a + 1) m)) ≡ []
        → (filter p (row_from (a + 1) m) ≡ [] → (j : ℕ) → a + 1 ≤ j → j < a + 1 + m → p j ≡ false) → p i ≡ false
    go true is r rec = absurd (cc)
    go false is r rec = elim (cases_lt a i) [ inl low ↦ rec r i (omega arith) (omega arith) | inr high ↦ let same : a ≡ i = omega arith in subst (λ j. p j ≡ false) same is ]

pub row_first : (p : ℕ → Bool) (a m n : ℕ) → first (filter p (row_from a m)) ≡ Some n → IsFirstInRow p a m n
row_first p a zero n e = absurd (none-some n e)
row_first p a (suc m) n e = go (p a) refl e (row_first p (a + 1) m n)
  where
    here : p a ≡ true → a ≡ n → IsFirstInRow p a (suc m) n
    here is same = record { passes = subst (λ i. p i ≡ true) same is; from = omega arith; to = omega arith; is_least = λ i h g. absurd (omega arith) }

    later : p a ≡ false → IsFirstInRow p (a + 1) m n → IsFirstInRow p a (suc m) n
    later is w = record {
      passes = w.passes;
      from = let low : a + 1 ≤ n = w.from in omega arith;
      to = let high : n < a + 1 + m = w.to in omega arith;
      is_least = λ i h g. elim (cases_lt a i) [ inl low ↦ w.is_least i (omega arith) g | inr high ↦ let same : a ≡ i = omega arith in subst (λ j. p j ≡ false) same is ];
    }

    go : (b : Bool) → p a ≡ b → first (if b then (a ∷ filter p (row_from (a + 1) m)) else filter p (row_from (a + 1) m)) ≡ Some n
        → (first (filter p (row_from (a + 1) m)) ≡ Some n → IsFirstInRow p (a + 1) m n) → IsFirstInRow p a (suc m) n
    go true is r rec = here is (same_Some a n r)
    go false is r rec = later is (rec r)

-- REMOVING THE FIRST

pub those_empty : (q : ℕ → Bool) (n : ℕ) → ((j : ℕ) → j < n → q j ≡ false) → those q n ≡ []
those_empty q zero h = refl
those_empty q (suc n) h = rw (those_empty q n (λ j i. h j (omega arith)), h n (omega arith)) refl

last_only : (b : Bool) (n k : ℕ) (ks : List ℕ) → (if b then n ∷ [] else []) ≡ k ∷ ks → (n ≡ k) × ([] ≡ ks)
last_only true n k ks e = cons_parts n k [] ks e
last_only false n k ks e = absurd (cc)

-- q is p without k, which is the first that p passes
pub those_rest : (p q : ℕ → Bool) (k : ℕ) → q k ≡ false → ((j : ℕ) → (j ≡ k → ⊥) → q j ≡ p j) → (n : ℕ) (ks : List ℕ) → those p n ≡ k ∷ ks → those q n ≡ ks
those_rest p q k qk other zero ks e = absurd (cc)
those_rest p q k qk other (suc n) ks e = go (those p n) refl e (λ xs. those_rest p q k qk other n xs)
  where
    only : those p n ≡ [] → n ≡ k → those q (suc n) ≡ []
    only none same = those_empty q (suc n) (λ j h. elim (cases_lt j n) [
      | inl low ↦ other j (λ i. omega arith) ∙ those_none p n none j low
      | inr high ↦ let jk : k ≡ j = omega arith in subst (λ i. q i ≡ false) jk qk
    ])

    bound : (xs : List ℕ) → those p n ≡ k ∷ xs → k < n
    bound xs e' = (those_first p n k (ap first e')).is_below

    go : (xs : List ℕ) → those p n ≡ xs → xs ++ (if p n then n ∷ [] else []) ≡ k ∷ ks → ((ys : List ℕ) → those p n ≡ k ∷ ys → those q n ≡ ys) → those q (suc n) ≡ ks
    go [] is e' rec = let r = last_only (p n) n k ks e' in only is r.0 ∙ r.1
    go (x ∷ xs) is e' rec =
        let r = cons_parts x k _ ks e' in
        let is' : those p n ≡ k ∷ xs = is ∙ ap (λ y. y ∷ xs) r.0 in
        let low : k < n = bound xs is' in
        let same : q n ≡ p n = other n (λ i. omega arith) in
        rw (rec xs is', same) r.1

pub record Cons (xs : List ℕ) (k : ℕ) : Type 0 where
  pub rest : List ℕ
  pub is : xs ≡ k ∷ rest

pub cons_from : (xs : List ℕ) (k : ℕ) → first xs ≡ Some k → Cons xs k
cons_from [] k e = absurd (cc)
cons_from (x ∷ xs) k e = let same : x ≡ k = cc in record { rest = xs; is = ap (λ i. i ∷ xs) same }

pub first_none_then : (xs ys : List ℕ) → xs ≡ [] → first (xs ++ ys) ≡ first ys
first_none_then xs ys e = rw e refl

pub first_some_then : (xs ys : List ℕ) (k : ℕ) → first xs ≡ Some k → first (xs ++ ys) ≡ Some k
first_some_then [] ys k e = absurd (cc)
first_some_then (x ∷ xs) ys k e = e

pub those_first_is : (p : ℕ → Bool) (n k : ℕ) → p k ≡ true → k < n → ((j : ℕ) → j < k → p j ≡ false) → first (those p n) ≡ Some k
those_first_is p zero k pk kn least = absurd (omega arith)
those_first_is p (suc n) k pk kn least = go (cases_lt k n) (those_first_is p n k pk)
  where
    use_last : n ≡ k → first (those p (suc n)) ≡ Some k
    use_last nk = rw (those_empty p n (λ j h. least j (omega arith))) (last n nk)
      where
        last : (i : ℕ) → i ≡ k → first (if p i then i ∷ [] else []) ≡ Some k
        last i ik = rw (subst (λ q. p q ≡ true) (sym ik) pk) (ap Some ik)

    go : (k < n) ⊎ (n ≤ k) → (k < n → ((j : ℕ) → j < k → p j ≡ false) → first (those p n) ≡ Some k) → first (those p (suc n)) ≡ Some k
    go (inl low) rec = first_some_then (those p n) _ k (rec low least)
    go (inr high) rec = use_last (omega arith)

-- counting where one more passes
pub those_count : (p q : ℕ → Bool) (k : ℕ) → p k ≡ false → ((j : ℕ) → (j ≡ k → ⊥) → q j ≡ p j) → (m : ℕ) → k < m → length (those q m) ≡ length (those p m) + (if q k then 1 else 0)
those_count p q k pk other zero h = absurd (omega arith)
those_count p q k pk other (suc m) h = go (cases_lt k m) (those_count p q k pk other m)
  where
    tail : (b : Bool) (i : ℕ) → length (if b then i ∷ [] else []) ≡ (if b then 1 else 0)
    tail true i = refl
    tail false i = refl

    none_same : (n : ℕ) → n ≤ k → those q n ≡ those p n
    none_same zero i = refl
    none_same (suc n) i = rw (none_same n (omega arith), other n (λ e. omega arith)) refl

    at_last : k ≡ m → length (those q (suc m)) ≡ length (those p (suc m)) + (if q k then 1 else 0)
    at_last e =
        let pm : p m ≡ false = subst (λ i. p i ≡ false) e pk in
        let qm : q m ≡ q k = ap q (sym e) in
        rw (length-append, length-append, none_same m (omega arith), pm, qm, tail) (omega arith)

    below : k < m → length (those q m) ≡ length (those p m) + (if q k then 1 else 0) → length (those q (suc m)) ≡ length (those p (suc m)) + (if q k then 1 else 0)
    below low e =
        let same : q m ≡ p m = other m (λ i. omega arith) in
        rw (length-append, length-append, same, e) (omega arith)

    go : (k < m) ⊎ (m ≤ k) → (k < m → length (those q m) ≡ length (those p m) + (if q k then 1 else 0)) → length (those q (suc m)) ≡ length (those p (suc m)) + (if q k then 1 else 0)
    go (inl low) rec = below low (rec low)
    go (inr high) rec = at_last (omega arith)

-- a filter that forgets one number, which isn't there, or is the first that passes
pub filter_outside : (p q : ℕ → Bool) (a m n : ℕ) → ((j : ℕ) → (j ≡ n → ⊥) → q j ≡ p j) → ((j : ℕ) → a ≤ j → j < a + m → j ≡ n → ⊥) → filter q (row_from a m) ≡ filter p (row_from a m)
filter_outside p q a zero n other out = refl
filter_outside p q a (suc m) n other out =
    let here : q a ≡ p a = other a (λ e. out a (omega arith) (omega arith) e) in
    rw (here, filter_outside p q (a + 1) m n other (λ j l h e. out j (omega arith) (omega arith) e)) refl

pub filter_first : (p q : ℕ → Bool) (n : ℕ) → q n ≡ false → ((j : ℕ) → (j ≡ n → ⊥) → q j ≡ p j) → (a m : ℕ) (ns : List ℕ) → filter p (row_from a m) ≡ n ∷ ns → filter q (row_from a m) ≡ ns
filter_first p q n qn other a zero ns e = absurd (cc)
filter_first p q n qn other a (suc m) ns e = go (p a) refl e (filter_first p q n qn other (a + 1) m ns)
  where
    go : (b : Bool) → p a ≡ b → (if b then (a ∷ filter p (row_from (a + 1) m)) else filter p (row_from (a + 1) m)) ≡ n ∷ ns
        → (filter p (row_from (a + 1) m) ≡ n ∷ ns → filter q (row_from (a + 1) m) ≡ ns) → filter q (row_from a (suc m)) ≡ ns
    go true is r rec =
        let parts = cons_parts a n _ ns r in
        let qa : q a ≡ false = subst (λ i. q i ≡ false) (sym parts.0) qn in
        rw (qa, filter_outside p q (a + 1) m n other (λ j l h e. let an : a ≡ n = parts.0 in omega arith)) parts.1
    go false is r rec = elim (cases_eq a n) [
      | inl same ↦ let qa : q a ≡ false = subst (λ i. q i ≡ false) (sym same) qn in rw qa (rec r)
      | inr apart ↦ let qa : q a ≡ false = other a apart ∙ is in rw qa (rec r)
    ]

pub those_less : (p q : ℕ → Bool) (n : ℕ) → ((k : ℕ) → k < n → p k ≡ true → q k ≡ true) → length (those p n) ≤ length (those q n)
those_less p q zero h = omega arith
those_less p q (suc n) h = rw (length-append, length-append) (go (p n) (q n) (h n (omega arith)) (those_less p q n (λ k i. h k (omega arith))))
  where
    go : (a b : Bool) → (a ≡ true → b ≡ true) → length (those p n) ≤ length (those q n) → length (those p n) + length (if a then n ∷ [] else []) ≤ length (those q n) + length (if b then n ∷ [] else [])
    go true true i e = omega arith
    go true false i e = absurd (false≢true (i refl))
    go false true i e = omega arith
    go false false i e = omega arith

pub those_same : (p q : ℕ → Bool) (n : ℕ) → ((k : ℕ) → k < n → p k ≡ q k) → those p n ≡ those q n
those_same p q zero h = refl
those_same p q (suc n) h = rw (h n (omega arith), those_same p q n (λ k i. h k (omega arith))) refl

pub those_longer : (p : ℕ → Bool) (n : ℕ) → length (those p n) ≤ length (those p (suc n))
those_longer p n = rw length-append (omega arith)

pub those_most : (p : ℕ → Bool) (n : ℕ) → length (those p n) ≤ n
those_most p zero = omega arith
those_most p (suc n) = rw length-append (go (p n) (those_most p n))
  where
    go : (b : Bool) → length (those p n) ≤ n → length (those p n) + length (if b then n ∷ [] else []) ≤ suc n
    go true e = omega arith
    go false e = omega arith

abbrev pub has : ℕ → List ℕ → Bool
has k [] = false
has k (x ∷ xs) = x == k || has k xs

pub has_append : (k : ℕ) (xs ys : List ℕ) → has k xs ≡ true → has k (xs ++ ys) ≡ true
has_append k [] ys e = absurd (false≢true e)
has_append k (x ∷ xs) ys e = elim (or_cases (x == k) (has k xs) e) [ inl same ↦ or_left (x == k) (has k (xs ++ ys)) same | inr rest ↦ or_right (x == k) (has k (xs ++ ys)) (has_append k xs ys rest) ]

pub has_last : (k : ℕ) (xs : List ℕ) → has k (xs ++ k ∷ []) ≡ true
has_last k [] = rw (eq-eqb k k refl) refl
has_last k (x ∷ xs) = or_right (x == k) (has k (xs ++ k ∷ [])) (has_last k xs)

pub those_has : (p : ℕ → Bool) (n k : ℕ) → p k ≡ true → k < n → has k (those p n) ≡ true
those_has p zero k e h = absurd (omega arith)
those_has p (suc n) k e h = elim (cases_lt k n) [
  | inl low ↦ has_append k (those p n) _ (those_has p n k e low)
  | inr high ↦ let same : k ≡ n = omega arith in subst (λ i. has k (those p n ++ (if p i then i ∷ [] else [])) ≡ true) same (rw e (has_last k (those p n)))
]
