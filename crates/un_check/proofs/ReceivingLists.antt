-- Numbers that pass a test, where from some number on none passes, and rows of which all or the first pass.
use Rattle.std.proofs.Common.{◌≡◌, ℕ, zero, suc, ◌+◌, ◌-◌, ◌<◌, ◌≤◌, Bool, true, false, List, [], ◌∷◌, ◌++◌, drop, Some, inl, inr, refl, sym, ap, ◌∙◌, arith, append-nil, filter, if◌then◌else◌}
use Rattle.std.proofs.lemmas.Bool.{cases_lt}
use Rattle.std.proofs.lemmas.Option.{same_Some}
use Rattle.un_facts.proofs.Lists.{cons_parts}
use Rattle.un_journal.specs.History.{those, first, row_from}
use Rattle.un_journal.proofs.ForLane.{those_same}

-- from k on none passes
pub those_until : (p : ℕ → Bool) (k n : ℕ) → ((j : ℕ) → k ≤ j → p j ≡ false) → k ≤ n → those p n ≡ those p k
those_until p k zero none low = ap (those p) (let same : 0 ≡ k = omega arith in same)
those_until p k (suc n) none low = elim (cases_lt n k) [
  | inl above ↦ ap (those p) (let same : suc n ≡ k = omega arith in same)
  | inr below ↦ rw (none n below, append-nil) (those_until p k n none below)
]

-- q passes k, beside what p passes, and all of these are below k
pub those_one_more : (p q : ℕ → Bool) (k n : ℕ) → q k ≡ true → ((j : ℕ) → (j ≡ k → ⊥) → q j ≡ p j) → ((j : ℕ) → k ≤ j → p j ≡ false) → k < n
    → those q n ≡ those p n ++ k ∷ []
those_one_more p q k n here other none low =
    those_until q (suc k) n (λ j h. other j (λ e. omega arith) ∙ none j (omega arith)) (omega arith)
    ∙ (rw here (ap (λ xs. xs ++ k ∷ []) (those_same q p k (λ j h. other j (λ e. omega arith)) ∙ sym (those_until p k n none (omega arith)))))

-- all of a row pass
pub all_pass : (p : ℕ → Bool) (a m : ℕ) → ((n : ℕ) → a ≤ n → n < a + m → p n ≡ true) → filter p (row_from a m) ≡ row_from a m
all_pass p a zero all = refl
all_pass p a (suc m) all = rw (all a (omega arith) (omega arith), all_pass p (a + 1) m (λ n lo hi. all n (omega arith) (omega arith))) refl

-- the first that passes stands in the row
pub in_row : (p : ℕ → Bool) (a m n : ℕ) (ns : List ℕ) → filter p (row_from a m) ≡ n ∷ ns → (a ≤ n) × (n < a + m)
in_row p a zero n ns e = absurd (cc)
in_row p a (suc m) n ns e = go (p a) e (in_row p (a + 1) m n ns)
  where
    go : (b : Bool) → (if b then (a ∷ filter p (row_from (a + 1) m)) else filter p (row_from (a + 1) m)) ≡ n ∷ ns
        → (filter p (row_from (a + 1) m) ≡ n ∷ ns → (a + 1 ≤ n) × (n < a + 1 + m)) → (a ≤ n) × (n < a + suc m)
    go true e rec = let same : a ≡ n = (cons_parts a n _ ns e).0 in (omega arith, omega arith)
    go false e rec = let r = rec e in (omega (arith, r.0), omega (arith, r.1))

-- a row that isn't empty
pub row_some : (a m : ℕ) → 0 < m → row_from a m ≡ a ∷ row_from (a + 1) (m - 1)
row_some a zero some = absurd (omega arith)
row_some a (suc m) some = ap (λ n. a ∷ row_from (a + 1) n) (let rest : m ≡ suc m - 1 = omega arith in rest)

-- a list by its first
pub first_rest : (xs : List ℕ) (k : ℕ) → first xs ≡ Some k → xs ≡ k ∷ drop 1 xs
first_rest [] k e = absurd (cc)
first_rest (x ∷ xs) k e = ap (λ i. i ∷ xs) (same_Some x k e)
