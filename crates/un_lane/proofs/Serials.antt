-- Lists of serials by a test.
use Rattle.std.proofs.Common.{◌≡◌, ℕ, zero, suc, ◌<◌, ◌≤◌, Bool, true, false, ◌||◌, ◌==◌, [], ◌∷◌, ◌++◌, inl, inr, refl, sym, ap, ◌∙◌, subst, arith, append-nil}
use Rattle.std.proofs.lemmas.Bool.{cases_lt, eq-eqb, ne_eqb, false≢true}
use Rattle.un_journal.specs.History.{those}
use Rattle.un_journal.proofs.ForLane.{those_same as same_lists}

pub those_same : (p q : ℕ → Bool) (n : ℕ) → ((j : ℕ) → j < n → q j ≡ p j) → those q n ≡ those p n
those_same p q n h = same_lists q p n h

-- q passes what p passes and k, which is above all that p passes
pub those_plus : (p q : ℕ → Bool) (k : ℕ) → q k ≡ true → ((j : ℕ) → j < k → q j ≡ p j) → ((j : ℕ) → k ≤ j → p j ≡ false) → ((j : ℕ) → k < j → q j ≡ false)
    → (n : ℕ) → k < n → those q n ≡ those p n ++ k ∷ []
those_plus p q k here low high past zero h = absurd (omega arith)
those_plus p q k here low high past (suc n) h = elim (cases_lt k n) [
  | inl below ↦ rw (those_plus p q k here low high past n below, high n (omega arith), past n below, append-nil, append-nil) refl
  | inr above ↦
      let same : k ≡ n = omega arith in
      let qn : q n ≡ true = subst (λ i. q i ≡ true) same here in
      rw (those_same p q n (λ j i. low j (omega arith)), qn, high n (omega arith), append-nil) (ap (λ i. those p n ++ i ∷ []) (sym same))
]

-- q passes k, which is below all that p passes, and what p passes
pub those_front : (p q : ℕ → Bool) (k : ℕ) → q k ≡ true → ((j : ℕ) → (j ≡ k → ⊥) → q j ≡ p j) → ((j : ℕ) → j ≤ k → p j ≡ false) → (n : ℕ) → k < n → those q n ≡ k ∷ those p n
those_front p q k here other low zero h = absurd (omega arith)
those_front p q k here other low (suc n) h = elim (cases_lt k n) [
  | inl below ↦ rw (those_front p q k here other low n below, other n (λ e. omega arith)) refl
  | inr above ↦
      let same : k ≡ n = omega arith in
      let qn : q n ≡ true = subst (λ i. q i ≡ true) same here in
      rw (those_same p q n (λ j i. other j (λ e. omega arith)), none_below n (λ j i. low j (omega arith)), qn, low n (omega arith)) (ap (λ i. i ∷ []) (sym same))
]
  where
    none_below : (m : ℕ) → ((j : ℕ) → j < m → p j ≡ false) → those p m ≡ []
    none_below zero none = refl
    none_below (suc m) none = rw (none_below m (λ j i. none j (omega arith)), none m (omega arith)) refl

-- q passes k alone
pub those_single : (q : ℕ → Bool) (k : ℕ) → q k ≡ true → ((j : ℕ) → (j ≡ k → ⊥) → q j ≡ false) → (n : ℕ) → k < n → those q n ≡ k ∷ []
those_single q k here other n h =
    those_plus (λ j. false) q k here (λ j l. other j (λ e. omega arith)) (λ j l. refl) (λ j l. other j (λ e. omega arith)) n h
    ∙ ap (λ xs. xs ++ k ∷ []) (nothing n)
  where
    nothing : (m : ℕ) → those (λ j. false) m ≡ []
    nothing zero = refl
    nothing (suc m) = rw (nothing m) refl

pub those_nothing : (q : ℕ → Bool) → ((j : ℕ) → q j ≡ false) → (n : ℕ) → those q n ≡ []
those_nothing q none zero = refl
those_nothing q none (suc n) = rw (those_nothing q none n, none n) refl

pub eq_not : (b c : Bool) → b ≡ false → (b || c) ≡ c
eq_not false c e = refl
eq_not true c e = absurd (false≢true (sym e))

pub apart : (k j : ℕ) → (j ≡ k → ⊥) → (k == j) ≡ false
apart k j ne = ne_eqb k j (λ e. ne (sym e))

pub same_number : (k : ℕ) → (k == k) ≡ true
same_number k = eq-eqb k k refl
