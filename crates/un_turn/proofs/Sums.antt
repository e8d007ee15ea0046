-- Sums over a list.
use Rattle.std.proofs.Common.{◌≡◌, ◌≢◌, ℕ, zero, suc, ◌+◌, ◌≤◌, List, [], ◌∷◌, ◌++◌, set, refl, sym, ap, ◌∙◌, arith}
use mathlib.Core.Logic.{dite}
use mathlib.Core.Option.{some, some-injective, some-ne-none}
use native.Mathlib.Decide.{ℕ_discrete}
use lib.ListN.{get_elem?}
use Rattle.un_journal.specs.Flights.{total_of}
use Rattle.un_turn.specs.Rule.{OneHas}

-- sums over a list that changes at one place
module _ {A : Type 0} (f : A → ℕ) where
  pub sum-set : (l : List A) (j : ℕ) (v w : A) → get_elem? l j ≡ some v → total_of f (set l j w) + f v ≡ total_of f l + f w
  sum-set [] j v w e = absurd (some-ne-none v (sym e))
  sum-set (x ∷ xs) zero v w e = omega (arith, ap f (some-injective x v e))
  sum-set (x ∷ xs) (suc j) v w e = omega (arith, sum-set xs j v w e)

  pub sum-snoc : (l : List A) (w : A) → total_of f (l ++ w ∷ []) ≡ total_of f l + f w
  sum-snoc [] w = omega arith
  sum-snoc (x ∷ xs) w = omega (arith, sum-snoc xs w)

  pub term_le : (l : List A) (j : ℕ) (v : A) → get_elem? l j ≡ some v → f v ≤ total_of f l
  term_le [] j v e = absurd (some-ne-none v (sym e))
  term_le (x ∷ xs) zero v e = omega (arith, ap f (some-injective x v e))
  term_le (x ∷ xs) (suc j) v e = omega (arith, term_le xs j v e)

  pub terms_le : (l : List A) (j k : ℕ) (v u : A) → k ≢ j → get_elem? l j ≡ some v → get_elem? l k ≡ some u → f v + f u ≤ total_of f l
  terms_le [] j k v u n e d = absurd (some-ne-none v (sym e))
  terms_le (x ∷ xs) zero zero v u n e d = absurd (n refl)
  terms_le (x ∷ xs) zero (suc k) v u n e d = omega (arith, ap f (some-injective x v e), term_le xs k u d)
  terms_le (x ∷ xs) (suc j) zero v u n e d = omega (arith, ap f (some-injective x u d), term_le xs j v e)
  terms_le (x ∷ xs) (suc j) (suc k) v u n e d = omega (arith, terms_le xs j k v u (λ h. n (ap suc h)) e d)

-- a sum of which all terms but one are 0
pub only_one : {A : Type 0} (f : A → ℕ) (l : List A) (i : ℕ) (v : A) → get_elem? l i ≡ some v → ((j : ℕ) (u : A) → j ≢ i → get_elem? l j ≡ some u → f u ≡ 0) → total_of f l ≡ f v
only_one f [] i v e zeros = absurd (some-ne-none v (sym e))
only_one f (x ∷ xs) zero v e zeros = omega (arith, ap f (some-injective x v e), none_of f xs (λ j u at. zeros (suc j) u (λ h. omega arith) at))
  where
    none_of : {A : Type 0} (f : A → ℕ) (l : List A) → ((j : ℕ) (u : A) → get_elem? l j ≡ some u → f u ≡ 0) → total_of f l ≡ 0
    none_of f [] zeros = refl
    none_of f (x ∷ xs) zeros = omega (arith, zeros 0 x refl, none_of f xs (λ j u at. zeros (suc j) u at))
only_one f (x ∷ xs) (suc i) v e zeros = omega (arith, zeros 0 x (λ h. omega arith) refl, only_one f xs i v e (λ j u n at. zeros (suc j) u (λ h. n (omega (arith, h))) at))

module _ {A : Type 0} (f : A → ℕ) where
  pub one_has : (l : List A) → total_of f l ≡ 1 → OneHas f l
  one_has [] e = absurd (omega arith)
  one_has (x ∷ xs) e = dite (ℕ_discrete (f x) 0)
      (λ none. let h = one_has xs (omega arith) in (suc h.0, h.1, h.2, h.3, others h.0 none h.4))
      (λ some'. (0, x, refl, omega arith, rest (omega arith)))
    where
      others : (j : ℕ) → f x ≡ 0 → ((k : ℕ) (u : A) → k ≢ j → get_elem? xs k ≡ some u → f u ≡ 0) → (k : ℕ) (u : A) → k ≢ suc j → get_elem? (x ∷ xs) k ≡ some u → f u ≡ 0
      others j none old zero u n at = ap f (sym (some-injective x u at)) ∙ none
      others j none old (suc k) u n at = old k u (λ h. n (ap suc h)) at

      rest : total_of f xs ≡ 0 → (k : ℕ) (u : A) → k ≢ 0 → get_elem? (x ∷ xs) k ≡ some u → f u ≡ 0
      rest none zero u n at = absurd (n refl)
      rest none (suc k) u n at = omega (arith, term_le f xs k u at, none)
