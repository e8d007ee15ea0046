-- Numbers that pass a test exactly where they stand in one span: they are a row.
use Rattle.std.proofs.Common.{◌≡◌, ◌∙◌, ℕ, zero, suc, ◌+◌, ◌<◌, ◌≤◌, Bool, true, false, [], ◌∷◌, ◌++◌, refl, ap, subst, sym, arith, inl, inr, if◌then◌else◌, append-nil, nat_lt, Some, None}
use Rattle.std.proofs.lemmas.Bool.{cases_lt, lt-ltb}
use Rattle.un_journal.proofs.ForLane.{those_same}
use Rattle.un_journal.specs.History.{those, row_from, first}

-- a test passes the m numbers from a on, of those below n, and no others
pub record IsRow (p : ℕ → Bool) (n a m : ℕ) : Type 0 where
  pub before : (k : ℕ) → k < a → k < n → p k ≡ false
  pub among : (k : ℕ) → a ≤ k → k < a + m → p k ≡ true
  pub after : (k : ℕ) → a + m ≤ k → k < n → p k ≡ false
  pub within : a + m ≤ n

row_last : (a m : ℕ) → row_from a (suc m) ≡ row_from a m ++ (a + m) ∷ []
row_last a zero = ap (λ i. i ∷ []) (omega arith)
row_last a (suc m) =
    let rest : row_from (a + 1) (suc m) ≡ row_from (a + 1) m ++ (a + 1 + m) ∷ [] = row_last (a + 1) m in
    let same : a + 1 + m ≡ a + suc m = omega arith in
    ap (λ xs. a ∷ xs) (subst (λ i. row_from (a + 1) (suc m) ≡ row_from (a + 1) m ++ i ∷ []) same rest)

none_pass : (n : ℕ) → those (λ k. false) n ≡ []
none_pass zero = refl
none_pass (suc n) = rw (none_pass n) refl

pub none_those : (p : ℕ → Bool) (n : ℕ) → ((k : ℕ) → k < n → p k ≡ false) → those p n ≡ []
none_those p n none = those_same p (λ k. false) n none ∙ none_pass n

pub those_row : (p : ℕ → Bool) (n a m : ℕ) → IsRow p n a m → those p n ≡ row_from a m
those_row p n a zero r = none_those p n (λ k h. elim (cases_lt k a) [ inl low ↦ r.before k low h | inr high ↦ r.after k (omega arith) h ])
those_row p zero a (suc m) r = absurd (let w : a + suc m ≤ 0 = r.within in omega arith)
those_row p (suc n) a (suc m) r = elim (cases_lt n (a + suc m)) [
  | inl last ↦ at_last (let w : a + suc m ≤ suc n = r.within in omega arith) (those_row p n a m)
  | inr beyond ↦ rw (those_row p n a (suc m) (shorter beyond), r.after n beyond (omega arith)) (append-nil (row_from a (suc m)))
]
  where
    shorter : a + suc m ≤ n → IsRow p n a (suc m)
    shorter w = record { before = λ k l h. r.before k l (omega arith); among = r.among; after = λ k l h. r.after k l (omega arith); within = w }

    less : a + m ≡ n → IsRow p n a m
    less e = record { before = λ k l h. r.before k l (omega arith); among = λ k l h. r.among k l (omega arith); after = λ k l h. absurd (omega arith); within = omega arith }

    at_last : a + m ≡ n → (IsRow p n a m → those p n ≡ row_from a m) → those p (suc n) ≡ row_from a (suc m)
    at_last e rest = rw (row_last a m, rest (less e), r.among n (omega arith) (omega arith)) (ap (λ i. row_from a m ++ i ∷ []) (sym e))

-- the first of a row
pub first_row : (a m : ℕ) → first (row_from a m) ≡ (if nat_lt 0 m then Some a else None)
first_row a zero = refl
first_row a (suc m) = rw (lt-ltb 0 (suc m) (omega arith)) refl
