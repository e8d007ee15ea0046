-- Lists: their parts, one element more, and tests on them.
use Rattle.std.proofs.Common.{zero, suc, ◌≤◌, None, slice_get, arith, ◌≡◌, ℕ, true, List, [], ◌∷◌, ◌++◌, length, refl, ap}
use Rattle.std.proofs.lemmas.Bool.{false≢true}
use Rattle.std.proofs.lemmas.Slice.Eq.{bytes_eq-Decides}
use Rattle.std.specs.List.{AllByRecursion}
use Rattle.std.specs.Str.{bytes_eq}
use Rattle.un_facts.specs.Lists.{is_empty}

pub cons_parts : {X : Type 0} (x n : X) (xs ns : List X) → x ∷ xs ≡ n ∷ ns → (x ≡ n) × (xs ≡ ns)
cons_parts x n xs ns e = (cc, cc)

pub same_bytes : (xs ys : List ℕ) → bytes_eq xs ys ≡ true → xs ≡ ys
same_bytes xs ys h = (bytes_eq-Decides xs ys).0 h

pub empty_is : {X : Type 0} (xs : List X) → is_empty xs ≡ true → xs ≡ []
empty_is [] e = refl
empty_is (x ∷ xs) e = absurd (false≢true e)

pub no_length : {X : Type 0} (xs : List X) → is_empty xs ≡ true → length xs ≡ 0
no_length xs e = ap length (empty_is xs e)

pub all_more : {X : Type 0} (P : X → Type 0) (xs : List X) (y : X) → AllByRecursion P xs → P y → AllByRecursion P (xs ++ y ∷ [])
all_more P [] y a p = (p, tt)
all_more P (x ∷ xs) y a p = (a.0, all_more P xs y a.1 p)

pub none_past : {X : Type 0} (xs : List X) (i : ℕ) → slice_get xs i ≡ None → length xs ≤ i
none_past [] i e = omega arith
none_past (x ∷ xs) zero e = absurd (cc)
none_past (x ∷ xs) (suc i) e = let w : length xs ≤ i = none_past xs i e in omega arith
