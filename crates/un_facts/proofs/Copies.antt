-- How often a number stands in a list.
use Rattle.std.proofs.Common.{◌≡◌, ℕ, ◌+◌, eqb, List, [], ◌∷◌, ◌++◌, arith}
use Rattle.un_facts.specs.Lists.{copies}
use Rattle.un_facts.specs.Numbers.{one_if}

pub copies_append : (n : ℕ) (xs ys : List ℕ) → copies n (xs ++ ys) ≡ copies n xs + copies n ys
copies_append n [] ys = omega arith
copies_append n (x ∷ xs) ys = let r : copies n (xs ++ ys) ≡ copies n xs + copies n ys = copies_append n xs ys in omega arith

pub copies_last : (n : ℕ) (xs : List ℕ) (y : ℕ) → copies n (xs ++ y ∷ []) ≡ copies n xs + one_if (eqb n y)
copies_last n xs y = let split = copies_append n xs (y ∷ []) in omega (arith, split)
