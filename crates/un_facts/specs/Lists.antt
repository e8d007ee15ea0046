-- Tests and counts of lists.
use Rattle.std.specs.Prelude.{ℕ, ◌+◌, ◌==◌, Bool, true, false, eqb, List, [], ◌∷◌}
use Rattle.std.specs.List.{list_any}
use Rattle.un_facts.specs.Numbers.{one_if}

abbrev pub is_empty : {X : Type 0} → List X → Bool
is_empty [] = true
is_empty (x ∷ xs) = false

-- whether a number stands in a list
abbrev pub is_one_of : ℕ → List ℕ → Bool
is_one_of x xs = list_any (λ y. y == x) xs

-- how often a number stands in a list
abbrev pub copies : ℕ → List ℕ → ℕ
copies n [] = 0
copies n (x ∷ xs) = one_if (eqb n x) + copies n xs
