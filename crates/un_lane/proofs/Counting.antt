-- How often numbers stand in lists, and facts on every element.
use Rattle.std.proofs.Common.{◌≡◌, ℕ, ◌+◌, ◌<◌, false, ◌==◌, eqb, List, [], ◌∷◌, ◌++◌, map, refl, ap, ◌∙◌, arith}
use Rattle.std.proofs.lemmas.Bool.Decides.{nat_tests}
use Rattle.un_facts.proofs.Copies.{copies_last}
use Rattle.un_facts.specs.Lists.{copies}
use Rattle.un_facts.specs.Numbers.{one_if}
use Rattle.un_req.specs.Request.{Buffer, number_of}

pub map_last : {X : Type 0} (f : Buffer → X) (xs : List Buffer) (y : Buffer) → map f (xs ++ y ∷ []) ≡ map f xs ++ f y ∷ []
map_last f [] y = refl
map_last f (x ∷ xs) y = ap (λ zs. f x ∷ zs) (map_last f xs y)

pub copies_more : (n : ℕ) (xs : List Buffer) (y : Buffer) → copies n (map number_of (xs ++ y ∷ [])) ≡ copies n (map number_of xs) + one_if (eqb n y.number)
copies_more n xs y = ap (copies n) (map_last number_of xs y) ∙ copies_last n (map number_of xs) y.number

pub not_zero : (n : ℕ) → 0 < n → (n == 0) ≡ false
not_zero n h = grind (arith, nat_tests)
