-- How often numbers stand in lists.
use Rattle.std.proofs.Common.{◌≡◌, ℕ, ◌+◌, ◌<◌, ◌≤◌, Bool, true, false, eqb, nat_lt, List, [], ◌∷◌, ◌++◌, length, map, refl, sym, ap, ◌∙◌, arith}
use Rattle.std.proofs.lemmas.Bool.{eqb-true, ltb-true, ltb-false, false≢true}
use Rattle.std.proofs.lemmas.Map.Steps.{length-le_from_distinct_below}
use Rattle.std.specs.List.{AllByRecursion, IsDistinct}
use Rattle.un_facts.proofs.Copies.{copies_append}
use Rattle.un_facts.proofs.Numbers.{one_here}
use Rattle.un_facts.specs.Lists.{copies}
use Rattle.un_facts.specs.Numbers.{one_if}
use Rattle.un_req.specs.Request.{Buffer, has, number_of}

pub map_append : (xs ys : List Buffer) → map number_of (xs ++ ys) ≡ map number_of xs ++ map number_of ys
map_append [] ys = refl
map_append (x ∷ xs) ys = ap (λ zs. x.number ∷ zs) (map_append xs ys)

pub copies_last : (n : ℕ) (xs : List Buffer) (y : Buffer) → copies n (map number_of (xs ++ y ∷ [])) ≡ copies n (map number_of xs) + one_if (eqb n y.number)
copies_last n xs y =
    let split : copies n (map number_of (xs ++ y ∷ [])) ≡ copies n (map number_of xs ++ y.number ∷ []) = ap (λ (ns : List ℕ). copies n ns) (map_append xs (y ∷ [])) in
    let sum = copies_append n (map number_of xs) (y.number ∷ []) in
    omega (arith, split, sum)

-- where the one number is the other, the count has room for it
pub one_cases : (n k limit total : ℕ) → (n ≡ k → total + 1 ≤ limit) → total ≤ limit → total + one_if (eqb n k) ≤ limit
one_cases n k limit total here below = at (eqb n k) refl
  where
    at : (b : Bool) → eqb n k ≡ b → total + one_if b ≤ limit
    at true e = here (eqb-true n k e)
    at false e = omega (arith, below)

-- a number that doesn't stand in a list isn't its first, nor in what is left
first_away : (n x rest : ℕ) → one_if (eqb n x) + rest ≡ 0 → (eqb n x ≡ false) × (rest ≡ 0)
first_away n x rest e = at (eqb n x) refl
  where
    at : (b : Bool) → eqb n x ≡ b → (eqb n x ≡ false) × (rest ≡ 0)
    at true s = absurd (let one : one_if (eqb n x) ≡ 1 = ap one_if s in omega (arith, one, e))
    at false s = (s, omega (arith, e))

pub none_has : (n : ℕ) (xs : List ℕ) → copies n xs ≡ 0 → has n xs ≡ false
none_has n [] e = refl
none_has n (x ∷ xs) e = let away = first_away n x (copies n xs) e in rw (away.0, none_has n xs away.1) refl

-- A list in which no number stands twice, and none from a size on, has at most so many elements.

all_apart : (x : ℕ) (xs : List ℕ) → copies x xs ≡ 0 → AllByRecursion (λ y. eqb x y ≡ false) xs
all_apart x [] e = tt
all_apart x (y ∷ ys) e = let away = first_away x y (copies x ys) e in (away.0, all_apart x ys away.1)

distinct : (xs : List ℕ) → ((n : ℕ) → copies n xs ≤ 1) → IsDistinct eqb xs
unfolding IsDistinct
distinct [] once = tt
distinct (x ∷ xs) once =
    let here : one_if (eqb x x) + copies x xs ≤ 1 = once x in
    let one = one_here x in (
      all_apart x xs (omega (arith, here, one)),
      distinct xs (λ n. let all : one_if (eqb n x) + copies n xs ≤ 1 = once n in omega (arith, all)),
    )

-- a number that isn't at a size or past it is below it
pub below_size : (n size : ℕ) → (size ≤ n → ⊥) → n < size
below_size n size no_more = at (nat_lt n size) refl
  where
    at : (b : Bool) → nat_lt n size ≡ b → n < size
    at true e = ltb-true n size e
    at false e = absurd (no_more (ltb-false n size e))

has_copies : (n : ℕ) (xs : List ℕ) → has n xs ≡ true → copies n xs ≡ 0 → ⊥
has_copies n xs h e = false≢true (sym (none_has n xs e) ∙ h)

pub few : (xs : List ℕ) (size : ℕ) → ((n : ℕ) → copies n xs ≤ 1) → ((n : ℕ) → size ≤ n → copies n xs ≡ 0) → length xs ≤ size
few xs size once known = length-le_from_distinct_below xs size (distinct xs once) (λ q m. below_size q size (λ big. has_copies q xs m (known q big)))
