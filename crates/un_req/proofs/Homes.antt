-- Which requests of a pool are home, after one was taken or came back.
use Rattle.std.proofs.Common.{◌≡◌, ℕ, zero, suc, ◌+◌, ◌<◌, ◌≤◌, Bool, true, false, eqb, List, [], ◌∷◌, ◌++◌, length, map, refl, sym, ap, ◌∙◌, subst, arith, inl, inr, add-one, append-nil, Option, Some, None, option_to_list, IfSome}
use Rattle.std.proofs.lemmas.Bool.{false≢true, eqb-true, or_cases, or_parts}
use Rattle.std.proofs.lemmas.Map.Steps.{length-le_from_distinct_below}
use Rattle.std.specs.List.{IsDistinct, AllByRecursion}
use Rattle.un_facts.proofs.Copies.{copies_last}
use Rattle.un_facts.proofs.Lists.{all_more}
use Rattle.un_facts.proofs.Numbers.{one_most}
use Rattle.un_facts.specs.Lists.{copies}
use Rattle.un_facts.specs.Numbers.{one_if}
use Rattle.un_req.specs.Request.{Buffer, Store, AreHome, IsOut, blank, has, number_of, upto}

pub all_front : {X : Type 0} (P : X → Type 0) (xs : List X) (y : X) → AllByRecursion P (xs ++ y ∷ []) → AllByRecursion P xs × P y
all_front P [] y a = (tt, a.0)
all_front P (x ∷ xs) y a = let r = all_front P xs y a.1 in ((a.0, r.0), r.1)

eqb_swap : (m n : ℕ) → eqb m n ≡ false → eqb n m ≡ false
eqb_swap m n e = grind (arith)

pub distinct_front : (xs : List ℕ) (y : ℕ) → IsDistinct eqb (xs ++ y ∷ []) → IsDistinct eqb xs × (has y xs ≡ false)
unfolding IsDistinct
distinct_front [] y d = (tt, refl)
distinct_front (x ∷ xs) y d =
    let r = distinct_front xs y d.1 in
    let s = all_front (λ z. eqb x z ≡ false) xs y d.0 in
    ((s.0, r.0), rw (eqb_swap x y s.1, r.1) refl)

pub distinct_more : (xs : List ℕ) (y : ℕ) → IsDistinct eqb xs → has y xs ≡ false → IsDistinct eqb (xs ++ y ∷ [])
unfolding IsDistinct
distinct_more [] y d h = (tt, tt)
distinct_more (x ∷ xs) y d h =
    let r = or_parts (eqb y x) (has y xs) h in
    (all_more (λ z. eqb x z ≡ false) xs y d.0 (eqb_swap y x r.0), distinct_more xs y d.1 r.1)

pub map_last : (xs : List Buffer) (y : Buffer) → map number_of (xs ++ y ∷ []) ≡ map number_of xs ++ y.number ∷ []
map_last [] y = refl
map_last (x ∷ xs) y = ap (λ zs. x.number ∷ zs) (map_last xs y)

pub record Last (count capacity : ℕ) (xs : List Buffer) (y : Buffer) : Type 0 where
  pub rest : AreHome count capacity xs
  pub empty : y ≡ blank y.number capacity
  pub below : y.number < count
  pub away : has y.number (map number_of xs) ≡ false

pub home_last : (count capacity : ℕ) (xs : List Buffer) (y : Buffer) → AreHome count capacity (xs ++ y ∷ []) → Last count capacity xs y
home_last count capacity xs y h =
    let e = all_front (λ r. r ≡ blank r.number capacity) xs y h.empty in
    let b = all_front (λ r. r.number < count) xs y h.below in
    let d = distinct_front (map number_of xs) y.number (subst (IsDistinct eqb) (map_last xs y) h.distinct) in
    record { rest = record { empty = e.0; below = b.0; distinct = d.0 }; empty = e.1; below = b.1; away = d.1 }

pub home_more : (count capacity number : ℕ) (xs : List Buffer) → AreHome count capacity xs → number < count → has number (map number_of xs) ≡ false → AreHome count capacity (xs ++ blank number capacity ∷ [])
home_more count capacity number xs h b a = record {
  empty = all_more (λ r. r ≡ blank r.number capacity) xs (blank number capacity) h.empty refl;
  below = all_more (λ r. r.number < count) xs (blank number capacity) h.below b;
  distinct = subst (IsDistinct eqb) (sym (map_last xs (blank number capacity))) (distinct_more (map number_of xs) number h.distinct a);
}

apart_all : (y : ℕ) (xs : List ℕ) → has y xs ≡ false → AllByRecursion (λ x. eqb y x ≡ false) xs
apart_all y [] h = tt
apart_all y (x ∷ xs) h = let r = or_parts (eqb y x) (has y xs) h in (r.0, apart_all y xs r.1)

below_any : (count : ℕ) (xs : List Buffer) → AllByRecursion (λ r. r.number < count) xs → (q : ℕ) → has q (map number_of xs) ≡ true → q < count
below_any count [] a q h = absurd (false≢true h)
below_any count (x ∷ xs) a q h = elim (or_cases (eqb q x.number) (has q (map number_of xs)) h) [
  | inl same ↦ let e : q ≡ x.number = eqb-true q x.number same in let b : x.number < count = a.0 in omega arith
  | inr rest ↦ below_any count xs a.1 q rest
]

pub numbers_length : (xs : List Buffer) → length (map number_of xs) ≡ length xs
numbers_length [] = refl
numbers_length (x ∷ xs) = ap (λ n. suc n) (numbers_length xs)

-- a pool from which a request is out has room for it
pub home_room : (count capacity number : ℕ) (xs : List Buffer) → AreHome count capacity xs → number < count → has number (map number_of xs) ≡ false → length xs < count
unfolding IsDistinct
home_room count capacity number xs h b a =
    let all : length (number ∷ map number_of xs) ≤ count =
    length-le_from_distinct_below (number ∷ map number_of xs) count (apart_all number (map number_of xs) a, h.distinct)
    (λ q m. elim (or_cases (eqb q number) (has q (map number_of xs)) m) [
      | inl same ↦ let e : q ≡ number = eqb-true q number same in omega arith
      | inr rest ↦ below_any count xs h.below q rest
    ]) in
    let same : length (map number_of xs) ≡ length xs = numbers_length xs in
    omega arith

-- the numbers from one on don't stand below it
upto_away : (m k : ℕ) → m ≤ k → has k (upto m) ≡ false
upto_away zero k h = refl
upto_away (suc m) k h = has_last k m (upto m) (omega arith) (upto_away m k (omega arith))
  where
    ne : (a b : ℕ) → a < b → eqb b a ≡ false
    ne a b l = grind arith

    has_last : (n x : ℕ) (xs : List ℕ) → x < n → has n xs ≡ false → has n (xs ++ x ∷ []) ≡ false
    has_last n x [] l e = rw (ne x n l) refl
    has_last n x (y ∷ ys) l e = let r = or_parts (eqb n y) (has n ys) e in rw (r.0, has_last n x ys l r.1) refl

-- a pool that is being made
pub made_more : (count capacity n : ℕ) (xs ys : List Buffer) → AreHome count capacity xs → map number_of xs ≡ upto n → n < count → ys ≡ xs ++ blank n capacity ∷ []
    → AreHome count capacity ys × (map number_of ys ≡ upto (n + 1))
made_more count capacity n xs ys h e l same =
    rw same (home_more count capacity n xs h l (subst (λ ns. has n ns ≡ false) (sym e) (upto_away n n (omega arith))), rw (map_last xs (blank n capacity), e, add-one) refl)

-- after the last request at home was taken
pub popped_home : (count capacity : ℕ) (r : Option Buffer) (xs ys : List Buffer) → xs ≡ ys ++ option_to_list r → AreHome count capacity xs → AreHome count capacity ys
popped_home count capacity None xs ys e h = subst (AreHome count capacity) (e ∙ append-nil ys) h
popped_home count capacity (Some y) xs ys e h = (home_last count capacity ys y (subst (AreHome count capacity) e h)).rest

abbrev store : ℕ → ℕ → List Buffer → Store
store count capacity xs = record { count = count; capacity = capacity; home = map number_of xs }

pub popped_some : (count capacity : ℕ) (r : Option Buffer) (xs ys : List Buffer) → xs ≡ ys ++ option_to_list r → AreHome count capacity xs
    → IfSome r (λ y. (y ≡ blank y.number capacity) × (y.number < count) × (store count capacity xs ≡ record { count = count; capacity = capacity; home = map number_of ys ++ y.number ∷ [] }) × IsOut (store count capacity ys) y)
popped_some count capacity None xs ys e h = tt
popped_some count capacity (Some y) xs ys e h =
    let w = home_last count capacity ys y (subst (AreHome count capacity) e h) in
    (w.empty, w.below, rw (e, map_last ys y) refl, record { known = w.below; away = w.away; sized = ap (λ z. z.capacity) w.empty })

pub none_home : (count capacity : ℕ) → AreHome count capacity []
unfolding IsDistinct
none_home count capacity = record { empty = tt; below = tt; distinct = tt }

-- the numbers below one stand once in their list, and no others
pub upto_none : (m n : ℕ) → m ≤ n → copies n (upto m) ≡ 0
upto_none zero n h = refl
upto_none (suc m) n h =
    let e : copies n (upto m ++ m ∷ []) ≡ copies n (upto m) + one_if (eqb n m) = copies_last n (upto m) m in
    let r : copies n (upto m) ≡ 0 = upto_none m n (omega arith) in
    let d : one_if (eqb n m) ≡ 0 = ap one_if (apart n m (omega arith)) in omega arith
  where
    apart : (a b : ℕ) → b < a → eqb a b ≡ false
    apart a b l = grind arith

pub upto_once : (m n : ℕ) → copies n (upto m) ≤ 1
upto_once zero n = omega arith
upto_once (suc m) n = go (eqb n m) refl (upto_once m n)
  where
    go : (b : Bool) → eqb n m ≡ b → copies n (upto m) ≤ 1 → copies n (upto m ++ m ∷ []) ≤ 1
    go true e before =
        let c : copies n (upto m ++ m ∷ []) ≡ copies n (upto m) + one_if (eqb n m) = copies_last n (upto m) m in
        let z : copies n (upto m) ≡ 0 = upto_none m n (same n m e) in
        let o : one_if (eqb n m) ≤ 1 = one_most (eqb n m) in omega arith
      where
        same : (a b : ℕ) → eqb a b ≡ true → b ≤ a
        same a b t = grind arith
    go false e before =
        let c : copies n (upto m ++ m ∷ []) ≡ copies n (upto m) + one_if (eqb n m) = copies_last n (upto m) m in
        let z : one_if (eqb n m) ≡ 0 = ap one_if e in
        omega arith
