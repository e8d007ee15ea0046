-- In a sound lane the numbers that are given rise strictly and are below the number of datagrams accepted.
use Rattle.std.proofs.Common.{◌≡◌, ℕ, ◌+◌, ◌<◌, ◌≤◌, Bool, true, false, ◌||◌, ◌==◌, List, [], ◌∷◌, ◌++◌, Option, Some, inl, inr, refl, sym, ap, ◌∙◌, arith}
use Rattle.std.proofs.lemmas.Bool.{false≢true, eqb-true, eqb-false, eq-eqb, cases_lt, cases_order, or_cases, or_right, or_left, true_from_ne_false}
use Rattle.std.proofs.lemmas.Option.{same_Some, none-some}
use Rattle.un_facts.specs.Numbers.{within}
use Rattle.un_journal.specs.declared.lines.Line.TheVariants.{Took, Made, Landed, Failed, Cut, Dropped, Opened, Gave}
use Rattle.un_journal.specs.History.{History, taken, made, cover, flies, landed, opened, gave, given, serial_of, told_if, ends}
use Rattle.un_journal.specs.Sound.{IsSound, IsNextSpan, IsFirstArrived, IsNextNumber}
use Rattle.un_journal.specs.Places.{IsRising, IsBelowAll, IsAllBelow}
use Rattle.un_journal.proofs.Lanes.Status.{Status, Quiet, Aloft, Arrived, Faulted, Severed, status, status_of, is_arrived}
use Rattle.un_journal.proofs.Lanes.Owners.{owned, within_true, is_some_from}
use Rattle.un_journal.proofs.Lanes.SerialOrder.{is_over, in_order, flight_is}

-- one more than the last opened serial, and than the last given number
abbrev pub top : History → ℕ
top [] = 0
top ((Opened l k, bytes) ∷ g) = k + 1
top (e ∷ g) = top g

abbrev pub front : History → ℕ
front [] = 0
front ((Gave l n, bytes) ∷ g) = n + 1
front (e ∷ g) = front g

-- OPENED IN ORDER

-- below the top every landed transfer is opened, and from it on none
pub record OpenedBelow (k t : ℕ) (l o : Bool) : Type 0 where
  pub below : k < t → l ≡ true → o ≡ true
  pub above : t ≤ k → o ≡ false

abbrev pub InTurn : History → Type 0
InTurn g = (k : ℕ) → OpenedBelow k (top g) (landed g k) (opened g k)

arrived_over : (s : Status) → is_arrived s ≡ true → is_over s ≡ true
arrived_over Arrived e = refl
arrived_over Quiet e = absurd (false≢true e)
arrived_over Aloft e = absurd (false≢true e)
arrived_over Faulted e = absurd (false≢true e)
arrived_over Severed e = absurd (false≢true e)

-- what landed is below the number of ends
pub landed_below : (g : History) → IsSound g → (k : ℕ) → landed g k ≡ true → k < ends g
landed_below g sound k e =
    elim (cases_lt k (ends g)) [
      | inl h ↦ h
      | inr h ↦ absurd (false≢true (sym ((in_order g sound k).above h) ∙ arrived_over (status g k) (sym (status_of g sound k).landed_is ∙ e)))
    ]

-- the top isn't above the number of ends
pub top_below : (g : History) → IsSound g → top g ≤ ends g
top_below [] sound = omega arith
top_below ((Opened l k, bytes) ∷ g) sound = let low : k < ends g = landed_below g sound.1 k sound.0.is_landed in omega arith
top_below ((Landed l k, bytes) ∷ g) sound = let low : top g ≤ ends g = top_below g sound.1 in omega arith
top_below ((Failed l k kind, bytes) ∷ g) sound = let low : top g ≤ ends g = top_below g sound.1 in omega arith
top_below ((Cut l k c, bytes) ∷ g) sound = let low : top g ≤ ends g = top_below g sound.1 in omega arith
top_below (e ∷ g) sound = top_below g sound.1

open_step : (b : Bool) (j k t : ℕ) (l o : Bool) → (b ≡ true → j ≡ k) → (b ≡ false → j ≡ k → ⊥) → t ≤ j → (k < j → l ≡ true → o ≡ true) → OpenedBelow k t l o → OpenedBelow k (j + 1) l (b || o)
open_step true j k t l o same other low least w = record { below = λ h e. refl; above = λ h. absurd (let jk : j ≡ k = same refl in omega arith) }
open_step false j k t l o same other low least w = record {
  below = λ h e. least (let jk : j ≡ k → ⊥ = other refl in omega arith) e;
  above = λ h. w.above (omega arith);
}

land_step : (b : Bool) (j k t : ℕ) (l o : Bool) → (b ≡ true → j ≡ k) → t ≤ j → OpenedBelow k t l o → OpenedBelow k t (b || l) o
land_step true j k t l o same low w = record { below = λ h e. absurd (let jk : j ≡ k = same refl in omega arith); above = w.above }
land_step false j k t l o same low w = w

pub unopened_above : (g : History) (j : ℕ) → InTurn g → landed g j ≡ true → opened g j ≡ false → top g ≤ j
unopened_above g j w l o = elim (cases_lt j (top g)) [ inl h ↦ absurd (false≢true (sym o ∙ (w j).below h l)) | inr h ↦ h ]

open_at : (g : History) (j k : ℕ) → IsFirstArrived g j → InTurn g → OpenedBelow k (j + 1) (landed g k) ((j == k) || opened g k)
open_at g j k f w =
    open_step (j == k) j k (top g) (landed g k) (opened g k) (eqb-true j k) (eqb-false j k)
    (unopened_above g j w f.is_landed f.is_unopened) (λ h e. f.is_least k h e) (w k)

land_at : (g : History) (j k : ℕ) → IsSound g → flies g j ≡ true → InTurn g → OpenedBelow k (top g) ((j == k) || landed g k) (opened g k)
land_at g j k sound f w =
    land_step (j == k) j k (top g) (landed g k) (opened g k) (eqb-true j k)
    (let je : j ≡ ends g = flight_is g sound (in_order g sound) j f in let low : top g ≤ ends g = top_below g sound in omega arith) (w k)

pub in_turn : (g : History) → IsSound g → InTurn g
in_turn [] sound k = record { below = λ h e. absurd (omega arith); above = λ h. refl }
in_turn ((Opened l j, bytes) ∷ g) sound k = open_at g j k sound.0 (in_turn g sound.1)
in_turn ((Landed l j, bytes) ∷ g) sound k = land_at g j k sound.1 sound.0 (in_turn g sound.1)
in_turn (e ∷ g) sound k = in_turn g sound.1 k

-- what is opened is below the top
pub opened_below : (g : History) → IsSound g → (k : ℕ) → opened g k ≡ true → k < top g
opened_below g sound k e = elim (cases_lt k (top g)) [ inl h ↦ h | inr h ↦ absurd (false≢true (sym ((in_turn g sound k).above h) ∙ e)) ]

-- SPANS IN ORDER

pub owner_below : (g : History) → IsSound g → (n k : ℕ) → serial_of g n ≡ Some k → n < cover g
owner_below g sound n k e =
    elim (cases_lt n (cover g)) [ inl h ↦ h | inr h ↦ absurd (false≢true (sym ((owned g sound n).above h).0 ∙ is_some_from (serial_of g n) k e)) ]

-- who owned it before, or that it is new
pub data Made_now (v : Bool) (j : ℕ) (o : Option ℕ) (k : ℕ) : Type 0 where
  is_new : v ≡ true → j ≡ k → Made_now v j o k
  is_old : v ≡ false → o ≡ Some k → Made_now v j o k

pub told_cases : (v : Bool) (j : ℕ) (o : Option ℕ) (k : ℕ) → told_if v j o ≡ Some k → Made_now v j o k
told_cases true j o k e = is_new refl (same_Some j k e)
told_cases false j o k e = is_old refl e

abbrev pub InSpans : History → Type 0
InSpans g = (n m i k : ℕ) → serial_of g n ≡ Some i → serial_of g m ≡ Some k → i < k → n < m

spans_make : (g : History) (j a b : ℕ) → IsSound g → InSpans g → (j ≡ made g) × IsNextSpan g a b → (n m i k : ℕ) → Made_now (within a b n) j (serial_of g n) i → Made_now (within a b m) j (serial_of g m) k → i < k → n < m
spans_make g j a b sound w f n m i k (is_new v ji) (is_new u jk) h = absurd (omega arith)
spans_make g j a b sound w f n m i k (is_new v ji) (is_old u e) h =
    absurd (let low : k < made g = (owned g sound m).known k e in let jm : j ≡ made g = f.0 in omega arith)
spans_make g j a b sound w f n m i k (is_old v e) (is_new u jk) h =
    let low : n < cover g = owner_below g sound n i e in let ac : a ≡ cover g = f.1.begins in omega (arith, (within_true a b m u).0)
spans_make g j a b sound w f n m i k (is_old v e) (is_old u e') h = w n m i k e e' h

pub in_spans : (g : History) → IsSound g → InSpans g
in_spans [] sound n m i k e e' h = absurd (none-some i e)
in_spans ((Made l j a b, bytes) ∷ g) sound n m i k e e' h =
    spans_make g j a b sound.1 (in_spans g sound.1) sound.0 n m i k (told_cases (within a b n) j (serial_of g n) i e) (told_cases (within a b m) j (serial_of g m) k e') h
in_spans (x ∷ g) sound n m i k e e' h = in_spans g sound.1 n m i k e e' h

-- GIVEN IN ORDER

-- what is given is below the front; below it every number of an opened transfer is given, and from the top on no transfer has one below it
pub record GivenBelow (n f : ℕ) (v : Bool) (o : Option ℕ) (is_opened : ℕ → Bool) (t : ℕ) : Type 0 where
  pub given_low : v ≡ true → n < f
  pub opened_given : (k : ℕ) → o ≡ Some k → is_opened k ≡ true → n < f → v ≡ true
  pub unopened_high : (k : ℕ) → o ≡ Some k → t ≤ k → f ≤ n

abbrev pub InFront : History → Type 0
InFront g = (n : ℕ) → GivenBelow n (front g) (gave g n) (serial_of g n) (opened g) (top g)

-- the front isn't above the cover
pub front_below : (g : History) → IsSound g → front g ≤ cover g
front_below [] sound = omega arith
front_below ((Gave l n, bytes) ∷ g) sound = let low : n < cover g = owner_below g sound.1 n sound.0.serial sound.0.is_in_span in omega arith
front_below ((Made l j a b, bytes) ∷ g) sound =
    let low : front g ≤ cover g = front_below g sound.1 in let ac : a ≡ cover g = sound.0.1.begins in let ab : a < b = sound.0.1.is_some in omega arith
front_below ((Dropped l a b c, bytes) ∷ g) sound =
    let low : front g ≤ cover g = front_below g sound.1 in let ac : a ≡ cover g = sound.0.begins in let ab : a < b = sound.0.is_some in omega arith
front_below (e ∷ g) sound = front_below g sound.1

-- the next number isn't below the front
pub next_above : (g : History) → InFront g → (n : ℕ) → IsNextNumber g n → front g ≤ n
next_above g w n x =
    elim (cases_lt n (front g)) [ inl h ↦ absurd (false≢true (sym x.is_left ∙ (w n).opened_given x.serial x.is_in_span x.is_opened h)) | inr h ↦ h ]

-- a number of an opened transfer that is below the next one is given
given_before : (g : History) (n m k : ℕ) → IsNextNumber g n → serial_of g m ≡ Some k → opened g k ≡ true → m < n → gave g m ≡ true
given_before g n m k x e o h =
    true_from_ne_false (gave g m) (λ left. false≢true (sym left ∙ x.is_least m h (e ∙ ap Some (x.is_alone k m o e left))))

give_at : (g : History) (n : ℕ) → IsSound g → InFront g → IsNextNumber g n → (m : ℕ) → GivenBelow m (n + 1) ((n == m) || gave g m) (serial_of g m) (opened g) (top g)
give_at g n sound w x m = record {
  given_low = λ e. elim (or_cases (n == m) (gave g m) e) [
    | inl same ↦ let nm : n ≡ m = eqb-true n m same in omega arith
    | inr before ↦ let low : m < front g = (w m).given_low before in let high : front g ≤ n = next_above g w n x in omega arith
  ];
  opened_given = λ k e o h. elim (cases_order n m) [
    | inl same ↦ or_left (n == m) (gave g m) (eq-eqb n m same)
    | inr (inl less) ↦ absurd (omega arith)
    | inr (inr more) ↦ or_right (n == m) (gave g m) (given_before g n m k x e o more)
  ];
  unopened_high = λ k e h.
      let low : x.serial < top g = opened_below g sound x.serial x.is_opened in
      let order : n < m = in_spans g sound n m x.serial k x.is_in_span e (omega arith) in omega arith;
}

open_front : (g : History) (j : ℕ) → IsSound g → InFront g → IsFirstArrived g j → (m : ℕ) → GivenBelow m (front g) (gave g m) (serial_of g m) (λ k. (j == k) || opened g k) (j + 1)
open_front g j sound w f m = record {
  given_low = (w m).given_low;
  opened_given = λ k e o h. elim (or_cases (j == k) (opened g k) o) [
    | inl same ↦ absurd (let jk : j ≡ k = eqb-true j k same in
        let high : front g ≤ m = (w m).unopened_high k e (let low : top g ≤ j = unopened_above g j (in_turn g sound) f.is_landed f.is_unopened in omega arith) in omega arith)
    | inr before ↦ (w m).opened_given k e before h
  ];
  unopened_high = λ k e h. (w m).unopened_high k e (let low : top g ≤ j = unopened_above g j (in_turn g sound) f.is_landed f.is_unopened in omega arith);
}

front_make : (g : History) (j a b : ℕ) → IsSound g → InFront g → (j ≡ made g) × IsNextSpan g a b → (m : ℕ) → GivenBelow m (front g) (gave g m) (told_if (within a b m) j (serial_of g m)) (opened g) (top g)
front_make g j a b sound w f m = record {
  given_low = (w m).given_low;
  opened_given = λ k e o h. old k o h (told_cases (within a b m) j (serial_of g m) k e);
  unopened_high = λ k e h. high k h (told_cases (within a b m) j (serial_of g m) k e);
}
  where
    reach : within a b m ≡ true → front g ≤ m
    reach u = let low : front g ≤ cover g = front_below g sound in let ac : a ≡ cover g = f.1.begins in omega (arith, (within_true a b m u).0)

    old : (k : ℕ) → opened g k ≡ true → m < front g → Made_now (within a b m) j (serial_of g m) k → gave g m ≡ true
    old k o h (is_new u jk) = absurd (let up : front g ≤ m = reach u in omega arith)
    old k o h (is_old u e) = (w m).opened_given k e o h

    high : (k : ℕ) → top g ≤ k → Made_now (within a b m) j (serial_of g m) k → front g ≤ m
    high k h (is_new u jk) = reach u
    high k h (is_old u e) = (w m).unopened_high k e h

pub in_front : (g : History) → IsSound g → InFront g
in_front [] sound m = record { given_low = λ e. absurd (false≢true e); opened_given = λ k e o h. absurd (omega arith); unopened_high = λ k e h. omega arith }
in_front ((Gave l n, bytes) ∷ g) sound m = give_at g n sound.1 (in_front g sound.1) sound.0 m
in_front ((Opened l j, bytes) ∷ g) sound m = open_front g j sound.1 (in_front g sound.1) sound.0 m
in_front ((Made l j a b, bytes) ∷ g) sound m = front_make g j a b sound.1 (in_front g sound.1) sound.0 m
in_front (e ∷ g) sound m = in_front g sound.1 m

-- THE LAW

all_below_more : (xs : List ℕ) (n m : ℕ) → n ≤ m → IsAllBelow xs n → IsAllBelow xs m
all_below_more [] n m h w = tt
all_below_more (x ∷ xs) n m h w = (let low : x < n = w.0 in omega arith, all_below_more xs n m h w.1)

all_below_append : (xs : List ℕ) (n m : ℕ) → n ≤ m → IsAllBelow xs n → IsAllBelow (xs ++ m ∷ []) (m + 1)
all_below_append [] n m h w = (omega arith, tt)
all_below_append (x ∷ xs) n m h w = (let low : x < n = w.0 in omega arith, all_below_append xs n m h w.1)

below_all_append : (x m : ℕ) (xs : List ℕ) → x < m → IsBelowAll x xs → IsBelowAll x (xs ++ m ∷ [])
below_all_append x m [] h w = (h, tt)
below_all_append x m (y ∷ ys) h w = (w.0, below_all_append x m ys h w.1)

rising_append : (xs : List ℕ) (n m : ℕ) → n ≤ m → IsAllBelow xs n → IsRising xs → IsRising (xs ++ m ∷ [])
rising_append [] n m h w r = (tt, tt)
rising_append (x ∷ xs) n m h w r = (below_all_append x m xs (let low : x < n = w.0 in omega arith) r.0, rising_append xs n m h w.1 r.1)

pub given_all_below : (g : History) → IsSound g → IsAllBelow (given g) (front g)
given_all_below [] sound = tt
given_all_below ((Gave l n, bytes) ∷ g) sound = all_below_append (given g) (front g) n (next_above g (in_front g sound.1) n sound.0) (given_all_below g sound.1)
given_all_below (e ∷ g) sound = given_all_below g sound.1

pub given_rises : (g : History) → IsSound g → IsRising (given g)
given_rises [] sound = tt
given_rises ((Gave l n, bytes) ∷ g) sound = rising_append (given g) (front g) n (next_above g (in_front g sound.1) n sound.0) (given_all_below g sound.1) (given_rises g sound.1)
given_rises (e ∷ g) sound = given_rises g sound.1

pub cover_below : (g : History) → IsSound g → cover g ≤ taken g
cover_below [] sound = omega arith
cover_below ((Made l j a b, bytes) ∷ g) sound = sound.0.1.is_taken
cover_below ((Dropped l a b c, bytes) ∷ g) sound = sound.0.is_taken
cover_below ((Took l s, bytes) ∷ g) sound = let low : cover g ≤ taken g = cover_below g sound.1 in omega arith
cover_below (e ∷ g) sound = cover_below g sound.1

pub given_taken : (g : History) → IsSound g → IsAllBelow (given g) (taken g)
given_taken g sound =
    all_below_more (given g) (front g) (taken g)
    (let low : front g ≤ cover g = front_below g sound in let high : cover g ≤ taken g = cover_below g sound in omega arith) (given_all_below g sound)
