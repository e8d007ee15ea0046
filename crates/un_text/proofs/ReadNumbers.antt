-- Digits of a number.
use Rattle.std.proofs.Common.{ℕ, zero, suc, ◌+◌, ◌-◌, ◌*◌, ◌<◌, ◌≤◌, ◌≡◌, true, false, ◌==◌, ◌&&◌, not, nat_le, List, [], ◌∷◌, length, drop, slice_index, Some, None, refl, arith}
use Rattle.std.proofs.lemmas.List.{drop_more, drop_all}
use Rattle.std.proofs.lemmas.Bool.{and_parts, le-leb}
use Rattle.std.proofs.lemmas.Bool.Decides.{nat_tests}
use Rattle.std.specs.List.{list_all}
use Rattle.un_text.specs.Words.{has_leading_zero, number_from, is_digit, is_numeral, number_in}

pub short_leading : (w : List ℕ) → length w < 2 → has_leading_zero w ≡ false
short_leading [] h = refl
short_leading (c ∷ []) h = refl
short_leading (c ∷ d ∷ ds) h = absurd (omega arith)

pub long_leading : (w : List ℕ) → 2 ≤ length w → has_leading_zero w ≡ (slice_index w 0 == 48)
long_leading [] h = absurd (omega arith)
long_leading (c ∷ []) h = absurd (omega arith)
long_leading (c ∷ d ∷ ds) h = refl

-- one digit more
pub number_more : (v : ℕ) (w : List ℕ) (i : ℕ) → i < length w → number_from v (drop i w) ≡ number_from (v * 10 + (slice_index w i - 48)) (drop (i + 1) w)
unfolding number_from
number_more v w i h = rw (drop_more w i 0 h) refl

pub number_done : (v : ℕ) (w : List ℕ) (i : ℕ) → length w ≤ i → number_from v (drop i w) ≡ v
unfolding number_from
number_done v w i h = rw (drop_all i w h) refl

-- more digits make no number less
pub number_grows : (v : ℕ) (w : List ℕ) → v ≤ number_from v w
unfolding number_from
number_grows v [] = omega arith
number_grows v (c ∷ cs) = let more = number_grows (v * 10 + (c - 48)) cs in omega (arith, more)

pub number_beyond : (v : ℕ) (w : List ℕ) (i most : ℕ) → i < length w → most < v * 10 + (slice_index w i - 48) → most < number_from v (drop i w)
number_beyond v w i most within over = rw (number_more v w i within) (let more = number_grows (v * 10 + (slice_index w i - 48)) (drop (i + 1) w) in omega (arith, more))

-- a digit's value
pub digit_value : (w : List ℕ) (i : ℕ) → list_all is_digit w ≡ true → i < length w → (48 ≤ slice_index w i) × (slice_index w i - 48 ≤ 9)
digit_value [] i all h = absurd (omega arith)
digit_value (c ∷ cs) zero all h = let p = and_parts (is_digit c) (list_all is_digit cs) all in grind (arith, nat_tests, p.0)
digit_value (c ∷ cs) (suc i) all h = let p = and_parts (is_digit c) (list_all is_digit cs) all in digit_value cs i p.1 (omega arith)

pub numeral_digits : (w : List ℕ) → is_numeral w ≡ true → list_all is_digit w ≡ true
numeral_digits w h =
    let outer = and_parts (list_all is_digit w && not (length w == 0)) (not (has_leading_zero w)) h in
    (and_parts (list_all is_digit w) (not (length w == 0)) outer.0).0

pub above : (n most : ℕ) → most < n → nat_le n most ≡ false
above n most h = grind (arith, nat_tests)

pub number_yes : (w : List ℕ) (most n : ℕ) → is_numeral w ≡ true → number_from 0 w ≡ n → n ≤ most → number_in most w ≡ Some n
number_yes w most n holds same h = rw (holds, same, le-leb n most h) refl

pub number_no : (w : List ℕ) (most : ℕ) → is_numeral w ≡ true → most < number_from 0 w → number_in most w ≡ None
number_no w most holds h = rw (holds, above (number_from 0 w) most h) refl
