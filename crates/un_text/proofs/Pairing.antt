-- Pairs of hexadecimal digits, one after the other.
use Rattle.std.proofs.Common.{◌≡◌, ℕ, ◌+◌, ◌*◌, ◌%◌, ◌<◌, ◌≤◌, Bool, true, false, ◌&&◌, nat_lt, List, length, take, drop, slice_index, slice_set, get_or, map, Option, Some, None, unwrap_or, Ok, Err, refl, ap, ◌∙◌, arith}
use Rattle.std.specs.Prelude.{MatchResult}
use Rattle.std.specs.List.{range_with_len}
use Rattle.std.proofs.lemmas.List.FromFn.{get_or-map-range_with_len}
use Rattle.hex.specs.Hex.{decode_of, decode_pairs, hex_digit_value, pair_value}
use Rattle.hex.specs.declared.error.FromHexError.{FromHexError}
use Rattle.hex.specs.declared.error.FromHexError.TheVariants.{InvalidHexCharacter}
use Rattle.hex.proofs.HexLemmas.{decode_of-even}
use Rattle.hex.proofs.Pairs.{prepend, decode_step, decode_err, decode_done}
use Rattle.un_text.specs.declared.digits.TheConstants.{VALUES}

-- THE TABLE

abbrev mark : ℕ → ℕ
mark c = unwrap_or (hex_digit_value c) 255

table_is : VALUES ≡ map mark (range_with_len 0 256)
table_is = refl

pub marked : (c : ℕ) → c < 256 → get_or VALUES c 0 ≡ unwrap_or (hex_digit_value c) 255
marked c h = ap (λ t. get_or t c 0) table_is ∙ get_or-map-range_with_len mark 0 256 c c 0 h (omega arith)

-- THE LOOP

-- what is decoded before a place, or that some byte before it is no digit
abbrev pub SoFar : Bool → List ℕ → List ℕ → ℕ → Type 0
SoFar true s out i = decode_pairs 0 s ≡ prepend (take i out) (decode_pairs (2 * i) (drop (2 * i) s))
SoFar false s out i = (e : FromHexError) × (decode_pairs 0 s ≡ Err e)

small : (c v : ℕ) → hex_digit_value c ≡ Some v → v < 16
small c v h = grind (arith)

two : (s out : List ℕ) (i : ℕ) (a b : Option ℕ) → 2 * i + 1 < length s → i < length out
    → hex_digit_value (slice_index s (2 * i)) ≡ a → hex_digit_value (slice_index s (2 * i + 1)) ≡ b
    → SoFar true s out i
    → SoFar (nat_lt (unwrap_or a 255) 16 && nat_lt (unwrap_or b 255) 16) s (slice_set out i (unwrap_or a 255 % 16 * 16 + unwrap_or b 255 % 16)) (i + 1)
two s out i (Some h) (Some l) fits room ea eb inv =
    let high = small (slice_index s (2 * i)) h ea in
    let low = small (slice_index s (2 * i + 1)) l eb in
    let th : nat_lt h 16 ≡ true = grind (arith) in
    let tl : nat_lt l 16 ≡ true = grind (arith) in
    let v : h % 16 * 16 + l % 16 ≡ h * 16 + l = omega arith in
    let pair : pair_value (slice_index s (2 * i)) (slice_index s (2 * i + 1)) (2 * i) ≡ Ok (h * 16 + l) = rw (ea, eb) refl in
    rw (th, tl, v) (decode_step s out i (h * 16 + l) fits room pair inv)
two s out i (Some h) None fits room ea eb inv =
    let high = small (slice_index s (2 * i)) h ea in
    let th : nat_lt h 16 ≡ true = grind (arith) in
    let pair : pair_value (slice_index s (2 * i)) (slice_index s (2 * i + 1)) (2 * i) ≡ Err (InvalidHexCharacter (slice_index s (2 * i + 1)) (2 * i + 1)) = rw (ea, eb) refl in
    rw th (_, decode_err s out i _ fits pair inv)
two s out i None b fits room ea eb inv =
    let pair : pair_value (slice_index s (2 * i)) (slice_index s (2 * i + 1)) (2 * i) ≡ Err (InvalidHexCharacter (slice_index s (2 * i)) (2 * i)) = rw ea refl in
    (_, decode_err s out i _ fits pair inv)

pub two_more : (good : Bool) (s out : List ℕ) (i high low : ℕ) → 2 * i + 1 < length s → i < length out
    → high ≡ unwrap_or (hex_digit_value (slice_index s (2 * i))) 255 → low ≡ unwrap_or (hex_digit_value (slice_index s (2 * i + 1))) 255
    → SoFar good s out i
    → SoFar (good && (nat_lt high 16 && nat_lt low 16)) s (slice_set out i (high % 16 * 16 + low % 16)) (i + 1)
two_more true s out i high low fits room eh el inv =
    rw (eh, el) (two s out i (hex_digit_value (slice_index s (2 * i))) (hex_digit_value (slice_index s (2 * i + 1))) fits room refl refl inv)
two_more false s out i high low fits room eh el inv = inv

pub all_decoded : (good : Bool) (s out : List ℕ) (i : ℕ) → length out ≤ i → length s ≡ 2 * length out
    → SoFar good s out i → MatchResult (decode_of s) (λ bytes. (good ≡ true) × (out ≡ bytes)) (λ _. good ≡ false)
all_decoded true s out i end len inv =
    rw (decode_of-even s (omega (arith, len)), decode_done s out i end (omega (arith, len)) inv) (refl, refl)
all_decoded false s out i end len inv = rw (decode_of-even s (omega (arith, len)), inv.1) refl
