-- What each word of a line says is what the writer spells so, and what the writer spells is read.
use Rattle.std.proofs.Common.{ℕ, zero, suc, ◌+◌, ◌*◌, ◌/◌, ◌%◌, ◌<◌, ◌≤◌, ◌^◌, ◌≡◌, ◌≢◌, Bool, true, false, ◌&&◌, ◌||◌, ◌==◌, not, nat_le, if◌then◌else◌, List, [], ◌∷◌, ◌++◌, length, take, codes, decimal, slice_index, Option, Some, None, Result, Ok, Err, refl, sym, ap, ◌∙◌, arith, inl, inr}
use Rattle.std.specs.List.{list_all, list_any}
use Rattle.std.specs.Result.{result_ok}
use Rattle.std.specs.Prelude.{MatchResult}
use Rattle.std.proofs.lemmas.List.{take-append-le, take_all}
use Rattle.std.specs.Fmt.{digits}
use Rattle.std.specs.Str.{bytes_eq}
use Rattle.std.proofs.lemmas.Bool.{and_parts, eqb-true, cases_lt, not-true}
use Rattle.std.proofs.lemmas.Bool.Decides.{nat_tests}
use Rattle.std.proofs.lemmas.Str.Parse.{IsDigitsTest, FoldsDigits, IsNumeralModel, numerals_by_fold}
use Rattle.std.proofs.lemmas.Fmt.{decimal-digits_value, digits_value-decimal, digits_decimal, first_decimal, decimal_nonempty}
use Rattle.un_frame.specs.Spelling.{lane_word, lane_named}
use Rattle.un_facts.proofs.Lists.{same_bytes}
use Rattle.hex.specs.Hex.{encode_lower, encode_with, lower_digits, decode_of, decode_pairs, hex_digit_value, value_at, pair_value, digit_or_error, ◌>>=◌}
use Rattle.hex.specs.declared.FromHexError.{FromHexError}
use Rattle.hex.proofs.HexLemmas.{decode_of-encode_lower, decode_of-ok, decode_of-even, decode_of-odd}
use Rattle.un_frame.specs.Bytes.{AreBytes}
use Rattle.un_frame.specs.declared.params.Lane.{Lane}
use Rattle.un_frame.specs.declared.params.Lane.TheVariants.{Outward, Inward}
use Rattle.un_frame.specs.declared.kinds.FaultKind.{FaultKind}
use Rattle.un_frame.specs.declared.kinds.FaultKind.TheVariants.{Proto, Halt}
use Rattle.un_frame.specs.declared.kinds.Verdict.{Verdict}
use Rattle.un_frame.specs.declared.kinds.Verdict.TheVariants.{Take, Short, Long, Filtered}
use Rattle.un_text.specs.Words.{verdict_word, kind_word, flag_word}
use Rattle.un_text.specs.Words.{why_in, flag_in, is_digit, has_leading_zero, is_numeral, number_from, number_in, short_in, long_in, is_upper, bytes_in, kind_named}
use Rattle.un_text.proofs.ReadNumbers.{number_yes}

-- a choice that gave something
pub picked : {X : Type 0} (P : Type 0) (b : Bool) (x : X) (other : Option X) (v : X) → (b ≡ true → x ≡ v → P) → (other ≡ Some v → P) → (if b then Some x else other) ≡ Some v → P
picked P true x other v here there h = here refl (cc)
picked P false x other v here there h = there h

pub never : {X : Type 0} (P : Type 0) (v : X) → None ≡ Some v → P
never P v h = absurd (cc)

-- NAMES

pub lane_sound : (w : List ℕ) (l : Lane) → lane_named w ≡ Some l → lane_word l ≡ w
lane_sound w l h =
    let P : Type 0 = lane_word l ≡ w in
    picked P (bytes_eq w (codes "out")) Outward _ l (λ e same. rw (← same) (sym (same_bytes w (codes "out") e)))
    (picked P (bytes_eq w (codes "in")) Inward None l (λ e same. rw (← same) (sym (same_bytes w (codes "in") e))) (never P l)) h

pub lane_back : (l : Lane) → lane_named (lane_word l) ≡ Some l
lane_back Outward = refl
lane_back Inward = refl

pub why_sound : (w : List ℕ) (why : Verdict) → why_in w ≡ Some why → (verdict_word why ≡ w) × (why ≢ Take)
why_sound w why h =
    let P : Type 0 = (verdict_word why ≡ w) × (why ≢ Take) in
    picked P (bytes_eq w (codes "short")) Short _ why (λ e same. rw (← same) (sym (same_bytes w (codes "short") e), λ k. cc))
    (picked P (bytes_eq w (codes "long")) Long _ why (λ e same. rw (← same) (sym (same_bytes w (codes "long") e), λ k. cc))
    (picked P (bytes_eq w (codes "filtered")) Filtered None why (λ e same. rw (← same) (sym (same_bytes w (codes "filtered") e), λ k. cc)) (never P why))) h

pub why_back : (why : Verdict) → why ≢ Take → why_in (verdict_word why) ≡ Some why
why_back Take h = absurd (h refl)
why_back Short h = refl
why_back Long h = refl
why_back Filtered h = refl

pub kind_sound : (w : List ℕ) (kind : FaultKind) → kind_named w ≡ Some kind → kind_word kind ≡ w
kind_sound w kind h =
    let P : Type 0 = kind_word kind ≡ w in
    picked P (bytes_eq w (codes "proto")) Proto _ kind (λ e same. rw (← same) (sym (same_bytes w (codes "proto") e)))
    (picked P (bytes_eq w (codes "halt")) Halt None kind (λ e same. rw (← same) (sym (same_bytes w (codes "halt") e))) (never P kind)) h

pub kind_back : (kind : FaultKind) → kind_named (kind_word kind) ≡ Some kind
kind_back Proto = refl
kind_back Halt = refl

pub flag_sound : (w : List ℕ) (f : Bool) → flag_in w ≡ Some f → flag_word f ≡ w
flag_sound w f h =
    let P : Type 0 = flag_word f ≡ w in
    picked P (bytes_eq w (codes "1")) true _ f (λ e same. rw (← same) (sym (same_bytes w (codes "1") e)))
    (picked P (bytes_eq w (codes "0")) false None f (λ e same. rw (← same) (sym (same_bytes w (codes "0") e))) (never P f)) h

pub flag_back : (f : Bool) → flag_in (flag_word f) ≡ Some f
flag_back true = refl
flag_back false = refl

-- NUMBERS

abbrev Digits : List ℕ → Type 0
Digits w = list_all is_digit w ≡ true

tells : IsDigitsTest Digits
tells = record {
  empty = refl;
  parts = λ c cs h. let p = and_parts (is_digit c) (list_all is_digit cs) h in (grind (arith, nat_tests, p.0), p.1);
  more = λ c cs k h. grind (arith, nat_tests, k, h);
}

folds : FoldsDigits number_from
unfolding number_from
folds = record { empty = λ n. refl; more = λ n c cs k. refl }

own : IsNumeralModel Digits (number_from 0)
own = numerals_by_fold Digits tells number_from folds

leads : (w : List ℕ) → has_leading_zero w ≡ false → slice_index w 0 ≡ 48 → 0 < length w → length w ≡ 1
leads [] h z some = absurd (omega arith)
leads (c ∷ []) h z some = refl
leads (c ∷ d ∷ ds) h z some = absurd (grind (arith, nat_tests))

no_lead : (w : List ℕ) → 48 < slice_index w 0 → has_leading_zero w ≡ false
no_lead [] h = refl
no_lead (c ∷ []) h = refl
no_lead (c ∷ d ∷ ds) h = grind (arith, nat_tests)

numeral_spells : (w : List ℕ) → is_numeral w ≡ true → number_from 0 w < 2 ^ 64 → decimal (number_from 0 w) ≡ w
numeral_spells w h small =
    let outer = and_parts (list_all is_digit w && not (length w == 0)) (not (has_leading_zero w)) h in
    let inner = and_parts (list_all is_digit w) (not (length w == 0)) outer.0 in
    let some : 0 < length w = grind (arith, nat_tests, inner.1) in
    decimal-digits_value own w inner.0 some (λ z. leads w (not-true (has_leading_zero w) outer.1) z some) small

number_sound : (most : ℕ) (w : List ℕ) (n : ℕ) → most < 2 ^ 64 → number_in most w ≡ Some n → (decimal n ≡ w) × (n ≤ most)
number_sound most w n top h =
    let P : Type 0 = (decimal n ≡ w) × (n ≤ most) in
    picked P (is_numeral w && nat_le (number_from 0 w) most) (number_from 0 w) None n (λ e same.
    let p = and_parts (is_numeral w) (nat_le (number_from 0 w) most) e in
    let within : number_from 0 w ≤ most = grind (arith, nat_tests, p.1) in
    (rw (← same) (numeral_spells w p.0 (omega (arith, within, top))), omega (arith, within, same))) (never P n) h

lead_of : (n : ℕ) → n < 2 ^ 64 → has_leading_zero (decimal n) ≡ false
unfolding digits
lead_of zero h = refl
lead_of (suc n) h = no_lead (decimal (suc n)) (first_decimal (suc n) (omega arith) h)

decimal_numeral : (n : ℕ) → n < 2 ^ 64 → is_numeral (decimal n) ≡ true
decimal_numeral n h =
    let digits : list_all is_digit (decimal n) ≡ true = digits_decimal own n h in
    let some : (length (decimal n) == 0) ≡ false = let k = decimal_nonempty n h in grind (arith, nat_tests, k) in
    rw (digits, some, lead_of n h) refl

number_back : (most n : ℕ) → n < 2 ^ 64 → n ≤ most → number_in most (decimal n) ≡ Some n
number_back most n h top = number_yes (decimal n) most n (decimal_numeral n h) (digits_value-decimal own n h) top

pub short_sound : (w : List ℕ) (n : ℕ) → short_in w ≡ Some n → (decimal n ≡ w) × (n < 2 ^ 32)
short_sound w n h = let p = number_sound 4294967295 w n (omega arith) h in (p.0, let k : n ≤ 4294967295 = p.1 in omega arith)

pub long_sound : (w : List ℕ) (n : ℕ) → long_in w ≡ Some n → (decimal n ≡ w) × (n < 2 ^ 64)
long_sound w n h = let p = number_sound 18446744073709551615 w n (omega arith) h in (p.0, let k : n ≤ 18446744073709551615 = p.1 in omega arith)

pub short_back : (n : ℕ) → n < 2 ^ 32 → short_in (decimal n) ≡ Some n
short_back n h = number_back 4294967295 n (omega arith) (omega arith)

pub long_back : (n : ℕ) → n < 2 ^ 64 → long_in (decimal n) ≡ Some n
long_back n h = number_back 18446744073709551615 n h (omega arith)

-- BYTES

ok_some : {X E : Type 0} (r : Result X E) (x : X) → result_ok r ≡ Some x → r ≡ Ok x
ok_some (Ok y) x h = ap Ok (cc)
ok_some (Err e) x h = absurd (cc)

-- a digit's place in the table, by the value that is read of it
abbrev at_value : ℕ → ℕ
at_value v = if nat_le v 9 then 48 + v else 87 + v

abbrev table_is : ℕ → Bool
table_is zero = true
table_is (suc v) = (slice_index lower_digits v == at_value v) && table_is v

table_at : (n v : ℕ) → table_is n ≡ true → v < n → slice_index lower_digits v ≡ at_value v
table_at zero v h low = absurd (omega arith)
table_at (suc n) v h low =
    let p = and_parts (slice_index lower_digits n == at_value n) (table_is n) h in
    elim (cases_lt v n) [
      | inl below ↦ table_at n v p.1 below
      | inr top ↦ let same : v ≡ n = omega arith in rw same (eqb-true (slice_index lower_digits n) (at_value n) p.0)
    ]

digit_low : (c v : ℕ) → is_upper c ≡ false → hex_digit_value c ≡ Some v → (v < 16) × (at_value v ≡ c)
digit_low c v low h = grind (arith, nat_tests)

digit_spells : (c v : ℕ) → is_upper c ≡ false → hex_digit_value c ≡ Some v → (v < 16) × (slice_index lower_digits v ≡ c)
digit_spells c v low h = let p = digit_low c v low h in (p.0, table_at 16 v refl p.0 ∙ p.1)

-- the tests that no digit is an upper-case letter
abbrev is_low : ℕ → Bool
is_low c = not (is_upper c)

abbrev pub are_low : List ℕ → Bool
are_low ds = list_all is_low ds

ok_then : {A B : Type 0} (P : Type 0) (r : Result A FromHexError) (f : A → Result B FromHexError) (y : B) → ((x : A) → r ≡ Ok x → f x ≡ Ok y → P) → (r >>= f) ≡ Ok y → P
ok_then P (Ok x) f y step h = step x refl h
ok_then P (Err e) f y step h = absurd (cc)

digit_ok : (c i : ℕ) (o : Option ℕ) (v : ℕ) → digit_or_error c i o ≡ Ok v → o ≡ Some v
digit_ok c i (Some w) v h = ap Some (cc)
digit_ok c i None v h = absurd (cc)

abbrev okay : {X : Type 0} → X → Result X FromHexError
okay x = Ok x

same_ok : {X : Type 0} (x y : X) → okay x ≡ okay y → x ≡ y
same_ok x y h = cc

two_digits : (a b h l : ℕ) (rest : List ℕ) (bytes : List ℕ) → (h < 16) × (slice_index lower_digits h ≡ a) → (l < 16) × (slice_index lower_digits l ≡ b) → encode_lower bytes ≡ rest
    → encode_lower ((h * 16 + l) ∷ bytes) ≡ a ∷ b ∷ rest
unfolding encode_with
two_digits a b h l rest bytes p q more =
    let high : (h * 16 + l) / 16 ≡ h = omega (arith, p.0, q.0) in
    let low : (h * 16 + l) % 16 ≡ l = omega (arith, p.0, q.0) in
    rw (high, low, p.1, q.1, more) refl

pairs_low : (i : ℕ) (s bytes : List ℕ) → are_low s ≡ true → decode_pairs i s ≡ Ok bytes → encode_lower bytes ≡ s
unfolding decode_pairs encode_with
pairs_low i [] bytes low h = let same : [] ≡ bytes = same_ok [] bytes h in rw (← same) refl
pairs_low i (a ∷ []) bytes low h = absurd (cc)
pairs_low i (a ∷ b ∷ rest) bytes low h =
    let p = and_parts (is_low a) (is_low b && are_low rest) low in
    let q = and_parts (is_low b) (are_low rest) p.1 in
    let P : Type 0 = encode_lower bytes ≡ a ∷ b ∷ rest in
    ok_then P (pair_value a b i) _ bytes (λ byte be bh.
    ok_then P (decode_pairs (i + 2) rest) _ bytes (λ more me mh.
    ok_then P (value_at a i) _ byte (λ x xe xh.
    ok_then P (value_at b (i + 1)) _ byte (λ y ye yh.
    let u = digit_spells a x (not-true (is_upper a) p.0) (digit_ok a i (hex_digit_value a) x xe) in
    let v = digit_spells b y (not-true (is_upper b) q.0) (digit_ok b (i + 1) (hex_digit_value b) y ye) in
    let sum : x * 16 + y ≡ byte = same_ok (x * 16 + y) byte yh in
    let all : byte ∷ more ≡ bytes = same_ok (byte ∷ more) bytes mh in
    rw (← all, ← sum) (two_digits a b x y rest more u v (pairs_low (i + 2) rest more q.1 me))) xh) be) bh) h

pub bytes_sound : (ds bytes : List ℕ) → bytes_in ds ≡ Some bytes → (encode_lower bytes ≡ ds) × AreBytes bytes
bytes_sound ds bytes h =
    let P : Type 0 = (encode_lower bytes ≡ ds) × AreBytes bytes in
    when P (are_low ds) (result_ok (decode_of ds)) bytes (λ low k.
    let d = ok_some (decode_of ds) bytes k in
    let ok = decode_of-ok ds bytes d in
    (pairs_low 0 ds bytes low (sym (decode_of-even ds ok.0) ∙ d), ok.3)) h
  where
    when : {X : Type 0} (P : Type 0) (c : Bool) (o : Option X) (x : X) → (c ≡ true → o ≡ Some x → P) → (if c then o else None) ≡ Some x → P
    when P true o x f h = f refl h
    when P false o x f h = absurd (cc)

low_among : (ds : List ℕ) (n : ℕ) → n < length ds → are_low ds ≡ true → is_low (slice_index ds n) ≡ true
low_among [] n h p = absurd (omega arith)
low_among (d ∷ ds) zero h p = (and_parts (is_low d) (are_low ds) p).0
low_among (d ∷ ds) (suc n) h p = low_among ds n (omega arith) (and_parts (is_low d) (are_low ds) p).1

low_encoded : (bytes : List ℕ) → AreBytes bytes → are_low (encode_lower bytes) ≡ true
unfolding encode_with
low_encoded [] h = refl
low_encoded (b ∷ bytes) h =
    let fits : b < 256 = h 0 in
    let high : b / 16 < 16 = omega (arith, fits) in
    let low : b % 16 < 16 = omega arith in
    rw (low_among lower_digits (b / 16) high refl, low_among lower_digits (b % 16) low refl, low_encoded bytes (λ i. h (suc i))) refl

pub bytes_back : (bytes : List ℕ) → AreBytes bytes → bytes_in (encode_lower bytes) ≡ Some bytes
bytes_back bytes h = rw (low_encoded bytes h, decode_of-encode_lower bytes h) refl

-- AS THE CODE DECODES

low_all : (w : List ℕ) (b : Bool) → list_any is_upper w ≡ b → are_low w ≡ not b
low_all [] b h = ap not h
low_all (c ∷ w) b h = pick (is_upper c) h (low_all w b)
  where
    pick : (u : Bool) → (u || list_any is_upper w) ≡ b → (list_any is_upper w ≡ b → are_low w ≡ not b) → (not u && are_low w) ≡ not b
    pick true e rec = ap not e
    pick false e rec = rec e

pub upper_bytes : (w : List ℕ) → list_any is_upper w ≡ true → bytes_in w ≡ None
upper_bytes w h = rw (low_all w true h) refl

pub low_bytes : (w : List ℕ) → list_any is_upper w ≡ false → bytes_in w ≡ result_ok (decode_of w)
low_bytes w h = rw (low_all w false h) refl

pub odd_bytes : (w : List ℕ) → length w % 2 ≢ 0 → bytes_in w ≡ None
odd_bytes w h = pick (are_low w)
  where
    none : result_ok (decode_of w) ≡ None
    none = let odd : length w % 2 ≡ 1 = omega (arith, h) in rw (decode_of-odd w odd) refl

    pick : (b : Bool) → (if b then result_ok (decode_of w) else None) ≡ None
    pick true = none
    pick false = refl

-- bytes that were written behind those that were there
pub filled : (old zeros new digits : List ℕ) (from n : ℕ) (ok : Bool) → from ≡ length old → length new ≡ length (take (from + n) old ++ zeros)
    → MatchResult (decode_of digits) (λ more. (ok ≡ true) × (new ≡ take from (take (from + n) old ++ zeros) ++ more)) (λ e. ok ≡ false)
    → ok ≡ true → list_any is_upper digits ≡ false → (bytes : List ℕ) × (bytes_in digits ≡ Some bytes) × (new ≡ old ++ bytes)
filled old zeros new digits from n ok at size told is low = pick (decode_of digits) refl told
  where
    front : take from (take (from + n) old ++ zeros) ≡ old
    front = let all : take (from + n) old ≡ old = take_all (from + n) old (omega arith) in rw (all, at, take-append-le (length old) old zeros (omega arith)) (take_all (length old) old (omega arith))

    pick : (r : Result (List ℕ) FromHexError) → decode_of digits ≡ r → MatchResult r (λ more. (ok ≡ true) × (new ≡ take from (take (from + n) old ++ zeros) ++ more)) (λ e. ok ≡ false)
        → (bytes : List ℕ) × (bytes_in digits ≡ Some bytes) × (new ≡ old ++ bytes)
    pick (Ok bytes) e t = (bytes, low_bytes digits low ∙ ap result_ok e, t.1 ∙ ap (λ x. x ++ bytes) front)
    pick (Err e) f t = let clash : true ≡ false = sym is ∙ t in absurd (cc)

pub taken_all : (n : ℕ) (new rest : List ℕ) → n ≡ length new → take n (new ++ rest) ≡ new
taken_all n new rest e = rw (e, take-append-le (length new) new rest (omega arith)) (take_all (length new) new (omega arith))
