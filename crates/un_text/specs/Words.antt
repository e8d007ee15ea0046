-- The words of this project's texts, and what each says. A word is read only as it is written.
use Rattle.std.specs.Prelude.{ℕ, ◌+◌, ◌-◌, ◌*◌, Bool, true, false, ◌&&◌, ◌==◌, nat_le, not, filter, List, [], ◌∷◌, length, codes, Option, Some, None, if◌then◌else◌}
use Rattle.std.specs.List.{list_all, flat_map}
use Rattle.std.specs.Result.{result_ok}
use Rattle.std.specs.Str.{bytes_eq}
use Rattle.hex.specs.Hex.{decode_of}
use Rattle.un_frame.specs.declared.kinds.FaultKind.{FaultKind}
use Rattle.un_frame.specs.declared.kinds.FaultKind.TheVariants.{Proto, Halt}
use Rattle.un_frame.specs.declared.kinds.Verdict.{Verdict}
use Rattle.un_frame.specs.declared.kinds.Verdict.TheVariants.{Take, Short, Long, Filtered}

-- the byte at the front of the first part, or as the first part
abbrev pub onto_first : ℕ → List (List ℕ) → List (List ℕ)
onto_first c [] = (c ∷ []) ∷ []
onto_first c (part ∷ parts) = (c ∷ part) ∷ parts

-- The words of a line, which stand between single spaces. A word is empty where a space stands first, last or after another.
unfoldable pub words_in : List ℕ → List (List ℕ)
words_in [] = [] ∷ []
words_in (c ∷ cs) = if c == 32 then [] ∷ words_in cs else onto_first c (words_in cs)

-- each word behind a space
abbrev pub spaced : List (List ℕ) → List ℕ
spaced words = flat_map (λ word. 32 ∷ word) words

-- how many line feeds there are
abbrev pub feeds : List ℕ → ℕ
feeds text = length (filter (λ c. c == 10) text)

abbrev pub verdict_word : Verdict → List ℕ
verdict_word Take = codes "take"
verdict_word Short = codes "short"
verdict_word Long = codes "long"
verdict_word Filtered = codes "filtered"

abbrev pub kind_word : FaultKind → List ℕ
kind_word Proto = codes "proto"
kind_word Halt = codes "halt"

abbrev pub flag_word : Bool → List ℕ
flag_word true = codes "1"
flag_word false = codes "0"

abbrev pub why_in : List ℕ → Option Verdict
why_in word =
    if bytes_eq word (codes "short") then Some Short
    else (if bytes_eq word (codes "long") then Some Long
    else (if bytes_eq word (codes "filtered") then Some Filtered
    else None))

abbrev pub kind_named : List ℕ → Option FaultKind
kind_named word = if bytes_eq word (codes "proto") then Some Proto else (if bytes_eq word (codes "halt") then Some Halt else None)

abbrev pub flag_in : List ℕ → Option Bool
flag_in word = if bytes_eq word (codes "1") then Some true else (if bytes_eq word (codes "0") then Some false else None)

abbrev pub is_digit : ℕ → Bool
is_digit c = nat_le 48 c && nat_le c 57

-- a zero before another digit
abbrev pub has_leading_zero : List ℕ → Bool
has_leading_zero [] = false
has_leading_zero (c ∷ []) = false
has_leading_zero (c ∷ d ∷ ds) = c == 48

-- digits, without leading zeros
abbrev pub is_numeral : List ℕ → Bool
is_numeral word = list_all is_digit word && not (length word == 0) && not (has_leading_zero word)

-- the number that the digits go on from
unfoldable pub number_from : ℕ → List ℕ → ℕ
number_from n [] = n
number_from n (c ∷ cs) = number_from (n * 10 + (c - 48)) cs

-- a number up to the most that its field takes
abbrev pub number_in : ℕ → List ℕ → Option ℕ
number_in most word = if is_numeral word && nat_le (number_from 0 word) most then Some (number_from 0 word) else None

-- the most of 32 and of 64 bits
abbrev pub short_in : List ℕ → Option ℕ
short_in word = number_in 4294967295 word

abbrev pub long_in : List ℕ → Option ℕ
long_in word = number_in 18446744073709551615 word

-- 'A' to 'F'
abbrev pub is_upper : ℕ → Bool
is_upper c = nat_le 65 c && nat_le c 70

-- bytes in pairs of lower-case hexadecimal digits
abbrev pub bytes_in : List ℕ → Option (List ℕ)
bytes_in word = if list_all (λ c. not (is_upper c)) word then result_ok (decode_of word) else None
