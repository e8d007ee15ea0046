-- Numbers and bytes as texts.
use Rattle.std.specs.Prelude.{ℕ, List, slice_index, Option, Some, None}
use Rattle.std.specs.Result.{result_ok}
use Rattle.un_text.specs.Words.{number_in}
use Rattle.hex.specs.Hex.{decode_of, decode_sized}

-- the greatest number of ten digits
abbrev pub MOST_NUMBER : ℕ
MOST_NUMBER = 9999999999

-- the number that a word of one to ten digits is, without leading zeros
abbrev pub number_of : List ℕ → Option ℕ
number_of word = number_in MOST_NUMBER word

-- the bytes that pairs of hexadecimal digits of either case are
abbrev pub bytes_of : List ℕ → Option (List ℕ)
bytes_of word = result_ok (decode_of word)

abbrev pub first_byte : Option (List ℕ) → Option ℕ
first_byte (Some bytes) = Some (slice_index bytes 0)
first_byte None = None

-- the byte that two hexadecimal digits of either case are
abbrev pub byte_of : List ℕ → Option ℕ
byte_of word = first_byte (result_ok (decode_sized word 1))
