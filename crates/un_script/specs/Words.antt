-- Lines of a text, and words of a line.
use Rattle.std.specs.Prelude.{ℕ, Bool, true, ◌&&◌, ◌==◌, nat_le, not, List, [], ◌∷◌, length, if◌then◌else◌}
use Rattle.std.specs.List.{list_all, list_any}
use Rattle.un_text.specs.Words.{onto_first, words_in}

abbrev pub LINE_FEED : ℕ
LINE_FEED = 10

abbrev pub SPACE : ℕ
SPACE = 32

-- The lines of a text. Each ends with a line feed, but for the last, which may; so a last line feed begins no further line.
unfoldable pub lines_of : List ℕ → List (List ℕ)
lines_of [] = []
lines_of (c ∷ cs) = if c == LINE_FEED then [] ∷ lines_of cs else onto_first c (lines_of cs)

-- a word of no byte
abbrev pub has_no_byte : List ℕ → Bool
has_no_byte word = length word == 0

-- a line that says nothing: it is empty or begins with '#'
abbrev pub is_skipped : List ℕ → Bool
is_skipped [] = true
is_skipped (c ∷ cs) = c == 35

-- printable ASCII or a space
abbrev pub is_plain : ℕ → Bool
is_plain c = nat_le 0x20 c && nat_le c 0x7e

-- each byte is plain, and no word is empty
abbrev pub is_spelled : List ℕ → Bool
is_spelled line = list_all is_plain line && not (list_any has_no_byte (words_in line))
