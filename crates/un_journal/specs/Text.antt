-- The text of a history: the line "trace", a line for each entry, and the line "end".
use Rattle.std.specs.Prelude.{ℕ, List, [], ◌∷◌, ◌++◌, codes, map}
use Rattle.std.specs.List.{flat_map}
use Rattle.hex.specs.Hex.{encode_lower}
use Rattle.un_text.specs.Words.{spaced}
use Rattle.un_journal.specs.declared.lines.Line.{Line}
use Rattle.un_journal.specs.Lines.{row, spelled}
use Rattle.un_journal.specs.History.{Entry, History}

-- the first word of a line
abbrev pub name_of : Line → List ℕ
name_of line = (row line).name

-- the words after it, but for the bytes
abbrev pub words_of : Line → List (List ℕ)
words_of line = map spelled (row line).fields

-- the word of a line's bytes, where it carries some
abbrev pub bytes_words : List ℕ → List (List ℕ)
bytes_words [] = []
bytes_words (b ∷ bytes) = encode_lower (b ∷ bytes) ∷ []

unfoldable pub entry_text : Entry → List ℕ
entry_text (line, bytes) = name_of line ++ spaced (words_of line) ++ spaced (bytes_words bytes) ++ 10 ∷ []

unfoldable pub trace : History → List ℕ
trace history = codes "trace\n" ++ flat_map entry_text history ++ codes "end\n"
