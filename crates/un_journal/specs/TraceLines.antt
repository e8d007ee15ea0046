-- How a trace's line is read: by its first word, and then each word by its field. That this reads exactly the texts of entries is
-- proved (proofs/Text/LinesRead).
use Rattle.std.specs.Prelude.{◌≡◌, ℕ, ◌==◌, List, [], ◌∷◌, ◌++◌, length, codes, Option, Some, None, Result, Ok, Err, if◌then◌else◌}
use Rattle.std.specs.Str.{bytes_eq}
use Rattle.un_frame.specs.Spelling.{lane_named}
use Rattle.un_journal.specs.declared.lines.Line.{Line}
use Rattle.un_journal.specs.declared.lines.Line.TheVariants.{Took, Refused, Made, Waited, Posted, Flying, Landed, Failed, Retried, Marked, Cut, Dropped, TxHome, Opened, Gave, Recalled, Cleared, Control, Settled}
use Rattle.un_journal.specs.declared.trace_reader.Unread.{Unread}
use Rattle.un_journal.specs.declared.trace_reader.Unread.TheVariants.{Outside, NoMemory}
use Rattle.un_journal.specs.History.{Entry, History}
use Rattle.un_text.specs.Words.{words_in, why_in, flag_in, short_in, long_in, bytes_in, kind_named}

infixl 10 ◌>>=◌
abbrev pub ◌>>=◌ : {A B : Type 0} → Option A → (A → Option B) → Option B
(Some x) >>= f = f x
None >>= f = None

-- the words that are left of a line, of which the code keeps the text, or that there are none
abbrev pub left : {T : Type 0} → (T → List ℕ) → Option T → List (List ℕ)
left now (Some rest) = words_in (now rest)
left now None = []

-- the first of the words as a field, and the words behind it
abbrev pub first_read : {A : Type 0} → (List ℕ → Option A) → List (List ℕ) → Option (A × List (List ℕ))
first_read read [] = None
first_read read (word ∷ words) = do
  x ← read word
  Some (x, words)

-- a line of so many fields, each read by its type, and the words behind them
abbrev pub Parsed : Type 0
Parsed = Line × List (List ℕ)

abbrev pub one : {A : Type 0} → (List ℕ → Option A) → (A → Line) → List (List ℕ) → Option Parsed
one read line words = do
  x ← first_read read words
  Some (line x.0, x.1)

abbrev pub two : {A B : Type 0} → (List ℕ → Option A) → (List ℕ → Option B) → (A → B → Line) → List (List ℕ) → Option Parsed
two read next line words = do
  x ← first_read read words
  one next (line x.0) x.1

abbrev pub three : {A B C : Type 0} → (List ℕ → Option A) → (List ℕ → Option B) → (List ℕ → Option C) → (A → B → C → Line) → List (List ℕ) → Option Parsed
three read next third line words = do
  x ← first_read read words
  two next third (line x.0) x.1

abbrev pub four : {A B C D : Type 0} → (List ℕ → Option A) → (List ℕ → Option B) → (List ℕ → Option C) → (List ℕ → Option D) → (A → B → C → D → Line) → List (List ℕ) → Option Parsed
four read next third last line words = do
  x ← first_read read words
  three next third last (line x.0) x.1

-- The line of a name, whose fields stand first in the words: rows of one field, of two, of three and of four.
abbrev pub one_named : List ℕ → List (List ℕ) → Option Parsed
one_named name words =
    if bytes_eq name (codes "waited") then one lane_named Waited words
    else (if bytes_eq name (codes "posted") then one lane_named Posted words
    else (if bytes_eq name (codes "recalled") then one lane_named Recalled words
    else (if bytes_eq name (codes "cleared") then one lane_named Cleared words
    else None)))

abbrev pub two_named : List ℕ → List (List ℕ) → Option Parsed
two_named name words =
    if bytes_eq name (codes "took") then two lane_named short_in Took words
    else (if bytes_eq name (codes "flying") then two lane_named long_in Flying words
    else (if bytes_eq name (codes "landed") then two lane_named long_in Landed words
    else (if bytes_eq name (codes "txhome") then two lane_named long_in TxHome words
    else (if bytes_eq name (codes "opened") then two lane_named long_in Opened words
    else (if bytes_eq name (codes "gave") then two lane_named long_in Gave words
    else (if bytes_eq name (codes "did") then two short_in flag_in Control words
    else None))))))

abbrev pub three_named : List ℕ → List (List ℕ) → Option Parsed
three_named name words =
    if bytes_eq name (codes "refused") then three lane_named short_in why_in Refused words
    else (if bytes_eq name (codes "failed") then three lane_named long_in kind_named Failed words
    else (if bytes_eq name (codes "retried") then three lane_named long_in short_in Retried words
    else (if bytes_eq name (codes "marked") then three lane_named long_in short_in Marked words
    else (if bytes_eq name (codes "cut") then three lane_named long_in short_in Cut words
    else None))))

abbrev pub four_named : List ℕ → List (List ℕ) → Option Parsed
four_named name words =
    if bytes_eq name (codes "made") then four lane_named long_in long_in long_in Made words
    else (if bytes_eq name (codes "dropped") then four lane_named long_in long_in short_in Dropped words
    else (if bytes_eq name (codes "settled") then four short_in short_in short_in short_in Settled words
    else None))

abbrev pub or : Option Parsed → Option Parsed → Option Parsed
or (Some found) other = Some found
or None other = other

abbrev pub line_named : List ℕ → List (List ℕ) → Option Parsed
line_named name words = or (one_named name words) (or (two_named name words) (or (three_named name words) (four_named name words)))

-- The digits of a line's bytes: the only word that is left where it carries bytes; else no word is left.
abbrev pub only_word : List (List ℕ) → Option (List ℕ)
only_word (digits ∷ []) = if length digits == 0 then None else Some digits
only_word words = None

abbrev pub no_word : List (List ℕ) → Option (List ℕ)
no_word [] = Some []
no_word words = None

abbrev pub digits_left : Line → List (List ℕ) → Option (List ℕ)
digits_left (Made l k a b) words = only_word words
digits_left (Gave l n) words = only_word words
digits_left line words = no_word words

-- a line with these digits in the place of its bytes
abbrev pub with_digits : Parsed → Option Entry
with_digits found = do
  digits ← digits_left found.0 found.1
  Some (found.0, digits)

abbrev pub line_of : List (List ℕ) → Option Entry
line_of [] = None
line_of (name ∷ words) = line_named name words >>= with_digits

unfoldable pub line_in : List ℕ → Option Entry
line_in text = line_of (words_in text)

-- the bytes with their line
abbrev pub entry_with : Entry → Option Entry
entry_with (line, digits) = do
  bytes ← bytes_in digits
  Some (line, bytes)

abbrev pub entry_in : List ℕ → Option Entry
entry_in text = line_in text >>= entry_with

-- WHAT THE CODE ANSWERS

-- the bytes that were read are added, or there are none
abbrev pub BytesRead : Result (Unit {0}) Unread → Option (List ℕ) → List ℕ → List ℕ → Type 0
BytesRead (Ok done) read old new = (bytes : List ℕ) × (read ≡ Some bytes) × (new ≡ old ++ bytes)
BytesRead (Err Outside) read old new = read ≡ None
BytesRead (Err NoMemory) read old new = Unit {0}

-- the entry that was read is added, or there is none
abbrev pub EntryRead : Result (Unit {0}) Unread → Option Entry → History → History → Type 0
EntryRead (Ok done) read old new = (e : Entry) × (read ≡ Some e) × (new ≡ old ++ e ∷ [])
EntryRead (Err Outside) read old new = read ≡ None
EntryRead (Err NoMemory) read old new = Unit {0}
