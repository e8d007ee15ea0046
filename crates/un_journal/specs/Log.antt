-- A journal as plain data, and what each of its entries keeps.
use Rattle.std.specs.Prelude.{◌≡◌, ◌≢◌, ℕ, ◌-◌, ◌≤◌, ◌<◌, List, take, drop, map, length}
use Rattle.std.specs.List.{AllByRecursion}
use Rattle.un_frame.specs.Bytes.{AreBytes}
use Rattle.un_frame.specs.declared.kinds.Verdict.TheVariants.{Take}
use Rattle.un_journal.specs.declared.journal.Stored.{Stored}
use Rattle.un_journal.specs.declared.lines.Line.{Line}
use Rattle.un_journal.specs.declared.lines.Line.TheVariants.{Refused, Made, Gave}
use Rattle.un_journal.specs.Lines.{IsOfItsType, row}
use Rattle.un_journal.specs.History.{Entry, History}

-- the history, and the room for more lines and bytes
pub record Log : Type 0 where
  pub history : History
  pub spare_lines : ℕ
  pub spare_bytes : ℕ

-- made and gave carry at least one byte, the other kinds none
abbrev pub CarriesItsBytes : Line → List ℕ → Type 0
CarriesItsBytes (Made l k a b) bytes = 0 < length bytes
CarriesItsBytes (Gave l n) bytes = 0 < length bytes
CarriesItsBytes line bytes = length bytes ≡ 0

-- a refused line has a verdict that refuses
abbrev pub HasReason : Line → Type 0
HasReason (Refused l s why) = why ≢ Take
HasReason line = Unit {0}

-- each number of a line is one of its field's type
abbrev pub FitsTypes : Line → Type 0
FitsTypes line = AllByRecursion IsOfItsType (row line).fields

-- what holds of each entry that a journal keeps
abbrev pub IsEntry : Entry → Type 0
IsEntry (line, bytes) = FitsTypes line × HasReason line × CarriesItsBytes line bytes × AreBytes bytes

abbrev pub AreEntries : History → Type 0
AreEntries history = AllByRecursion IsEntry history

-- a line with the bytes that it stands beside
abbrev pub entry_of : List ℕ → Stored → Entry
entry_of bytes stored = (stored.line, take (stored.to - stored.from) (drop stored.from bytes))

unfoldable pub entries_of : List ℕ → List Stored → History
entries_of bytes stored = map (entry_of bytes) stored

-- a line's bytes are among so many
abbrev pub IsStored : ℕ → Stored → Type 0
IsStored size stored = (stored.from ≤ stored.to) × (stored.to ≤ size)
