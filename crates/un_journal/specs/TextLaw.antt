-- What the text of a history tells: it is no other history's.
use Rattle.std.specs.Prelude.{◌≡◌, ℕ, List, ◌++◌}
use Rattle.un_journal.specs.History.{Entry, History}
use Rattle.un_journal.specs.Log.{IsEntry, AreEntries}
use Rattle.un_journal.specs.Text.{entry_text, trace}

-- No entry's text is a front of another's: two texts that begin with entries' texts and are the same begin with the same entry.
abbrev pub EntriesAreRead : Type 0
EntriesAreRead = (e f : Entry) (x y : List ℕ) → IsEntry e → IsEntry f → entry_text e ++ x ≡ entry_text f ++ y → (e ≡ f) × (x ≡ y)

-- No history's text is a front of another's: two texts that begin with histories' texts and are the same begin with the same history,
-- and go on alike.
abbrev pub TracesAreRead : Type 0
TracesAreRead = (g h : History) (x y : List ℕ) → AreEntries g → AreEntries h → trace g ++ x ≡ trace h ++ y → (g ≡ h) × (x ≡ y)

-- No two histories have one text.
abbrev pub HistoriesAreRead : Type 0
HistoriesAreRead = (g h : History) → AreEntries g → AreEntries h → trace g ≡ trace h → g ≡ h
