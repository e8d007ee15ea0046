-- Which text is a history's, and the first line of another text that is outside.
use Rattle.std.specs.Prelude.{◌≡◌, ℕ, List, [], ◌∷◌, ◌++◌, ◌⊎◌, ◌+◌, Result, Ok, Err}
use Rattle.un_journal.specs.declared.trace_reader.TraceError.{TraceError}
use Rattle.un_journal.specs.declared.trace_reader.TraceError.TheVariants.{BadTrace, NoMemory}
use Rattle.un_journal.specs.History.{History}
use Rattle.un_journal.specs.Log.{AreEntries}
use Rattle.un_journal.specs.Text.{trace}
use Rattle.un_text.specs.Words.{feeds}

-- the text of some history
abbrev pub IsTrace : List ℕ → Type 0
IsTrace text = (h : History) × AreEntries h × (trace h ≡ text)

-- a beginning of the text of some history
abbrev pub BeginsTrace : List ℕ → Type 0
BeginsTrace text = (h : History) × (rest : List ℕ) × AreEntries h × (trace h ≡ text ++ rest)

-- nothing, or lines with their line feeds
abbrev pub AreWholeLines : List ℕ → Type 0
AreWholeLines text = (text ≡ []) ⊎ ((front : List ℕ) × (text ≡ front ++ 10 ∷ []))

-- The text isn't a history's. The lines before this one are the beginning of some history's text, and with this one they aren't;
-- or there is no such line with a line feed. Lines count from 1.
pub record IsFirstBad (text : List ℕ) (line : ℕ) : Type 0 where
  pub before : List ℕ
  pub rest : List ℕ
  pub parts : text ≡ before ++ rest
  pub is_whole : AreWholeLines before
  pub number : line ≡ feeds before + 1
  pub begins : BeginsTrace before
  pub stops : (next after : List ℕ) → feeds next ≡ 0 → rest ≡ next ++ 10 ∷ after → BeginsTrace (before ++ next ++ 10 ∷ []) → ⊥
  pub is_other : IsTrace text → ⊥

-- WHAT A READER ANSWERS

-- the history that has the text, or the first line that is outside; want of memory is free
abbrev pub TraceFails : TraceError → List ℕ → Type 0
TraceFails (BadTrace line) text = IsFirstBad text line
TraceFails NoMemory text = Unit {0}

abbrev pub TraceReads : {X : Type 0} → (X → History) → Result X TraceError → List ℕ → Type 0
TraceReads history (Ok x) text = AreEntries (history x) × (trace (history x) ≡ text)
TraceReads history (Err e) text = TraceFails e text
