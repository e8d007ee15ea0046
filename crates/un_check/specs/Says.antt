-- How a checker says what a step would write: its lines, one line, or none.
use Rattle.std.specs.Prelude.{◌≡◌, true, [], ◌∷◌, Option, Some, None}
use Rattle.un_journal.specs.History.{Entry, History}
use Rattle.un_journal.specs.LaneSteps.{Outcome, Writes}
use Rattle.un_journal.specs.Step.{is_still}

-- the step writes this line alone, or nothing
abbrev pub Says : Option Entry → Outcome → Type 0
Says (Some entry) outcome = outcome ≡ Writes (entry ∷ [])
Says None outcome = is_still outcome ≡ true

-- the step writes these lines, or nothing
abbrev pub SaysAll : Option History → Outcome → Type 0
SaysAll (Some lines) outcome = outcome ≡ Writes lines
SaysAll None outcome = is_still outcome ≡ true
