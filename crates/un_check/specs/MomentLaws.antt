-- The laws of the moments of a legal history, for who reads one line by line. Each is the contract of a public call in
-- src/laws_moments.rt.
use Rattle.std.specs.Prelude.{◌≡◌, ℕ, ◌+◌, ◌<◌, ◌≤◌, false, [], ◌∷◌, ◌++◌, length, reverse, take, Some, slice_get}
use Rattle.un_frame.specs.Params.{AreInRange}
use Rattle.un_journal.specs.Script.{Script}
use Rattle.un_journal.specs.History.{Entry, History}
use Rattle.un_journal.specs.Lookup.{controls_done}
use Rattle.un_journal.specs.LaneSteps.{Writes}
use Rattle.un_journal.specs.Step.{quiet}
use Rattle.un_journal.specs.Fits.{Act, Legal, IsDone, act_outcome}
use Rattle.un_check.specs.Moments.{IsMoment, StopsAt, Reads, Differs, ActOf, BeginsStep}

-- STEPS

-- where a legal history with one more line begins a legal history, the line begins the step of one of its acts
abbrev pub LineBeginsStep : Type 0
LineBeginsStep = (script : Script) (h : History) (e : Entry)
    → Legal script h → IsMoment script (h ++ e ∷ []) → BeginsStep script h e

-- what an act writes leaves a legal history
abbrev pub StepIsLegal : Type 0
StepIsLegal = (script : Script) (h : History) (act : Act) (lines : History)
    → Legal script h → act_outcome script h act ≡ Writes lines → Legal script (h ++ lines)

-- and so do its lines where they are read
abbrev pub ReadStepIsLegal : Type 0
ReadStepIsLegal = (script : Script) (h : History) (at : ℕ) (act : Act) (lines : History) (next : ℕ)
    → Legal script (take at h) → act_outcome script (take at h) act ≡ Writes lines → Reads h at lines next → Legal script (take next h)

-- WHERE A READING STOPS

-- where a line begins an act's step, and those that follow aren't the step's, a reading stops at the first that differs
abbrev pub StepStops : Type 0
StepStops = (script : Script) (h : History) (at : ℕ) (act : Act) (e : Entry) (more : History) (k : ℕ)
    → Legal script (take at h) → act_outcome script (take at h) act ≡ Writes (e ∷ more) → slice_get h at ≡ Some e
    → Differs h (at + 1) more k → StopsAt script h k

-- where a line begins no step of its acts, it stops before the line
abbrev pub NoneBegins : Type 0
NoneBegins = (script : Script) (h : History) (at : ℕ) (e : Entry)
    → Legal script (take at h) → slice_get h at ≡ Some e
    → ((act : Act) → ActOf e.0 act → (more : History) → act_outcome script (take at h) act ≡ Writes (e ∷ more) → ⊥)
    → StopsAt script h at

-- a legal history that isn't quiet, or has a control left, stops at its end
abbrev pub RestlessStops : Type 0
RestlessStops = (script : Script) (h : History)
    → AreInRange script.params → Legal script h → quiet script h ≡ false → StopsAt script h (length h)

abbrev pub OrdersLeftStop : Type 0
OrdersLeftStop = (script : Script) (h : History)
    → AreInRange script.params → Legal script h → controls_done (reverse h) < length script.controls → StopsAt script h (length h)

-- a reading stops at one index
abbrev pub StopIsOne : Type 0
StopIsOne = (script : Script) (h : History) (k j : ℕ) → StopsAt script h k → StopsAt script h j → k ≡ j

-- and that of a done history at none
abbrev pub DoneStopsNowhere : Type 0
DoneStopsNowhere = (script : Script) (h : History) (k : ℕ) → IsDone script h → StopsAt script h k → ⊥

-- READING LINES

-- no line
abbrev pub NoLineReads : Type 0
NoLineReads = (h : History) (at : ℕ) → at ≤ length h → Reads h at [] at

-- one line
abbrev pub LineReads : Type 0
LineReads = (h : History) (at : ℕ) (e : Entry) → slice_get h at ≡ Some e → Reads h at (e ∷ []) (at + 1)

-- another line, or none
abbrev pub OtherDiffers : Type 0
OtherDiffers = (h : History) (at : ℕ) (e : Entry)
    → at ≤ length h → (slice_get h at ≡ Some e → ⊥) → Differs h at (e ∷ []) at

-- lines, and those that follow them
abbrev pub ReadsJoin : Type 0
ReadsJoin = (h : History) (at : ℕ) (xs : History) (middle : ℕ) (ys : History) (next : ℕ)
    → Reads h at xs middle → Reads h middle ys next → Reads h at (xs ++ ys) next

abbrev pub DiffersAfter : Type 0
DiffersAfter = (h : History) (at : ℕ) (xs : History) (middle : ℕ) (ys : History) (k : ℕ)
    → Reads h at xs middle → Differs h middle ys k → Differs h at (xs ++ ys) k

abbrev pub DiffersBefore : Type 0
DiffersBefore = (h : History) (at : ℕ) (xs ys : History) (k : ℕ) → Differs h at xs k → Differs h at (xs ++ ys) k
