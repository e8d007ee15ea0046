-- What is proved of a lane's transfers, and of what a checker says by what it keeps of them. Each is the contract of a public call in
-- src/laws_transfers.rt.
use Rattle.std.specs.Prelude.{◌≡◌, ℕ, Bool, true, false, nat_lt, List, [], ◌∷◌, Some, if◌then◌else◌}
use Rattle.std.specs.Option.{option_map}
use Rattle.un_frame.specs.declared.kinds.Phase.{Phase}
use Rattle.un_frame.specs.declared.kinds.Planned.{Planned}
use Rattle.un_frame.specs.declared.params.Lane.{Lane}
use Rattle.un_journal.specs.declared.lines.Line.{Line}
use Rattle.un_journal.specs.declared.lines.Line.TheVariants.{Marked, Cut}
use Rattle.un_journal.specs.History.{History, flying, waiting, ended, returned, posted}
use Rattle.un_journal.specs.Lookup.{queued, deferred, unmarked, is_deferring, is_asleep, is_stopping}
use Rattle.un_journal.specs.LaneSteps.{bare, tx_done, clear_set}
use Rattle.un_journal.specs.Script.{Script, planned}
use Rattle.un_journal.specs.Step.{take_flight, land_flight, unlink}
use Rattle.un_check.specs.Says.{Says}
use Rattle.un_check.specs.Transfers.{Transfers, AreCounts, AreOf, no_transfers}
use Rattle.un_check.specs.TransferLines.{GoesOn, after, first_waiting, waiting_serial, serials_from, flying_serials, unmarked_serials, unmarked_serial, take_line, land_line, tx_done_line, unlink_line, clear_line}

-- A LINE KEEPS THEM

-- none were made by no line
abbrev pub NoLineMakesNone : Type 0
NoLineMakesNone = AreOf [] no_transfers

-- what is kept is still the lane's after one more line that goes on from it
abbrev pub LinesKeepTransfers : Type 0
LinesKeepTransfers = (g : History) (t : Transfers) (line : Line) (bytes : List ℕ)
    → AreOf g t → GoesOn line t → AreOf ((line, bytes) ∷ g) (after line t)

-- WHAT THE LOOK-UPS OF THE LANE'S LINES ARE

-- the transfer that flies, and those that wait
abbrev pub FlyingIsKept : Type 0
FlyingIsKept = (g : History) (t : Transfers) → AreOf g t → flying g ≡ flying_serials t

abbrev pub WaitingIsKept : Type 0
WaitingIsKept = (g : History) (t : Transfers) → AreOf g t → waiting g ≡ serials_from t (first_waiting t)

-- those that are queued, and those that are deferred
abbrev pub QueuedIsKept : Type 0
QueuedIsKept = (phase : Phase) (lane : Lane) (g : History) (t : Transfers)
    → AreOf g t → queued phase lane g ≡ (if is_deferring phase lane then [] else serials_from t (first_waiting t))

abbrev pub DeferredIsKept : Type 0
DeferredIsKept = (phase : Phase) (lane : Lane) (g : History) (t : Transfers)
    → AreOf g t → deferred phase lane g ≡ (if is_deferring phase lane then serials_from t (first_waiting t) else [])

-- those that a stop marks
abbrev pub UnmarkedIsKept : Type 0
UnmarkedIsKept = (phase : Phase) (lane : Lane) (g : History) (t : Transfers)
    → AreOf g t → unmarked phase lane g ≡ unmarked_serials (is_deferring phase lane) t

-- whether the next transmit request may come home
abbrev pub ReturnedIsKept : Type 0
ReturnedIsKept = (g : History) (t : Transfers) → AreOf g t → ended g (returned g) ≡ nat_lt t.home t.over

-- WHAT EACH STEP WRITES

-- a take, by whether the link sleeps, whether the lane defers, and how many receive requests are posted
abbrev pub TakeIsSaid : Type 0
TakeIsSaid = (phase : Phase) (lane : Lane) (g : History) (t : Transfers) (count : ℕ) → AreOf g t → posted g ≡ count
    → Says (option_map bare (take_line (is_asleep phase) (is_deferring phase lane) lane count t)) (take_flight phase lane g)

-- a landing, by what the script plans
abbrev pub LandIsSaid : Type 0
LandIsSaid = (script : Script) (lane : Lane) (g : History) (t : Transfers) → AreOf g t
    → Says (option_map bare (land_line lane (planned script lane t.over) t)) (land_flight script lane g)

abbrev pub TxDoneIsSaid : Type 0
TxDoneIsSaid = (lane : Lane) (g : History) (t : Transfers) → AreOf g t
    → Says (option_map bare (tx_done_line lane t)) (tx_done lane g)

-- a step of a stop, while it goes on
abbrev pub UnlinkIsSaid : Type 0
UnlinkIsSaid = (phase : Phase) (lane : Lane) (cause : ℕ) (g : History) (t : Transfers) (count : ℕ)
    → is_stopping phase ≡ true → AreOf g t → posted g ≡ count
    → Says (option_map bare (unlink_line (is_deferring phase lane) lane cause count t)) (unlink phase lane cause g)

-- the clearing of a halt, in a phase in which it may be cleared
abbrev pub ClearIsSaid : Type 0
ClearIsSaid = (lane : Lane) (g : History) (t : Transfers) → AreOf g t
    → Says (option_map bare (clear_line lane t)) (clear_set lane g)

-- WHAT IS SAID GOES ON

-- a line that is said is one of these transfers' next
abbrev pub TakeGoesOn : Type 0
TakeGoesOn = (asleep is_deferring : Bool) (lane : Lane) (count : ℕ) (t : Transfers) (line : Line)
    → take_line asleep is_deferring lane count t ≡ Some line → GoesOn line t

abbrev pub LandGoesOn : Type 0
LandGoesOn = (lane : Lane) (plan : Planned) (t : Transfers) (line : Line)
    → AreCounts t → land_line lane plan t ≡ Some line → GoesOn line t

abbrev pub TxDoneGoesOn : Type 0
TxDoneGoesOn = (lane : Lane) (t : Transfers) (line : Line) → tx_done_line lane t ≡ Some line → GoesOn line t

abbrev pub UnlinkGoesOn : Type 0
UnlinkGoesOn = (is_deferring : Bool) (lane : Lane) (cause count : ℕ) (t : Transfers) (line : Line)
    → AreCounts t → unlink_line is_deferring lane cause count t ≡ Some line → GoesOn line t

abbrev pub ClearGoesOn : Type 0
ClearGoesOn = (lane : Lane) (t : Transfers) (line : Line) → clear_line lane t ≡ Some line → GoesOn line t

-- so is what a control writes: that the first that waits is cut, where none flies, and that the first that a stop marks is marked
abbrev pub CutGoesOn : Type 0
CutGoesOn = (lane : Lane) (k cause : ℕ) (t : Transfers) → t.is_out ≡ false → waiting_serial t ≡ Some k → GoesOn (Cut lane k cause) t

abbrev pub MarkGoesOn : Type 0
MarkGoesOn = (is_deferring : Bool) (lane : Lane) (k cause : ℕ) (t : Transfers)
    → AreCounts t → unmarked_serial is_deferring t ≡ Some k → GoesOn (Marked lane k cause) t
