-- The laws over every history that a link can have. Each is the contract of a public call in src/laws.rt. A moment of a history is
-- a legal history itself, what an earlier step left, so each law holds at every moment.
use Rattle.std.specs.Prelude.{◌≡◌, ℕ, ◌+◌, ◌<◌, ◌≤◌, true, false, List, [], ◌∷◌, ◌++◌, reverse, length}
use Rattle.un_frame.specs.Lanes.{tx_size, rx_size}
use Rattle.un_frame.specs.declared.params.Lane.{Lane}
use Rattle.un_frame.specs.Params.{AreInRange, Agree}
use Rattle.un_journal.specs.declared.lines.Line.{Line}
use Rattle.un_journal.specs.declared.lines.Line.TheVariants.{Settled}
use Rattle.un_journal.specs.declared.actions.Action.{Action}
use Rattle.un_journal.specs.declared.actions.Answer.{Answer}
use Rattle.un_journal.specs.Log.{HasReason, CarriesItsBytes}
use Rattle.un_journal.specs.Script.{Script, frames_of}
use Rattle.un_journal.specs.History.{Entry, History, past, taken, given, made, posts, recalls, flights, posted, flying, delivered, returned, row_from}
use Rattle.un_journal.specs.Lookup.{datagrams, controls_done, tx_home, rx_home, claim, rx_back, landings}
use Rattle.un_journal.specs.LaneSteps.{Writes, lines_in}
use Rattle.un_journal.specs.Step.{all_home, away, quiet, step_of, answer_of}
use Rattle.un_journal.specs.Fits.{Act, Fits, Legal, IsDone, act_outcome}
use Rattle.un_journal.specs.Drain.{run, drain, drain_in, line_bound}
use Rattle.un_journal.specs.Places.{trues, places, IsRising, IsAllBelow}
use Rattle.un_journal.specs.Census.{census, total, NamesPlace, nowhere}
use Rattle.un_journal.specs.Licence.{Licensed, FindsHome}
use Rattle.un_journal.specs.Bytes.{AreDatagrams, bytes_in, byte_bound}
use Rattle.un_journal.specs.Done.{IsFinished, NoneFlies}
use Rattle.un_journal.specs.Loss.{LosesNothing, loses, accepted, good_frames}
use Rattle.un_journal.specs.Unplug.{AwaitsUnplug, IsSettledAway, IsPrefix}

-- WHERE A DATAGRAM IS

-- exactly one of the five places holds an accepted datagram
abbrev pub IsInOnePlace : Type 0
IsInOnePlace = (script : Script) (h : History) (lane : Lane) (n : ℕ)
    → Legal script h → n < taken (past lane h) → trues (places (past lane h) n) ≡ 1

-- its counts add up to 1
abbrev pub CensusAddsUp : Type 0
CensusAddsUp = (script : Script) (h : History) (lane : Lane) (n : ℕ)
    → Legal script h → n < taken (past lane h) → total (census script h lane n) ≡ 1

-- and name its place
abbrev pub CensusNamesPlace : Type 0
CensusNamesPlace = (script : Script) (h : History) (lane : Lane) (n : ℕ)
    → Legal script h → n < taken (past lane h) → NamesPlace (census script h lane n) (past lane h) n

-- any other number is nowhere
abbrev pub CensusIsNowhere : Type 0
CensusIsNowhere = (script : Script) (h : History) (lane : Lane) (n : ℕ)
    → Legal script h → taken (past lane h) ≤ n → census script h lane n ≡ nowhere

-- WHAT IS GIVEN AND LOST

-- the given numbers rise strictly
abbrev pub GivenRises : Type 0
GivenRises = (script : Script) (h : History) (lane : Lane) → Legal script h → IsRising (given (past lane h))

-- each of them was accepted
abbrev pub GivenIsAccepted : Type 0
GivenIsAccepted = (script : Script) (h : History) (lane : Lane)
    → Legal script h → IsAllBelow (given (past lane h)) (taken (past lane h))

-- each gave line carries the bytes of the datagram with its number
abbrev pub GivenIsUnchanged : Type 0
GivenIsUnchanged = (script : Script) (h : History) (lane : Lane)
    → AreInRange script.params → Agree script.params → Legal script h
    → AreDatagrams (datagrams script lane (past lane h)) (past lane h)

-- each failed, retried, cut and dropped line has its cause at its place
abbrev pub LossIsLicensed : Type 0
LossIsLicensed = (script : Script) (before after : History) (e : Entry)
    → Legal script (before ++ e ∷ after) → Licensed script (reverse before) e

-- a settled line finds every request at home
abbrev pub SettledIsHome : Type 0
SettledIsHome = (script : Script) (before after : History) (t1 r1 t2 r2 : ℕ) (bytes : List ℕ)
    → Legal script (before ++ (Settled t1 r1 t2 r2, bytes) ∷ after) → FindsHome script before t1 r1 t2 r2

-- where each transfer arrives at last, each control is a suspend or a resume and the last one no suspend, everything that was
-- accepted is given
abbrev pub AllIsGiven : Type 0
AllIsGiven = (script : Script) (h : History) (lane : Lane)
    → AreInRange script.params → LosesNothing script → IsDone script h
    → given (past lane h) ≡ row_from 0 (taken (past lane h))

-- and each sender's frames that are to be taken were accepted, in their order
abbrev pub AllIsAccepted : Type 0
AllIsAccepted = (script : Script) (h : History) (lane : Lane) (sender : ℕ)
    → AreInRange script.params → LosesNothing script → IsDone script h
    → accepted script lane (past lane h) sender ≡ good_frames script.params lane (frames_of script lane sender)

-- a script without faults and controls has no line that loses anything
abbrev pub PlainScriptsLoseNothing : Type 0
PlainScriptsLoseNothing = (script : Script) (before after : History) (e : Entry)
    → script.faults ≡ [] → script.controls ≡ [] → Legal script (before ++ e ∷ after) → loses e.0 ≡ false

-- LINES

-- a made or gave line carries at least one byte and every other line none; the verdict of a refused line refuses
abbrev pub LinesAreSpelled : Type 0
LinesAreSpelled = (script : Script) (before after : History) (line : Line) (bytes : List ℕ)
    → AreInRange script.params → Agree script.params → Legal script (before ++ (line, bytes) ∷ after)
    → HasReason line × CarriesItsBytes line bytes

-- no history has more lines than a link keeps room for
abbrev pub LinesAreBounded : Type 0
LinesAreBounded = (script : Script) (h : History) → Legal script h → length h ≤ line_bound script

-- nor more bytes of lines
abbrev pub BytesAreBounded : Type 0
BytesAreBounded = (script : Script) (h : History)
    → AreInRange script.params → Agree script.params → Legal script h → bytes_in h ≤ byte_bound script

-- THE REQUESTS OF A LANE

-- a transmit request is home, claimed, or in a transfer that isn't home again
abbrev pub TransmitAddsUp : Type 0
TransmitAddsUp = (script : Script) (h : History) (lane : Lane)
    → Legal script h
    → made (past lane h) + tx_home script.params lane (past lane h) + claim script.params lane (past lane h) ≡ tx_size script.params lane + returned (past lane h)

-- a receive request is home, or was posted and didn't come back
abbrev pub ReceiveAddsUp : Type 0
ReceiveAddsUp = (script : Script) (h : History) (lane : Lane)
    → Legal script h
    → posts (past lane h) + rx_home script.params lane (past lane h) ≡ rx_back script.params lane (past lane h)

-- a posted request was recalled, left with a flight, or is posted
abbrev pub PostedAddsUp : Type 0
PostedAddsUp = (script : Script) (h : History) (lane : Lane)
    → Legal script h
    → recalls (past lane h) + flights (past lane h) + posted (past lane h) ≡ posts (past lane h)

-- a receive request is home, posted, in a flight, or in a landed transfer that isn't given whole
abbrev pub ReceiveIsSomewhere : Type 0
ReceiveIsSomewhere = (script : Script) (h : History) (lane : Lane)
    → Legal script h
    → rx_home script.params lane (past lane h) + posted (past lane h) + length (flying (past lane h)) + length (landings (past lane h)) ≡ rx_size script.params lane + length (delivered (past lane h))

-- no pool has more at home than it has
abbrev pub HomeIsInPool : Type 0
HomeIsInPool = (script : Script) (h : History) (lane : Lane)
    → Legal script h
    → (tx_home script.params lane (past lane h) ≤ tx_size script.params lane) × (rx_home script.params lane (past lane h) ≤ rx_size script.params lane)

-- where not all are at home, some are away
abbrev pub SomeAreAway : Type 0
SomeAreAway = (script : Script) (h : History) → Legal script h → all_home script h ≡ false → 0 < away script h

-- where all are at home, none is
abbrev pub NoneIsAway : Type 0
NoneIsAway = (script : Script) (h : History) → all_home script h ≡ true → away script h ≡ 0

-- STEPS

-- after a legal history an act has at most one step that fits
abbrev pub StepIsOne : Type 0
StepIsOne = (script : Script) (h : History) (act : Act) (xs ys : History)
    → Legal script h → Fits script h act xs → Fits script h act ys → xs ≡ ys

-- the first line of a step fixes the rest: two steps that begin with one line carry the same bytes in it, and the same lines follow
abbrev pub LineFixesStep : Type 0
LineFixesStep = (script : Script) (h xs ys : History) (a b : Act) (line : Line) (bytes other : List ℕ)
    → Fits script h a ((line, bytes) ∷ xs) → Fits script h b ((line, other) ∷ ys) → (bytes ≡ other) × (xs ≡ ys)

-- what an act writes is a step that fits by the table
abbrev pub WrittenFits : Type 0
WrittenFits = (script : Script) (h : History) (act : Act) (lines : History)
    → act_outcome script h act ≡ Writes lines → Fits script h act lines

-- and what fits by the table is what the act writes
abbrev pub FittingIsWritten : Type 0
FittingIsWritten = (script : Script) (h : History) (act : Act) (lines : History)
    → Legal script h → Fits script h act lines → act_outcome script h act ≡ Writes lines

-- whatever an act does, the history stays legal
abbrev pub ActsStayLegal : Type 0
ActsStayLegal = (script : Script) (h : History) (act : Act)
    → Legal script h → Legal script (h ++ lines_in (act_outcome script h act))

-- so does a run of actions
abbrev pub RunsStayLegal : Type 0
RunsStayLegal = (script : Script) (h : History) (actions : List Action)
    → Legal script h → Legal script (run script h actions)

-- an action that answers anything but that it was done adds no line
abbrev pub RefusalsWriteNothing : Type 0
RefusalsWriteNothing = (script : Script) (h : History) (action : Action)
    → (answer_of script h action ≡ Answer.Did → ⊥) → step_of script h action ≡ []

-- THE END

-- what a history after which no step fits says
abbrev pub DoneIsFinished : Type 0
DoneIsFinished = (script : Script) (h : History) → AreInRange script.params → IsDone script h → IsFinished script h

-- a quiet history with no control left is done
abbrev pub QuietIsDone : Type 0
QuietIsDone = (script : Script) (h : History)
    → Legal script h → quiet script h ≡ true → controls_done (reverse h) ≡ length script.controls → IsDone script h

-- a done history is quiet with no control left
abbrev pub DoneIsQuiet : Type 0
DoneIsQuiet = (script : Script) (h : History)
    → AreInRange script.params → IsDone script h
    → (quiet script h ≡ true) × (controls_done (reverse h) ≡ length script.controls)

-- no legal history goes on after a done one
abbrev pub DoneIsFinal : Type 0
DoneIsFinal = (script : Script) (h rest : History) → IsDone script h → Legal script (h ++ rest) → rest ≡ []

-- what the drain leaves is legal
abbrev pub DrainIsLegal : Type 0
DrainIsLegal = (script : Script) (h : History) → Legal script h → Legal script (drain script h)

-- the drain doesn't stop early: as many rounds as lines have room, or more, leave the same
abbrev pub DrainEnds : Type 0
DrainEnds = (script : Script) (h : History) (rounds : ℕ)
    → Legal script h → line_bound script ≤ rounds + length h → drain_in rounds script h ≡ drain script h

-- where nothing flies, no step fits after the drain
abbrev pub DrainIsDone : Type 0
DrainIsDone = (script : Script) (h : History) → Legal script h → NoneFlies h → IsDone script (drain script h)

-- where an unplug is the one control left and nothing flies, the drain leaves the link away, and ends with the line that settles it,
-- with every request at home
abbrev pub CutIsSettled : Type 0
CutIsSettled = (script : Script) (h : History)
    → AreInRange script.params → Legal script h → AwaitsUnplug script h → IsSettledAway script (drain script h)

-- what was given begins what is given after the drain
abbrev pub GivenIsKept : Type 0
GivenIsKept = (script : Script) (h : History) (lane : Lane)
    → IsPrefix (given (past lane h)) (given (past lane (drain script h)))
