-- What a sink holds at each status of the program.
use Rattle.std.specs.Prelude.{◌≡◌, ℕ, List, Option, Ok, Err}
use Rattle.std.specs.Io.KnownBytes.{Appends}
use Rattle.un_io.specs.Io.{Stopped}
use Rattle.usbnet_run.specs.Command.{Answers, Ends}
use Rattle.usbnet_run.specs.Refusals.{Answer, Tells, refusal_status}
use Rattle.usbnet_run.specs.Top.{MainAnswers, MainEnds}
use Rattle.usbnet_run.specs.declared.refusal.Refusal.{Refusal}

-- Where these are the answers that can be: at 0 the sink has grown by a text that is one. At 3 it has grown by a front of such a text, and not by all of it. At any other status, which is 1, 2 or 4 to 8, it has
-- grown by the line of a refusal with that status; or a write of that line failed, by the sink's count of faults, and it has grown by a front of the line.
pub record HoldsAt (IsAnswer : Answer → Type 0) (held held' : Option (List ℕ)) (faults faults' status : ℕ) : Type 0 where
  pub all : status ≡ 0 → (text : List ℕ) × IsAnswer (Ok text) × Appends held held' text
  pub front : status ≡ 3 → (text : List ℕ) × IsAnswer (Ok text) × Stopped held held' text
  pub line : (status ≡ 0 → ⊥) → (status ≡ 3 → ⊥) → (refusal : Refusal) × (refusal_status refusal ≡ status) × IsAnswer (Err refusal) × Tells held held' faults faults' refusal

-- so of each way in which the commands without threads end
abbrev pub SinkHolds : Type 0
SinkHolds = (words : List (List ℕ)) (given : List ℕ) (left held held' : Option (List ℕ)) (faults faults' status : ℕ)
    → Ends words given left held held' faults faults' status → HoldsAt (Answers words given left) held held' faults faults' status

-- and of each way in which the whole program ends
abbrev pub MainSinkHolds : Type 0
MainSinkHolds = (words : List (List ℕ)) (given : List ℕ) (left held held' : Option (List ℕ)) (faults faults' status : ℕ)
    → MainEnds words given left held held' faults faults' status → HoldsAt (MainAnswers words given left) held held' faults faults' status
