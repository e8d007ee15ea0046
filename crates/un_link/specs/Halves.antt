-- A lane's half of a link, and what it does with what both lanes share.
use Rattle.std.specs.Prelude.{◌≡◌, Option, Some, None, reverse}
use Rattle.un_frame.specs.declared.params.Lane.{Lane}
use Rattle.un_frame.specs.Params.{AreInRange}
use Rattle.un_journal.specs.declared.actions.Action.{Action}
use Rattle.un_journal.specs.declared.actions.Answer.{Answer}
use Rattle.un_journal.specs.History.{past}
use Rattle.un_journal.specs.Lookup.{phase_of, controls_done}
use Rattle.un_journal.specs.LaneSteps.{lines_in, answer_in}
use Rattle.un_journal.specs.Step.{Work, work}
use Rattle.un_lane.specs.Way.{HasRoom, Adds}
use Rattle.un_lane.specs.Answered.{UnlessDid}
use Rattle.un_link.specs.declared.half.Half.{Half}
use Rattle.un_link.specs.declared.shared.Shared.{Shared}
use Rattle.un_script.specs.Cursors.{AreRead}
use Rattle.un_link.specs.Keeps.{Keeps}

-- the half keeps what the lane's lines say, and the shared phase and number of controls are the history's
pub record HalfKeeps {T R : Type 0} (shared : Shared) (half : Half T R) : Type 0 where
  pub in_range : AreInRange shared.script.params
  pub keeps : Keeps shared.script shared.phase half.path (past half.path.lane shared.journal.history)
  pub read_is : AreRead half.read (past half.path.lane shared.journal.history)
  pub phase_is : shared.phase ≡ phase_of shared.script shared.journal.history
  pub next_control_is : shared.next_control ≡ controls_done (reverse shared.journal.history)

-- and there is room for the lines of this work
pub record Ready {T R : Type 0} (w : Work) (shared : Shared) (half : Half T R) : Type 0 where
  pub kept : HalfKeeps shared half
  pub room : HasRoom shared.journal (lines_in (work shared.script shared.journal.history w))

-- the half writes the lines of a work and keeps what it kept; of what is shared only the history changes
pub record Goes {T R : Type 0} (w : Work) (shared shared' : Shared) (half half' : Half T R) : Type 0 where
  pub shares : shared' ≡ record shared { journal = shared'.journal }
  pub adds : Adds shared.journal shared'.journal (lines_in (work shared.script shared.journal.history w))
  pub lane_is : half'.path.lane ≡ half.path.lane
  pub keeps : Keeps shared.script shared.phase half'.path (past half'.path.lane shared'.journal.history)
  pub read_is : AreRead half'.read (past half.path.lane shared'.journal.history)

-- it also answers as the work says, no flight comes or goes, and a refusal changes nothing
pub record Does {T R : Type 0} (w : Work) (shared shared' : Shared) (half half' : Half T R) (answer : Answer) : Type 0 where
  pub goes : Goes w shared shared' half half'
  pub answers : answer ≡ answer_in (work shared.script shared.journal.history w)
  pub flight_is : half'.path.bus.flight ≡ half.path.bus.flight
  pub unchanged : UnlessDid answer ((half' ≡ half) × (shared' ≡ shared))

-- the lane of an action that one lane does alone, and this lane's work that it is
abbrev pub acts_on : Action → Option Lane
acts_on (Action.Offer lane sender) = Some lane
acts_on (Action.Tick lane) = Some lane
acts_on (Action.TxDone lane) = Some lane
acts_on (Action.RxDone lane) = Some lane
acts_on (Action.Deliver lane) = Some lane
acts_on (Action.Refill lane) = Some lane
acts_on (Action.Unlink lane) = Some lane
acts_on (Action.ClearHalt lane) = Some lane
acts_on action = None

abbrev pub work_of : Lane → Action → Work
work_of lane (Action.Offer l sender) = Work.Offer lane sender
work_of lane (Action.Tick l) = Work.Tick lane
work_of lane (Action.TxDone l) = Work.TxDone lane
work_of lane (Action.RxDone l) = Work.RxDone lane
work_of lane (Action.Deliver l) = Work.Deliver lane
work_of lane (Action.Refill l) = Work.Refill lane
work_of lane (Action.Unlink l) = Work.Unlink lane
work_of lane (Action.ClearHalt l) = Work.ClearHalt lane
work_of lane action = Work.Settle
