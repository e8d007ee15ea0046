-- What every call of a path that writes needs, and what those do that answer.
use Rattle.std.specs.Prelude.{◌≡◌}
use Rattle.un_journal.specs.declared.actions.Answer.{Answer}
use Rattle.un_journal.specs.History.{History}
use Rattle.un_journal.specs.LaneSteps.{Outcome, lines_in, answer_in}
use Rattle.un_journal.specs.Log.{Log}
use Rattle.un_lane.specs.Way.{Way, Adds, HasRoom, lane_lines}
use Rattle.un_lane.specs.Answered.{IsUnchanged, UnlessDid}
use Rattle.un_lane.specs.Stands.{Stands}

-- the path stands for its lane's lines, and the journal has room for these
pub record Ready (lines : History) (way : Way) (log : Log) : Type 0 where
  pub stands : Stands way (lane_lines way log)
  pub room : HasRoom log lines

-- The call does what the outcome says, its lines and its answer, and leaves the path as `left` says. No flight comes or goes, and a
-- refusal changes nothing.
pub record Does (left : Way → Way → Type 0) (outcome : Outcome) (old new : Way) (log log' : Log) (result : Answer) : Type 0 where
  pub lines : Adds log log' (lines_in outcome)
  pub answer : result ≡ answer_in outcome
  pub stands : Stands new (lane_lines new log')
  pub leaves : left old new
  pub flight : new.bus.flight ≡ old.bus.flight
  pub refused : UnlessDid result (IsUnchanged old new log log')
