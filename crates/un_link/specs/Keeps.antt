-- What holds of the path of one lane of a link.
use Rattle.std.specs.Prelude.{◌≡◌}
use Rattle.un_frame.specs.declared.kinds.Phase.{Phase}
use Rattle.un_journal.specs.Script.{Script}
use Rattle.un_journal.specs.History.{History}
use Rattle.un_journal.specs.Lookup.{is_asleep, built_frames}
use Rattle.un_lane.specs.Way.{Way}
use Rattle.un_lane.specs.Stands.{Stands}
use Rattle.un_lane.specs.Phases.{Agrees}

-- the path stands for the lane's lines, the newest first; it has the script's parameters, agrees with the phase, and what it has built are the script's frames
pub record Keeps (script : Script) (phase : Phase) (way : Way) (g : History) : Type 0 where
  pub params_are : way.tx.params ≡ script.params
  pub stands : Stands way g
  pub agrees : Agrees (is_asleep phase) way
  pub frames_are : way.tx.builder.frames ≡ built_frames script way.lane g
