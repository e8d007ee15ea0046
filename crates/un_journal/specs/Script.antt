-- A script as plain data: the parameters of a link, what its senders offer, and what is done to it.
use Rattle.std.specs.Prelude.{ℕ, ◌+◌, length, ◌&&◌, ◌==◌, List, [], ◌∷◌, unwrap_or, slice_get, if◌then◌else◌}
use Rattle.un_frame.specs.declared.params.Lane.{Lane}
use Rattle.un_frame.specs.declared.params.Lane.TheVariants.{Outward, Inward}
use Rattle.un_frame.specs.declared.kinds.Planned.{Planned}
use Rattle.un_frame.specs.declared.kinds.Planned.TheVariants.{Clean}
use Rattle.un_frame.specs.declared.params.Params.{Params}
use Rattle.un_frame.specs.Lanes.{same_lane}
use Rattle.un_journal.specs.declared.controls.Due.{Due}
use Rattle.un_journal.specs.declared.controls.PlannedFault.{PlannedFault}

abbrev pub Frame : Type 0
Frame = List ℕ

-- the frames of the four senders of a lane
pub record Feeds : Type 0 where
  pub first : List Frame
  pub second : List Frame
  pub third : List Frame
  pub fourth : List Frame

-- the parameters, each lane's feeds, the controls and the fault plan
pub record Script : Type 0 where
  pub params : Params
  pub outward : Feeds
  pub inward : Feeds
  pub controls : List Due
  pub faults : List PlannedFault

-- the feeds of a lane, by sender from 0 on
abbrev pub feed_list : Feeds → List (List Frame)
feed_list feeds = feeds.first ∷ feeds.second ∷ feeds.third ∷ feeds.fourth ∷ []

abbrev pub feeds_of : Script → Lane → List (List Frame)
feeds_of script Outward = feed_list script.outward
feeds_of script Inward = feed_list script.inward

-- the frames of a sender; there are no senders but 0 to 3
abbrev pub frames_of : Script → Lane → ℕ → List Frame
frames_of script lane sender = unwrap_or (slice_get (feeds_of script lane) sender) []

-- how many frames there are, of a lane and of both
abbrev pub frames_in_all : Feeds → ℕ
frames_in_all feeds = length feeds.first + length feeds.second + length feeds.third + length feeds.fourth

abbrev pub frame_count : Script → ℕ
frame_count script = frames_in_all script.outward + frames_in_all script.inward

abbrev pub planned_in : List PlannedFault → Lane → ℕ → Planned
planned_in [] lane serial = Clean
planned_in (p ∷ ps) lane serial =
    if same_lane p.lane lane && p.serial == serial then p.planned else planned_in ps lane serial

-- what the plan has for a transfer: the first that names its lane and serial
abbrev pub planned : Script → Lane → ℕ → Planned
planned script lane serial = planned_in script.faults lane serial
