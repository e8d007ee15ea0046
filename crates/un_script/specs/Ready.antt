-- What each script has.
use Rattle.std.specs.Prelude.{ℕ, ◌≤◌, Bool, ◌&&◌, ◌==◌, List, IsTrue, length, is_some, All, filter}
use Rattle.std.specs.List.{AllByRecursion}
use Rattle.un_frame.specs.declared.params.Lane.{Lane}
use Rattle.un_frame.specs.Lanes.{same_lane}
use Rattle.un_frame.specs.Params.{AreInRange}
use Rattle.un_journal.specs.declared.controls.Due.{Due}
use Rattle.un_journal.specs.declared.controls.PlannedFault.{PlannedFault}
use Rattle.un_journal.specs.Script.{Script, frame_count}
use Rattle.un_script.specs.Table.{MOST_FRAMES, MOST_CONTROLS, MOST_FAULTS, is_want, is_planned_serial}
use Rattle.un_script.specs.Parts.{FeedsHaveBytes, state_of}
use Rattle.un_script.specs.Plan.{PlansFault}

abbrev pub WaitsInRange : Due → Type 0
WaitsInRange due = IsTrue (is_want due.want)

abbrev pub SerialInRange : PlannedFault → Type 0
SerialInRange fault = IsTrue (is_planned_serial fault.serial)

-- how many faults are planned for a transfer
abbrev pub is_planned_for : Lane → ℕ → PlannedFault → Bool
is_planned_for lane serial fault = same_lane fault.lane lane && fault.serial == serial

abbrev pub faults_for : List PlannedFault → Lane → ℕ → ℕ
faults_for faults lane serial = length (filter (is_planned_for lane serial) faults)

-- The parameters are in their ranges, each frame has bytes, each control can follow the earlier ones and waits for a number in its range,
-- each planned fault has a serial in its range and is one, no transfer has two, and there are no more of each than a script may have.
pub record IsReady (script : Script) : Type 0 where
  pub in_range : AreInRange script.params
  pub outward : FeedsHaveBytes script.outward
  pub inward : FeedsHaveBytes script.inward
  pub few : frame_count script ≤ MOST_FRAMES
  pub controls : length script.controls ≤ MOST_CONTROLS
  pub wants : All WaitsInRange script.controls
  pub orderly : IsTrue (is_some (state_of script.controls))
  pub faults : length script.faults ≤ MOST_FAULTS
  pub serials : All SerialInRange script.faults
  pub planned : AllByRecursion PlansFault script.faults
  pub once : (lane : Lane) (serial : ℕ) → faults_for script.faults lane serial ≤ 1
