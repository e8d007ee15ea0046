-- The planned faults of a lane, found by their serials.
use Rattle.std.specs.Prelude.{◌≡◌, ℕ, List, IsTrue, unwrap_or}
use Rattle.std.specs.Ordering.{nat_cmp}
use Rattle.std.specs.BTreeMap.{BTreeMap, get}
use Rattle.un_frame.specs.declared.params.Lane.{Lane}
use Rattle.un_frame.specs.declared.kinds.Planned.{Planned}
use Rattle.un_frame.specs.declared.kinds.Planned.TheVariants.{Clean}
use Rattle.un_journal.specs.declared.controls.PlannedFault.{PlannedFault}
use Rattle.un_journal.specs.Script.{planned_in}
use Rattle.un_script.specs.Table.{is_fault}

-- what is planned is a fault
abbrev pub PlansFault : PlannedFault → Type 0
PlansFault fault = IsTrue (is_fault fault.planned)

-- the map has each fault that is planned for the lane, and no other
abbrev pub Finds : Lane → List PlannedFault → BTreeMap ℕ Planned → Type 0
Finds lane faults map = (serial : ℕ) → unwrap_or (get nat_cmp map serial) Clean ≡ planned_in faults lane serial
