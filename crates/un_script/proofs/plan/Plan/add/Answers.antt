use Rattle.std.proofs.Common.{◌≡◌, false, refl}
use Rattle.un_frame.specs.declared.kinds.Planned.TheVariants.{Clean}
use Rattle.un_frame.specs.declared.params.Lane.TheVariants.{Outward, Inward}
use Rattle.un_frame.specs.Lanes.{same_lane}
use Rattle.un_journal.specs.Script.{planned_in}
use Rattle.un_script.proofs.Plans.{mine_after, other_after, all_after}
use Rattle.un_script.proofs.plan.Plan.add.Goals as goal

pub invariant_of-self : goal.invariant_of-self
invariant_of-self c =
    let e = c.insert.ensures in
    let asked = rw (← c.self.view_is) at c.requires.free in
    let none : planned_in c.self.inside.faults.items Outward c.args.fault.serial ≡ Clean = rw c.in-Outward.is at asked in
    let apart : same_lane c.args.fault.lane Inward ≡ false = rw c.in-Outward.is refl in (
      mine_after c.insert.result _ _ c.args.fault Outward c.self.inside.outward c.insert.new.map c.in-Outward.is c.self.invariant.2 none c.self.invariant.0 e.list e.map e.list_stays e.map_stays,
      other_after c.insert.result _ _ c.args.fault Inward c.self.inside.inward apart c.self.invariant.1 e.list e.list_stays,
      all_after c.insert.result _ _ c.args.fault c.self.invariant.2 c.requires.planned e.list e.list_stays,
    )

pub invariant_of-self-in-Inward : goal.invariant_of-self-in-Inward
invariant_of-self-in-Inward c =
    let e = c.insert-in-Inward.ensures in
    let asked = rw (← c.self.view_is) at c.requires.free in
    let none : planned_in c.self.inside.faults.items Inward c.args.fault.serial ≡ Clean = rw c.in-Inward.is at asked in
    let apart : same_lane c.args.fault.lane Outward ≡ false = rw c.in-Inward.is refl in (
      other_after c.insert-in-Inward.result _ _ c.args.fault Outward c.self.inside.outward apart c.self.invariant.0 e.list e.list_stays,
      mine_after c.insert-in-Inward.result _ _ c.args.fault Inward c.self.inside.inward c.insert-in-Inward.new.map c.in-Inward.is c.self.invariant.2 none c.self.invariant.1 e.list e.map e.list_stays e.map_stays,
      all_after c.insert-in-Inward.result _ _ c.args.fault c.self.invariant.2 c.requires.planned e.list e.list_stays,
    )
