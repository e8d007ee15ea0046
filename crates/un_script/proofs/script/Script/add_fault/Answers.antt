use Rattle.un_script.proofs.Readiness.{fault_ready}
use Rattle.un_script.proofs.script.Script.add_fault.Goals as goal

pub invariant_of-self-2 : goal.invariant_of-self-2
invariant_of-self-2 c =
    let inv = c.self.invariant in
    let room = rw (← c.self.view_is) at c.requires.room in
    let free = rw (← c.self.view_is) at c.requires.first in
    rw c.in_ok-add.ensures.ok (inv.0, inv.1, fault_ready _ (record { lane = c.args.lane; serial = c.args.serial; planned = c.args.planned }) inv.2 c.requires.serial c.requires.fault room free)
