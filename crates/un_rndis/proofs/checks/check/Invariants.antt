use Rattle.std.proofs.Common.{◌≡◌, ◌≤◌, ◌-◌, length}
use Rattle.un_frame.specs.Rndis.{rndis_fault}
use Rattle.un_rndis.specs.Walk.{fault_from}
use Rattle.un_rndis.proofs.checks.check.Given as goal

abbrev pub invariant-loop-at : goal.invariant-loop-at
invariant-loop-at l = record { within : l.at ≤ length l.bytes; same : fault_from l.bytes l.at ≡ rndis_fault l.fn.bytes }

abbrev pub decreases-loop-at : goal.decreases-loop-at
decreases-loop-at l = length l.bytes - l.at
