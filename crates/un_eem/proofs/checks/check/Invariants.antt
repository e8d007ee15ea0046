use Rattle.std.proofs.Common.{◌≡◌, ◌≤◌, ◌-◌, length}
use Rattle.un_frame.specs.Eem.{eem_fault}
use Rattle.un_eem.specs.Walk.{fault_from}
use Rattle.un_eem.proofs.checks.check.Given as goal

abbrev pub invariant-loop-at : goal.invariant-loop-at
invariant-loop-at l = record { within : l.at ≤ length l.bytes; same : fault_from l.bytes l.at ≡ eem_fault l.fn.bytes }

abbrev pub decreases-loop-at : goal.decreases-loop-at
decreases-loop-at l = length l.bytes - l.at
