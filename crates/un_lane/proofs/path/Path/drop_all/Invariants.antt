use Rattle.std.proofs.Common.{length}
use Rattle.un_lane.specs.Controls.{LeavesBus, deferred_lines}
use Rattle.un_lane.proofs.Looping.{WritesSome}
use Rattle.un_lane.proofs.path.Path.drop_all.Given as goal

abbrev pub invariant-loop : goal.invariant-loop
invariant-loop g l = WritesSome (deferred_lines l.cause) LeavesBus l.fn.self l.self l.fn.journal l.journal

abbrev pub decreases-loop : goal.decreases-loop
decreases-loop g l = length (deferred_lines l.cause l.self)
