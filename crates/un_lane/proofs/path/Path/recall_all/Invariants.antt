use Rattle.std.proofs.Common.{length}
use Rattle.un_lane.specs.Controls.{posted_lines}
use Rattle.un_lane.specs.Controls.{Stays}
use Rattle.un_lane.proofs.Looping.{WritesSome}
use Rattle.un_lane.proofs.path.Path.recall_all.Given as goal

abbrev pub invariant-loop : goal.invariant-loop
invariant-loop g l = WritesSome posted_lines Stays l.fn.self l.self l.fn.journal l.journal

abbrev pub decreases-loop : goal.decreases-loop
decreases-loop g l = length (posted_lines l.self)
