use Rattle.std.proofs.Common.{length}
use Rattle.un_desc.proofs.WalkLemmas.{HasChecked}
use Rattle.un_desc.proofs.walk.check.Given as goal

abbrev pub invariant-loop-rest : goal.invariant-loop-rest
invariant-loop-rest l = HasChecked l.fn.bytes l.at l.rest

abbrev pub decreases-loop-rest : goal.decreases-loop-rest
decreases-loop-rest l = length l.rest
