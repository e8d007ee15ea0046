use Rattle.un_text.proofs.Pairing.{SoFar}
use Rattle.un_text.proofs.digits.decode.Given as goal

abbrev pub invariant-loop-index : goal.invariant-loop-index
invariant-loop-index l = SoFar l.good l.digits l.to l.index
