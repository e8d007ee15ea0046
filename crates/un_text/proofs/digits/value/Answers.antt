use Rattle.std.proofs.Common.{arith}
use Rattle.un_text.proofs.Pairing.{marked}
use Rattle.un_text.proofs.digits.value.Goals as goal

pub returns : goal.returns
returns c = rw c.from.ensures (marked c.args.c (omega arith))
