use Rattle.std.proofs.Common.{arith}
use Rattle.hex.specs.Hex.{lower_digits}
use Rattle.hex.proofs.Pairs.{encode_step, encode_done}
use Rattle.un_text.proofs.digits.encode.Goals as goal

pub loop-index-preserved : goal.loop-index-preserved
loop-index-preserved c =
    encode_step lower_digits c.args.from.now c.loop-index.to c.loop-index.index _ _ (omega arith) (omega arith) c.digit.ensures c.digit-in-loop-index.ensures c.loop-index.invariant

pub returns : goal.returns
returns c = encode_done lower_digits c.args.from.now c.loop-index.to c.loop-index.index (omega arith) (omega arith) c.loop-index.invariant
