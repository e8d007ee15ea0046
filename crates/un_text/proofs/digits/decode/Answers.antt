use Rattle.std.proofs.Common.{arith, subst, ◌*◌, ◌%◌, ◌+◌, slice_set, Bool, sym}
use Rattle.un_text.proofs.Pairing.{SoFar, two_more, all_decoded}
use Rattle.un_text.proofs.digits.decode.Goals as goal

pub loop-index-preserved : goal.loop-index-preserved
loop-index-preserved c =
    subst (λ (good : Bool). SoFar good c.args.digits.now (slice_set c.loop-index.to c.loop-index.index (c.value-high.result % 16 * 16 + c.value-low.result % 16)) (c.loop-index.index + 1)) (sym c.are_digits-good.ensures)
    (two_more c.loop-index.good c.args.digits.now c.loop-index.to c.loop-index.index c.value-high.result c.value-low.result (omega arith) (omega arith) c.value-high.ensures c.value-low.ensures c.loop-index.invariant)

pub returns-clause-decoded : goal.returns-clause-decoded
returns-clause-decoded c = all_decoded c.loop-index.good c.args.digits.now c.loop-index.to c.loop-index.index (omega arith) (omega arith) c.loop-index.invariant
