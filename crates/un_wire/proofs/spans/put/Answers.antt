use Rattle.std.proofs.Common.{arith}
use Rattle.un_wire.proofs.SpanLemmas.{put_outside}
use Rattle.un_wire.proofs.spans.put.Goals as goal

pub returns-else-index-spans : goal.returns-else-index-spans
returns-else-index-spans c = let outside = c.if-index-spans.false in put_outside c.args.index c.args.span c.args.spans.now (omega (arith, outside))
