use Rattle.std.proofs.Common.{arith}
use Rattle.un_wire.proofs.WriteLemmas.{block_ncm, remainder_ncm}
use Rattle.un_wire.proofs.ntb.NtbWire.make.Goals as goal

pub make-requires : goal.make-requires
make-requires g c =
    let p = c.args.params.now in
    let range = c.requires.in_range in
    let least = range.alignment.0 in
    let remainder = remainder_ncm g.row.WIDTH p c.requires.class c.requires.agree in
    let block = block_ncm g.row.WIDTH p c.requires.class range.block.1 in
    (omega arith, (range.divisor, (remainder, ((omega (arith, least), range.alignment.1), (range.block.0, block)))))
