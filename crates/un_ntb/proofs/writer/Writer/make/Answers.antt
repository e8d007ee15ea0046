use Rattle.std.proofs.Common.{◌∙◌, arith}
use Rattle.un_ntb.specs.Formats.{format_of}
use Rattle.un_ntb.proofs.FormatLemmas.{format_small, most_block-class}
use Rattle.un_ntb.proofs.WriterLemmas.{empty_writer}
use Rattle.un_ntb.proofs.writer.Writer.make.Goals as goal

pub invariant_of-result : goal.invariant_of-result
invariant_of-result g c =
    let most = most_block-class g.row.WIDTH in
    let block = c.requires.block.1 in
    let room = c.in_ok-datagrams.ensures.exact in
    empty_writer (format_of g.row.WIDTH) _ (format_small g.row.WIDTH) c.requires.divisor c.requires.remainder c.requires.alignment (c.requires.block.0, omega (arith, most, block))
    c.in_ok-datagrams.ensures.items c.header.ensures.value (room ∙ c.most_datagrams.ensures)
