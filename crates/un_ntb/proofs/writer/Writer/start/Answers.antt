use Rattle.un_ntb.specs.Formats.{format_of}
use Rattle.un_ntb.proofs.FormatLemmas.{format_small}
use Rattle.un_ntb.proofs.WriterLemmas.{empty_writer}
use Rattle.un_ntb.proofs.writer.Writer.start.Goals as goal

pub invariant_of-self : goal.invariant_of-self
invariant_of-self g c =
    let i = c.self.invariant in
    empty_writer (format_of g.row.WIDTH) _ (format_small g.row.WIDTH) i.divisor i.remainder i.alignment i.block c.clear.ensures.items c.header.ensures.value (rw c.clear.ensures.capacity i.room)
