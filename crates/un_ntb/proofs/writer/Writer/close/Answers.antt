use Rattle.std.proofs.Common.{List, ℕ, ap, ◌∙◌}
use Rattle.un_ntb.specs.Formats.{format_of}
use Rattle.un_ntb.proofs.FormatLemmas.{format_small, format_writable}
use Rattle.un_ntb.proofs.WriterLemmas.{reaches, closed, empty_writer}
use Rattle.un_ntb.proofs.writer.Writer.close.Goals as goal

pub close_block-requires-clause-end : goal.close_block-requires-clause-end
close_block-requires-clause-end g c =
    let o = rw (← c.self.view_is) at c.requires.left in
    reaches (format_of g.row.WIDTH) (format_writable g.row.WIDTH) (format_small g.row.WIDTH) g.row.WIDTH c.self.inside c.self.invariant c.args.request.now.bytes o.0 o.1

pub invariant_of-self : goal.invariant_of-self
invariant_of-self g c =
    let i = c.self.invariant in
    empty_writer (format_of g.row.WIDTH) _ (format_small g.row.WIDTH) i.divisor i.remainder i.alignment i.block c.clear.ensures.items c.header.ensures.value (rw c.clear.ensures.capacity i.room)

pub returns-clause-request : goal.returns-clause-request
returns-clause-request g c =
    λ frames o. let whole = closed (format_of g.row.WIDTH) (format_writable g.row.WIDTH) (format_small g.row.WIDTH) g.row.WIDTH c.self.inside c.self.invariant c.args.request.now.bytes frames c.args.serial (rw (← c.self.view_is) at o) in
    rw (← c.self.view_is) (rw (c.align-table.ensures.place, c.deref.ensures.value) at c.close_block.ensures ∙ ap (λ (bytes : List ℕ). record c.args.request.now { bytes = bytes }) whole)
