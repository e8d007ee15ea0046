use Rattle.std.proofs.Common.{◌∷◌, ◌+◌, ◌-◌, sym, ap, ◌∙◌, arith}
use Rattle.un_frame.specs.Bytes.{Place}
use Rattle.un_frame.specs.Ntb.{block_of}
use Rattle.un_frame.proofs.NtbCursorLemmas.{IsCursor_next, left_next}
use Rattle.un_ntb.specs.Cursor.{left}
use Rattle.un_ntb.specs.Formats.{format_of}
use Rattle.un_ntb.proofs.walk.span_at.Goals as goal

pub span_of-requires-clause-inside : goal.span_of-requires-clause-inside
span_of-requires-clause-inside g c =
    let at = c.args.cursor in
    rw c.block.ensures.block (IsCursor_next (format_of g.row.WIDTH) (block_of (format_of g.row.WIDTH) c.args.bytes.now) at.pair at.pairs at.table at.tables (at.pairs - 1) c.requires.inside (omega arith) (c.requires.datagram (omega arith))).0

pub returns-clause-span : goal.returns-clause-span
returns-clause-span g c =
    let at = c.args.cursor in
    let block = block_of (format_of g.row.WIDTH) c.args.bytes.now in
    let rest = left (format_of g.row.WIDTH) block (record at { pair = at.pair + (format_of g.row.WIDTH).pair; pairs = at.pairs - 1 }) in
    let here = rw c.block.ensures.block at c.span_of.ensures.place in
    (rest, left_next (format_of g.row.WIDTH) block at.pair at.pairs at.table at.tables (at.pairs - 1) (omega arith) (c.requires.datagram (omega arith)) ∙ ap (λ (place : Place). place ∷ rest) (sym here))
