use Rattle.std.proofs.Common.{◌-◌, List, sym, ap, ◌∙◌, map, drop, arith}
use Rattle.un_frame.specs.Bytes.{Place, slice_at}
use Rattle.un_frame.specs.Ntb.{block_of}
use Rattle.un_frame.proofs.NtbCursorLemmas.{IsCursor_next, left_next}
use Rattle.un_ntb.specs.Formats.{format_of}
use Rattle.un_ntb.proofs.walk.next.Goals as goal

pub skip_ended-requires : goal.skip_ended-requires
skip_ended-requires g c =
    let at = c.args.cursor in
    rw (c.pair.ensures.value, c.block.ensures.block) (IsCursor_next (format_of g.row.WIDTH) (block_of (format_of g.row.WIDTH) c.args.bytes.now) at.pair at.pairs at.table at.tables (at.pairs - 1) c.requires.inside (omega arith) (c.requires.datagram (omega arith))).1

pub returns-clause-one : goal.returns-clause-one
returns-clause-one g c =
    let at = c.args.cursor in
    let block = block_of (format_of g.row.WIDTH) c.args.bytes.now in
    let same = rw (c.pair.ensures.value, c.block.ensures.block) at c.skip_ended.ensures.same in
    let first = left_next (format_of g.row.WIDTH) block at.pair at.pairs at.table at.tables (at.pairs - 1) (omega arith) (c.requires.datagram (omega arith)) in
    ap (map (slice_at block)) same ∙ sym (ap (λ (places : List Place). drop 1 (map (slice_at block) places)) first)

pub returns-clause-places : goal.returns-clause-places
returns-clause-places g c =
    let at = c.args.cursor in
    let block = block_of (format_of g.row.WIDTH) c.args.bytes.now in
    let same = rw (c.pair.ensures.value, c.block.ensures.block) at c.skip_ended.ensures.same in
    let first = left_next (format_of g.row.WIDTH) block at.pair at.pairs at.table at.tables (at.pairs - 1) (omega arith) (c.requires.datagram (omega arith)) in
    same ∙ sym (ap (λ (places : List Place). drop 1 places) first)
