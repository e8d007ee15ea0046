use Rattle.std.proofs.Common.{◌+◌, ◌-◌, ap, map, arith}
use Rattle.un_frame.specs.Bytes.{slice_at}
use Rattle.un_frame.specs.Ntb.{block_of}
use Rattle.un_frame.proofs.NtbCursorLemmas.{IsCursor_next, left_next}
use Rattle.un_ntb.specs.Cursor.{left}
use Rattle.un_ntb.specs.Formats.{format_of}
use Rattle.un_ntb.proofs.walk.part_at.Goals as goal

pub datagram-requires-clause-inside : goal.datagram-requires-clause-inside
datagram-requires-clause-inside g c =
    let at = c.args.cursor in
    rw c.block.ensures.block (IsCursor_next (format_of g.row.WIDTH) (block_of (format_of g.row.WIDTH) c.args.bytes.now) at.pair at.pairs at.table at.tables (at.pairs - 1) c.requires.inside (omega arith) (c.requires.datagram (omega arith))).0

pub returns-clause-part : goal.returns-clause-part
returns-clause-part g c =
    let at = c.args.cursor in
    let block = block_of (format_of g.row.WIDTH) c.args.bytes.now in
    (map (slice_at block) (left (format_of g.row.WIDTH) block (record at { pair = at.pair + (format_of g.row.WIDTH).pair; pairs = at.pairs - 1 })), rw (c.datagram.ensures, c.block.ensures.block) (ap (map (slice_at block)) (left_next (format_of g.row.WIDTH) block at.pair at.pairs at.table at.tables (at.pairs - 1) (omega arith) (c.requires.datagram (omega arith)))))
