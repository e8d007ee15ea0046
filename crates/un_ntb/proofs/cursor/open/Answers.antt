use Rattle.std.proofs.Common.{◌-◌, sym, arith}
use Rattle.un_frame.proofs.NtbCursorLemmas.{left_open, IsCursor_open}
use Rattle.un_ntb.specs.Formats.{format_of}
use Rattle.un_ntb.proofs.cursor.open.Goals as goal

pub returns-clause-sound : goal.returns-clause-sound
returns-clause-sound g c =
    let f = format_of g.row.WIDTH in
    rw (c.head.ensures.value, c.pair_count.ensures, c.short.ensures.value, c.number.ensures.value, c.next_ndp_index.ensures.value) (IsCursor_open f c.args.block.now c.args.cursor.pair c.args.cursor.pairs c.args.cursor.table c.args.cursor.tables (c.args.cursor.tables - 1) c.requires.sound c.requires.none c.requires.some (omega (arith, c.requires.more))).1

pub returns-clause-same : goal.returns-clause-same
returns-clause-same g c =
    let f = format_of g.row.WIDTH in
    rw (c.head.ensures.value, c.pair_count.ensures, c.short.ensures.value, c.number.ensures.value, c.next_ndp_index.ensures.value) (sym (left_open f c.args.block.now c.args.cursor.pair c.args.cursor.pairs c.args.cursor.table c.args.cursor.tables (c.args.cursor.tables - 1) c.requires.none c.requires.some (omega (arith, c.requires.more))))
