use Rattle.std.proofs.Common.{◌≡◌, ◌+◌, ◌*◌, min}
use Rattle.un_ntb.specs.Cursor.{IsIn, left}
use Rattle.un_ntb.specs.Formats.{format_of}
use Rattle.un_ntb.proofs.cursor.skip_ended.Given as goal

-- what is left stays the same
abbrev pub invariant-loop-cursor : goal.invariant-loop-cursor
invariant-loop-cursor g l = record {
  sound : IsIn (format_of g.row.WIDTH) l.block l.cursor;
  same : left (format_of g.row.WIDTH) l.block l.cursor ≡ left (format_of g.row.WIDTH) l.fn.block l.fn.cursor;
}

abbrev pub decreases-loop-cursor : goal.decreases-loop-cursor
decreases-loop-cursor g l = 2 * l.cursor.tables + min 1 l.cursor.pairs
