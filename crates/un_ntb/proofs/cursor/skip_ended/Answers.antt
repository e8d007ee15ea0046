use Rattle.std.proofs.Common.{◌-◌, sym, ◌∙◌, arith, inl, inr}
use Rattle.un_frame.proofs.NtbCursorLemmas.{left_end, left_null, IsCursor_open, IsCursor_null}
use Rattle.un_ntb.specs.Formats.{format_of}
use Rattle.un_ntb.proofs.cursor.skip_ended.Goals as goal
use Rattle.un_ntb.proofs.cursor.skip_ended.Goals.{then-cursor-eq0-2-via-then-cursor-eq0-2, then-cursor-eq0-2-via-else-cursor-eq0-2+then-cursor-eq0-3}

pub returns-then-cursor-eq0-2-clause-end : goal.returns-then-cursor-eq0-2-clause-end
returns-then-cursor-eq0-2-clause-end g c =
    λ none. left_end (format_of g.row.WIDTH) c.args.block.now c.loop-cursor.cursor.pair c.loop-cursor.cursor.pairs c.loop-cursor.cursor.table c.loop-cursor.cursor.tables none
    (elim c.then-cursor-eq0-2.branch [
      | then-cursor-eq0-2-via-then-cursor-eq0-2 w ↦ inl w.if-cursor-eq0-2.true
      | then-cursor-eq0-2-via-else-cursor-eq0-2+then-cursor-eq0-3 w ↦ inr w.if-cursor-eq0-3.true
    ])

pub open-cursor-requires-clause-table : goal.open-cursor-requires-clause-table
open-cursor-requires-clause-table g c =
    (IsCursor_open (format_of g.row.WIDTH) c.args.block.now c.loop-cursor.cursor.pair c.loop-cursor.cursor.pairs c.loop-cursor.cursor.table c.loop-cursor.cursor.tables (c.loop-cursor.cursor.tables - 1) c.loop-cursor.invariant.sound c.if-cursor-eq0.true c.if-cursor-eq0-2.false (omega arith)).0

pub loop-cursor-preserved : goal.loop-cursor-preserved
loop-cursor-preserved g c =
    let null = sym c.is_null.ensures ∙ c.if-is_null.true in record {
      sound = IsCursor_null (format_of g.row.WIDTH) c.args.block.now c.loop-cursor.cursor.pair c.loop-cursor.cursor.pairs c.loop-cursor.cursor.table c.loop-cursor.cursor.tables c.loop-cursor.invariant.sound (omega arith) null;
      same = sym (left_null (format_of g.row.WIDTH) c.args.block.now c.loop-cursor.cursor.pair c.loop-cursor.cursor.pairs c.loop-cursor.cursor.table c.loop-cursor.cursor.tables (omega arith) null) ∙ c.loop-cursor.invariant.same;
    }
