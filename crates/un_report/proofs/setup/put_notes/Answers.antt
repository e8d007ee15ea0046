use Rattle.std.proofs.Common.{arith}
use Rattle.un_text.proofs.Putting.{puts_line, puts_lines, puts_none}
use Rattle.un_report.specs.Report.{notify_line}
use Rattle.un_report.proofs.Parts.{item_at}
use Rattle.un_report.proofs.setup.put_notes.Goals as goal

pub loop-note-init : goal.loop-note-init
loop-note-init g c = puts_none _ _ _

pub loop-note-preserved : goal.loop-note-preserved
loop-note-preserved g c =
    puts_line notify_line c.args.notes.now c.loop-note.note-index _ _ _ _ _ _ _ _ _ _ (item_at c.args.notes.now c.loop-note.note-index _ (omega arith) c.note-item.is) c.loop-note.invariant (rw c.as_slice.ensures at c.put_note.ensures)

pub returns : goal.returns
returns g c = puts_lines notify_line c.args.notes.now c.loop-note.note-index _ _ _ _ _ _ (omega arith) c.loop-note.invariant
