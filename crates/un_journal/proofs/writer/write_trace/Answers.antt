use Rattle.std.proofs.Common.{add-one, arith}
use Rattle.un_text.proofs.Putting.{puts_then, puts_end, puts_as, whole_written, whole_stopped}
use Rattle.un_journal.proofs.Text.LineParts.{so_far_more, so_far_all}
use Rattle.un_journal.proofs.writer.write_trace.Goals as goal

pub loop-index-preserved : goal.loop-index-preserved
loop-index-preserved g c =
    rw add-one (puts_as _ _ _ _ _ _ _ _ (so_far_more c.args.journal.now.history c.loop-index.index _ c.entry-line.ensures) (puts_then _ _ _ _ _ _ _ _ _ _ _ c.loop-index.invariant c.put_entry.ensures))

pub returns-clause-written : goal.returns-clause-written
returns-clause-written g c =
    whole_written _ _ _ _ _ _ _ c.finish.ensures.empty c.finish.ensures.answer
    (puts_as _ _ _ _ _ _ _ _ (so_far_all c.args.journal.now.history c.loop-index.index (omega arith)) (puts_then _ _ _ _ _ _ _ _ _ _ _ c.loop-index.invariant (puts_end _ _ _ _ _ _ _ _ _ _ c.put-2.ensures c.finish.ensures.put)))

pub returns-clause-stopped : goal.returns-clause-stopped
returns-clause-stopped g c =
    whole_stopped _ _ _ _ _ _ _ c.finish.ensures.answer
    (puts_as _ _ _ _ _ _ _ _ (so_far_all c.args.journal.now.history c.loop-index.index (omega arith)) (puts_then _ _ _ _ _ _ _ _ _ _ _ c.loop-index.invariant (puts_end _ _ _ _ _ _ _ _ _ _ c.put-2.ensures c.finish.ensures.put)))
