use Rattle.un_journal.proofs.Text.LineParts.{so_far}
use Rattle.un_text.specs.Puts.{Puts, blank}
use Rattle.un_journal.proofs.writer.write_trace.Given as goal

abbrev pub invariant-loop-index : goal.invariant-loop-index
invariant-loop-index g l = Puts (g.O.Sink.held l.fn.out) (g.O.Sink.faults l.fn.out) blank (g.O.Sink.held l.out) (g.O.Sink.faults l.out) l.page (so_far l.journal.history l.index)
