use Rattle.std.proofs.Common.{take}
use Rattle.std.specs.List.{flat_map}
use Rattle.un_text.specs.Puts.{Puts}
use Rattle.un_report.specs.Report.{notify_line}
use Rattle.un_report.proofs.setup.put_notes.Given as goal

abbrev pub invariant-loop-note : goal.invariant-loop-note
invariant-loop-note g l = Puts (g.O.Sink.held l.fn.out) (g.O.Sink.faults l.fn.out) l.fn.page (g.O.Sink.held l.out) (g.O.Sink.faults l.out) l.page (flat_map notify_line (take l.note-index l.notes))
