use Rattle.std.proofs.Common.{take}
use Rattle.std.specs.List.{flat_map}
use Rattle.un_text.specs.Puts.{Puts}
use Rattle.un_report.specs.Report.{frame_line}
use Rattle.un_report.proofs.frames.put_frames.Given as goal

abbrev pub invariant-loop-index : goal.invariant-loop-index
invariant-loop-index g l = Puts (g.O.Sink.held l.fn.out) (g.O.Sink.faults l.fn.out) l.fn.page (g.O.Sink.held l.out) (g.O.Sink.faults l.out) l.page (flat_map (frame_line l.lane) (take l.index l.journal.history))
