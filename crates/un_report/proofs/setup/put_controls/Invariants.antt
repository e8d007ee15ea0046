use Rattle.std.proofs.Common.{take}
use Rattle.std.specs.List.{flat_map}
use Rattle.un_text.specs.Puts.{Puts}
use Rattle.un_report.specs.Report.{control_line}
use Rattle.un_report.proofs.setup.put_controls.Given as goal

abbrev pub invariant-loop-exchange : goal.invariant-loop-exchange
invariant-loop-exchange g l = Puts (g.O.Sink.held l.fn.out) (g.O.Sink.faults l.fn.out) l.fn.page (g.O.Sink.held l.out) (g.O.Sink.faults l.out) l.page (flat_map control_line (take l.exchange-index l.exchanges))
