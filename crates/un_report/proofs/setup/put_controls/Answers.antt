use Rattle.std.proofs.Common.{arith}
use Rattle.un_text.proofs.Putting.{puts_line, puts_lines, puts_none}
use Rattle.un_report.specs.Report.{control_line}
use Rattle.un_report.proofs.Parts.{item_at}
use Rattle.un_report.proofs.setup.put_controls.Goals as goal

pub loop-exchange-init : goal.loop-exchange-init
loop-exchange-init g c = puts_none _ _ _

pub loop-exchange-preserved : goal.loop-exchange-preserved
loop-exchange-preserved g c =
    puts_line control_line c.args.exchanges.now c.loop-exchange.exchange-index _ _ _ _ _ _ _ _ _ _ (item_at c.args.exchanges.now c.loop-exchange.exchange-index _ (omega arith) c.exchange-item.is) c.loop-exchange.invariant c.put_control.ensures

pub returns : goal.returns
returns g c = puts_lines control_line c.args.exchanges.now c.loop-exchange.exchange-index _ _ _ _ _ _ (omega arith) c.loop-exchange.invariant
