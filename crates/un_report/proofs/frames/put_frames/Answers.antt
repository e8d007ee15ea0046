use Rattle.std.proofs.Common.{arith}
use Rattle.un_text.proofs.Putting.{puts_line, puts_lines, puts_none}
use Rattle.un_report.specs.Report.{frame_line}
use Rattle.un_report.proofs.frames.put_frames.Goals as goal

pub loop-index-init : goal.loop-index-init
loop-index-init g c = puts_none _ _ _

pub loop-index-preserved : goal.loop-index-preserved
loop-index-preserved g c =
    puts_line (frame_line c.args.lane) c.args.journal.now.history c.loop-index.index _ _ _ _ _ _ _ _ _ _ c.entry-line.ensures c.loop-index.invariant c.put_given.ensures

pub returns : goal.returns
returns g c = puts_lines (frame_line c.args.lane) c.args.journal.now.history c.loop-index.index _ _ _ _ _ _ (omega arith) c.loop-index.invariant
