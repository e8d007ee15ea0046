use Rattle.un_frame.specs.declared.params.Lane.TheVariants.{Outward, Inward}
use Rattle.un_journal.proofs.Theorems.{legal_good}
use Rattle.un_report.proofs.LaneCounts.{phase_step}
use Rattle.un_report.proofs.survey.go_over.Goals as goal

pub count-requires-clause-sound : goal.count-requires-clause-sound
count-requires-clause-sound c = (legal_good c.args.script.now c.args.journal.now.history c.requires.legal).sound Outward

pub count-requires-in-loop-index-clause-sound : goal.count-requires-in-loop-index-clause-sound
count-requires-in-loop-index-clause-sound c = (legal_good c.args.script.now c.args.journal.now.history c.requires.legal).sound Inward

pub loop-index-preserved : goal.loop-index-preserved
loop-index-preserved c = record {
  outward = c.count.ensures;
  inward = c.count-in-loop-index.ensures;
  phase = phase_step c.args.script.now.controls c.args.journal.now.history c.loop-index.index c.line.result c.loop-index.phase c.after_line-phase.result c.line.ensures c.loop-index.invariant.phase c.after_line-phase.ensures;
}
