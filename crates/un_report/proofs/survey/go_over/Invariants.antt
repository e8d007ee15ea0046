use Rattle.std.proofs.Common.{◌≡◌, take, reverse}
use Rattle.un_frame.specs.declared.params.Lane.TheVariants.{Outward, Inward}
use Rattle.un_journal.specs.Lookup.{phase_after}
use Rattle.un_report.specs.Steps.{IsLaneCount}
use Rattle.un_report.proofs.survey.go_over.Given as goal

abbrev pub invariant-loop-index : goal.invariant-loop-index
invariant-loop-index l = record {
  outward : IsLaneCount l.packet Outward l.journal.history l.index l.outward;
  inward : IsLaneCount l.packet Inward l.journal.history l.index l.inward;
  phase : l.phase ≡ phase_after l.script.controls (reverse (take l.index l.journal.history));
}
