use Rattle.std.proofs.Common.{◌≡◌}
use Rattle.un_journal.specs.Script.{frame_count}
use Rattle.un_script.specs.Load.{load_script}
use Rattle.un_script.proofs.load.generate.Given as goal

abbrev pub invariant-loop-number : goal.invariant-loop-number
invariant-loop-number l = record {
  script : l.script ≡ load_script l.number;
  count : frame_count l.script ≡ l.number;
}
