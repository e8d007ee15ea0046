use Rattle.un_journal.proofs.Steps.OneWay.{line_fixes}
use Rattle.un_journal.proofs.laws.line_fixes_step.Goals as goal

pub returns : goal.returns
returns c = line_fixes
