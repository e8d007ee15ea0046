use Rattle.un_journal.proofs.Bytes.Spelled.{licensed_at}
use Rattle.un_journal.proofs.Finish.NothingLost.{plain_line}
use Rattle.std.specs.Prelude.{reverse}
use Rattle.un_journal.proofs.laws.plain_scripts_lose_nothing.Goals as goal

pub returns : goal.returns
returns c = λ script before after e faults controls legal. plain_line script (reverse before) e faults controls (licensed_at script before after e legal)
