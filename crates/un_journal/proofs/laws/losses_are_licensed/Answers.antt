use Rattle.un_journal.proofs.Bytes.Spelled.{licensed_at}
use Rattle.un_journal.proofs.laws.losses_are_licensed.Goals as goal

pub returns : goal.returns
returns c = licensed_at
