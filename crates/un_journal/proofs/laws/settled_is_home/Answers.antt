use Rattle.un_journal.proofs.Bytes.Spelled.{settled_at}
use Rattle.un_journal.proofs.laws.settled_is_home.Goals as goal

pub returns : goal.returns
returns c = settled_at
