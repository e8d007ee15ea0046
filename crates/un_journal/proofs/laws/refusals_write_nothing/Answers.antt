use Rattle.un_journal.proofs.Steps.StayLegal.{refused}
use Rattle.un_journal.proofs.laws.refusals_write_nothing.Goals as goal

pub returns : goal.returns
returns c = refused
