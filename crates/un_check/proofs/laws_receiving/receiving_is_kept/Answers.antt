use Rattle.un_check.proofs.ReceivingKept.{kept}
use Rattle.un_check.proofs.laws_receiving.receiving_is_kept.Goals as goal

pub returns-clause-line : goal.returns-clause-line
returns-clause-line c = kept
