use Rattle.un_check.proofs.ReceivingSteps.{opened_follows, gave_follows}
use Rattle.un_check.proofs.laws_receiving.receiving_follows.Goals as goal

pub returns-clause-opened : goal.returns-clause-opened
returns-clause-opened c = opened_follows

pub returns-clause-gave : goal.returns-clause-gave
returns-clause-gave c = gave_follows
