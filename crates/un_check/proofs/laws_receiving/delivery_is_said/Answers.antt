use Rattle.un_check.proofs.ReceivingSteps.{deliver_says}
use Rattle.un_check.proofs.laws_receiving.delivery_is_said.Goals as goal

pub returns-clause-said : goal.returns-clause-said
returns-clause-said c = deliver_says
