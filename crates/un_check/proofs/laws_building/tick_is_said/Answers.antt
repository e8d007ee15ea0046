use Rattle.un_check.proofs.BuildingSteps.{tick_says}
use Rattle.un_check.proofs.laws_building.tick_is_said.Goals as goal

pub returns-clause-said : goal.returns-clause-said
returns-clause-said c = tick_says
