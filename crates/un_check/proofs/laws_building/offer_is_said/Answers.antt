use Rattle.un_check.proofs.BuildingSteps.{offer_says, offer_goes}
use Rattle.un_check.proofs.laws_building.offer_is_said.Goals as goal

pub returns-clause-said : goal.returns-clause-said
returns-clause-said c = λ script lane sender home g b frame w head at_home. offer_says script lane sender home g b frame w head at_home

pub returns-clause-goes_on : goal.returns-clause-goes_on
returns-clause-goes_on c = offer_goes
