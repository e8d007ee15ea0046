use Rattle.un_check.proofs.BuildingKept.{begins, kept, claimed}
use Rattle.un_check.proofs.laws_building.building_is_kept.Goals as goal

pub returns-clause-nothing : goal.returns-clause-nothing
returns-clause-nothing c = begins

pub returns-clause-line : goal.returns-clause-line
returns-clause-line c = kept

pub returns-clause-claim : goal.returns-clause-claim
returns-clause-claim c = claimed
