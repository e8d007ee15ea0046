use Rattle.un_check.proofs.HalfGoesOn.{said_goes, offer_goes}
use Rattle.un_check.proofs.laws_half.said_goes_on.Goals as goal

pub returns : goal.returns
returns c = record { first = said_goes; second = offer_goes }
