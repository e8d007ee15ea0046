use Rattle.un_frame.proofs.FrameLemmas.{form_is_short}
use Rattle.un_frame.proofs.laws.forms_are_short.Goals as goal

pub returns : goal.returns
returns c = form_is_short
