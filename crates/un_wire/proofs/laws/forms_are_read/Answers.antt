use Rattle.un_frame.proofs.WireLemmas.{form_is_read}
use Rattle.un_wire.proofs.laws.forms_are_read.Goals as goal

pub returns : goal.returns
returns c = form_is_read
