use Rattle.un_wire.proofs.CountLemmas.{frames_are_few}
use Rattle.un_wire.proofs.laws.frames_are_few.Goals as goal

pub returns : goal.returns
returns c = frames_are_few
