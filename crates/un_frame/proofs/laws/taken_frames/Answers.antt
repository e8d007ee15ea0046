use Rattle.un_frame.proofs.FrameLemmas.{taken_has_length}
use Rattle.un_frame.proofs.laws.taken_frames.Goals as goal

pub returns : goal.returns
returns c = taken_has_length
