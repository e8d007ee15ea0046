use Rattle.un_frame.proofs.PartLemmas.{parts_are_frames}
use Rattle.un_frame.proofs.laws.parts_are_frames.Goals as goal

pub returns : goal.returns
returns c = parts_are_frames
