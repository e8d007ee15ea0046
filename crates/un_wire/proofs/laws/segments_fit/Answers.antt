use Rattle.un_frame.proofs.FrameLemmas.{segment_fits}
use Rattle.un_wire.proofs.laws.segments_fit.Goals as goal

pub returns : goal.returns
returns c = segment_fits
