use Rattle.un_frame.proofs.FrameLemmas.{open_begins, open_grows}
use Rattle.un_frame.proofs.PartLemmas.{open_frames_found}
use Rattle.un_frame.proofs.laws.open_transfers.Goals as goal

pub returns : goal.returns
returns c = record { begins = open_begins; grows = open_grows; found = open_frames_found }
