use Rattle.un_frame.proofs.PartLemmas.{open_frames_found}
use Rattle.un_wire.proofs.laws.open_transfers.Goals as goal

pub returns-clause-found : goal.returns-clause-found
returns-clause-found c = open_frames_found
