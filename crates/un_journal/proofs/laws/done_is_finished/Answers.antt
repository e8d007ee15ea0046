use Rattle.un_journal.proofs.Finish.Finished.{done_finished}
use Rattle.un_journal.proofs.Bounds.Parameters.{have_pools}
use Rattle.un_journal.proofs.laws.done_is_finished.Goals as goal

pub returns : goal.returns
returns c script h ranges d = done_finished script h (have_pools script.params ranges) d
