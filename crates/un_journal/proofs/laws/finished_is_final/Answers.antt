use Rattle.un_journal.proofs.Finish.DoneIsFinal.{quiet_done, done_quiet}
use Rattle.un_journal.proofs.Steps.OneWay.{goes_no_further}
use Rattle.un_journal.proofs.Bounds.Parameters.{have_pools}
use Rattle.un_journal.proofs.laws.finished_is_final.Goals as goal

pub returns : goal.returns
returns c = record {
  done = quiet_done;
  quiet = λ script h ranges d. done_quiet script h (have_pools script.params ranges) d;
  last = goes_no_further;
}
