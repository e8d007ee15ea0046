use Rattle.un_check.proofs.TransferLookups.{flying_is, waiting_is, queued_is, deferred_is, unmarked_is, returned_is}
use Rattle.un_check.proofs.laws_transfers.transfers_are_looked_up.Goals as goal

pub returns : goal.returns
returns c = record {
  flying = flying_is;
  waiting = waiting_is;
  queued = queued_is;
  deferred = deferred_is;
  unmarked = unmarked_is;
  returned = returned_is;
}
