use Rattle.un_check.proofs.TransferKept.{none_kept, lines_kept}
use Rattle.un_check.proofs.laws_transfers.lines_keep_transfers.Goals as goal

pub returns : goal.returns
returns c = record { none = none_kept; kept = lines_kept }
