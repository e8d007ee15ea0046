use Rattle.un_check.proofs.TransferGoesOn.{take_goes, land_goes, tx_done_goes, unlink_goes, clear_goes, cut_goes, mark_goes}
use Rattle.un_check.proofs.laws_transfers.said_transfers_go_on.Goals as goal

pub returns : goal.returns
returns c = record { take = take_goes; land = land_goes; tx_done = tx_done_goes; unlink = unlink_goes; clear = clear_goes; cut = cut_goes; mark = mark_goes }
