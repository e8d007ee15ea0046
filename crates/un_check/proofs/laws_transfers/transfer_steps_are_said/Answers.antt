use Rattle.un_check.proofs.TransferSteps.{take_said, land_said, tx_done_said, unlink_said, clear_said}
use Rattle.un_check.proofs.laws_transfers.transfer_steps_are_said.Goals as goal

pub returns : goal.returns
returns c = record { take = take_said; land = land_said; tx_done = tx_done_said; unlink = unlink_said; clear = clear_said }
