use Rattle.un_transmit.proofs.transmitter.LaneTxTxEnd.can_offer.Goals as goal

pub returns : goal.returns
returns g c = rw (← c.self.view_is) c.can_offer.ensures
