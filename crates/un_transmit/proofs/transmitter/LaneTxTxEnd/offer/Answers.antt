use Rattle.un_transmit.proofs.TxLemmas.{fits, offered}
use Rattle.un_transmit.proofs.transmitter.LaneTxTxEnd.offer.Goals as goal

pub offer-requires-clause-fits : goal.offer-requires-clause-fits
offer-requires-clause-fits g c = let most = rw (← c.self.view_is) at c.requires.most in fits c.self.invariant _ most

pub invariant_of-self : goal.invariant_of-self
invariant_of-self g c =
    offered c.self.invariant (g.B.Builder.held c.offer.new.self) c.offer.new.pool c.args.frame.now c.args.number c.args.serial c.offer.result c.offer.ensures.built c.offer.ensures.claimed
