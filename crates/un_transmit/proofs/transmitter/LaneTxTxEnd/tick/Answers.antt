use Rattle.un_transmit.proofs.TxLemmas.{ticked}
use Rattle.un_transmit.proofs.transmitter.LaneTxTxEnd.tick.Goals as goal

pub invariant_of-self : goal.invariant_of-self
invariant_of-self g c = ticked c.self.invariant (g.B.Builder.held c.tick.new.self) c.tick.new.pool c.args.serial c.tick.result c.tick.ensures.ticked c.tick.ensures.claimed
