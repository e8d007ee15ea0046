use Rattle.un_transmit.proofs.TxLemmas.{dropped}
use Rattle.un_transmit.proofs.transmitter.LaneTxTxEnd.drop_build.Goals as goal

pub invariant_of-self : goal.invariant_of-self
invariant_of-self g c = dropped c.self.invariant (g.B.Builder.held c.drop_build.new.self) c.drop_build.new.pool c.drop_build.result c.drop_build.ensures.dropped c.drop_build.ensures.claim
