use Rattle.un_transmit.proofs.TxLemmas.{came_home, first_out}
use Rattle.un_transmit.proofs.transmitter.LaneTxTxEnd.tx_done.Goals as goal

pub come_home-requires : goal.come_home-requires
come_home-requires g c = first_out c.self.invariant

pub invariant_of-self : goal.invariant_of-self
invariant_of-self g c = came_home c.self.invariant c.come_home.result c.come_home.new.pool c.come_home.new.list c.come_home.ensures.some c.come_home.ensures.none
