use Rattle.un_transmit.proofs.TxLemmas.{done_more, has_room}
use Rattle.un_transmit.proofs.transmitter.LaneTxTxEnd.finish.Goals as goal

pub push-requires : goal.push-requires
push-requires g c = let away = rw (← c.self.view_is) at c.requires in (has_room c.self.invariant c.args.request away).1

pub invariant_of-self : goal.invariant_of-self
invariant_of-self g c = let away = rw (← c.self.view_is) at c.requires in done_more c.self.invariant c.push.new.self c.args.request away c.push.ensures
