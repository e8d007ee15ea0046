use Rattle.un_transmit.proofs.TxLemmas.{deferred_more, has_room}
use Rattle.un_transmit.proofs.transmitter.LaneTxTxEnd.defer.Goals as goal

pub push-requires : goal.push-requires
push-requires g c = let away = rw (← c.self.view_is) at c.requires.away in (has_room c.self.invariant c.args.request away).0

pub invariant_of-self : goal.invariant_of-self
invariant_of-self g c = let away = rw (← c.self.view_is) at c.requires.away in deferred_more c.self.invariant c.push.new.self c.args.request away c.push.ensures
