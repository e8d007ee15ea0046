use Rattle.un_receive.specs.Reading.{receiver_in}
use Rattle.un_receive.proofs.EndLemmas.{comes_home}
use Rattle.un_receive.proofs.RxLemmas.{is_out}
use Rattle.un_receive.proofs.receiver.LaneRxRxEnd.give_back.Goals as goal

pub put-requires : goal.put-requires
put-requires g c = let away = rw (← c.self.view_is) at c.requires in is_out (receiver_in c.self.inside) c.args.request away c.self.invariant.sound

pub invariant_of-self : goal.invariant_of-self
invariant_of-self g c = let away = rw (← c.self.view_is) at c.requires in comes_home c.self.inside c.self.invariant c.put.new.self c.args.request away c.put.ensures
