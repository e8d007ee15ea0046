use Rattle.std.proofs.Common.{sym, ap}
use Rattle.un_frame.specs.declared.params.Class.{Class}
use Rattle.un_frame.specs.Lanes.{packs}
use Rattle.un_wire.proofs.rndis.RndisWire.packs.Goals as goal

pub returns : goal.returns
returns c = rw (← c.self.view_is) (sym (ap (λ (class : Class). packs class c.args.lane) c.self.invariant.class_is))
