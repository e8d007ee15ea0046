use Rattle.un_frame.specs.declared.params.Class.TheVariants.{Rndis}
use Rattle.un_wire.proofs.WriteLemmas.{alone_within, rndis_alone}
use Rattle.un_wire.proofs.rndis.RndisWireWire.close.Goals as goal

pub returns-clause-within : goal.returns-clause-within
returns-clause-within c =
    let left = rw (← c.self.view_is) at c.requires.left in
    let i = c.self.invariant in
    rw (← c.self.view_is) (alone_within Rndis 44 rndis_alone c.self.inside.params c.self.inside.single.held c.args.request.now.bytes i.class_is i.fits left)
