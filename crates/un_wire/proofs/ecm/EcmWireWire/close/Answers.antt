use Rattle.un_frame.specs.declared.params.Class.TheVariants.{Ecm}
use Rattle.un_wire.proofs.WriteLemmas.{alone_within, ecm_alone}
use Rattle.un_wire.proofs.ecm.EcmWireWire.close.Goals as goal

pub returns-clause-within : goal.returns-clause-within
returns-clause-within c =
    let left = rw (← c.self.view_is) at c.requires.left in
    let i = c.self.invariant in
    rw (← c.self.view_is) (alone_within Ecm 0 ecm_alone c.self.inside.params c.self.inside.single.held c.args.request.now.bytes i.class_is i.fits left)
