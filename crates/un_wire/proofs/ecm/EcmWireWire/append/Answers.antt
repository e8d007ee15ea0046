use Rattle.std.proofs.Common.{length, arith}
use Rattle.un_frame.specs.declared.params.Class.TheVariants.{Ecm}
use Rattle.un_wire.proofs.WriteLemmas.{alone_empty, alone_room, ecm_alone}
use Rattle.un_wire.proofs.ecm.EcmWireWire.append.Goals as goal

pub ecm_append-requires-clause-empty : goal.ecm_append-requires-clause-empty
ecm_append-requires-clause-empty c =
    let left = rw (← c.self.view_is) at c.requires.left in
    let fits = rw (← c.self.view_is) at c.requires.fits in
    alone_empty Ecm 0 ecm_alone c.self.inside.params c.self.inside.single.held (length c.args.frame.now) c.self.invariant.class_is fits c.args.request.now.bytes left

pub ecm_append-requires-clause-room : goal.ecm_append-requires-clause-room
ecm_append-requires-clause-room c =
    let capacity = rw (← c.self.view_is) at c.requires.capacity in
    let fits = rw (← c.self.view_is) at c.requires.fits in
    let room = alone_room Ecm 0 ecm_alone c.self.inside.params c.self.inside.single.held (length c.args.frame.now) c.self.invariant.class_is fits c.args.request.now.capacity capacity in
    omega (arith, room)
