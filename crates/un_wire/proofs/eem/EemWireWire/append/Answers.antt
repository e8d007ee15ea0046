use Rattle.std.proofs.Common.{length}
use Rattle.un_wire.proofs.WriteLemmas.{eem_frame_most, eem_frame_room}
use Rattle.un_wire.proofs.eem.EemWireWire.append.Goals as goal

pub append-requires-clause-most : goal.append-requires-clause-most
append-requires-clause-most c =
    let fits = rw (← c.self.view_is) at c.requires.fits in
    eem_frame_most c.self.inside.params c.self.inside.sizes.items (length c.args.frame.now) c.self.invariant.class_is fits c.self.invariant.segment

pub append-requires-clause-room : goal.append-requires-clause-room
append-requires-clause-room c =
    let left = rw (← c.self.view_is) at c.requires.left in
    let capacity = rw (← c.self.view_is) at c.requires.capacity in
    let fits = rw (← c.self.view_is) at c.requires.fits in
    eem_frame_room c.self.inside.params c.self.inside.sizes.items (length c.args.frame.now) c.self.invariant.class_is fits c.args.request.now.bytes c.args.request.now.capacity left capacity
