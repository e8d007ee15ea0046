use Rattle.std.proofs.Common.{ℕ, List, length, sym, ap, ◌∙◌, append-nil}
use Rattle.un_frame.specs.declared.params.Class.TheVariants.{Rndis}
use Rattle.un_frame.specs.Rndis.{message_bytes}
use Rattle.un_wire.proofs.WriteLemmas.{alone_empty, alone_grown, alone_room, rndis_alone}
use Rattle.un_wire.proofs.rndis.RndisWireWire.append.Goals as goal

pub append-requires-clause-empty : goal.append-requires-clause-empty
append-requires-clause-empty c =
    let left = rw (← c.self.view_is) at c.requires.left in
    let fits = rw (← c.self.view_is) at c.requires.fits in
    alone_empty Rndis 44 rndis_alone c.self.inside.params c.self.inside.single.held (length c.args.frame.now) c.self.invariant.class_is fits c.args.request.now.bytes left

pub append-requires-clause-room : goal.append-requires-clause-room
append-requires-clause-room c =
    let capacity = rw (← c.self.view_is) at c.requires.capacity in
    let fits = rw (← c.self.view_is) at c.requires.fits in
    alone_room Rndis 44 rndis_alone c.self.inside.params c.self.inside.single.held (length c.args.frame.now) c.self.invariant.class_is fits c.args.request.now.capacity capacity

pub returns-clause-request : goal.returns-clause-request
returns-clause-request c =
    let fits = rw (← c.self.view_is) at c.requires.fits in
    rw (← c.self.view_is) (λ frames o.
    let grown = alone_grown Rndis 44 rndis_alone c.self.inside.params c.self.inside.single.held (length c.args.frame.now) c.self.invariant.class_is fits c.args.request.now.bytes frames c.args.frame.now o in
    c.append.ensures.bytes ∙ ap (λ (xs : List ℕ). record c.args.request.now { bytes = xs }) (sym (grown ∙ append-nil (message_bytes c.args.frame.now))))
