use Rattle.std.proofs.Common.{◌+◌, ◌≤◌, ◌%◌, ◌==◌, length, ap, subst, ℕ, arith}
use Rattle.un_frame.specs.Classes.{eem_capacity}
use Rattle.un_req.specs.Request.{Buffer}
use Rattle.un_wire.proofs.WriteLemmas.{eem_room, eem_within}
use Rattle.un_wire.proofs.eem.EemWireWire.close.Goals as goal

pub finish-requires-clause-room : goal.finish-requires-clause-room
finish-requires-clause-room c =
    let left = rw (← c.self.view_is) at c.requires.left in
    let capacity = rw (← c.self.view_is) at c.requires.capacity in
    let w = c.self.inside in
    let i = c.self.invariant in
    let within = subst (λ (n : ℕ). n + 2 ≤ eem_capacity w.params) i.size_is i.within in
    let room = eem_room w.params w.sizes.items c.args.request.now.bytes i.class_is within left in
    omega (arith, room, capacity)

pub returns-clause-within : goal.returns-clause-within
returns-clause-within c =
    let left = rw (← c.self.view_is) at c.requires.left in
    let w = c.self.inside in
    let i = c.self.invariant in
    let bytes = c.args.request.now.bytes in
    let within = subst (λ (n : ℕ). n + 2 ≤ eem_capacity w.params) i.size_is i.within in
    rw (← c.self.view_is) (eem_within w.params w.sizes.items bytes c.finish.new.request.bytes (length bytes % w.params.packet == 0) i.class_is within left (ap (λ (r : Buffer). r.bytes) c.finish.ensures.bytes))
