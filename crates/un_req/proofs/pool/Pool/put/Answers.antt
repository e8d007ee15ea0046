use Rattle.std.proofs.Common.{◌≡◌, ◌≤◌, ◌<◌, ◌+◌, length, vec_capacity, vec_len, arith, refl}
use Rattle.un_req.specs.Request.{blank}
use Rattle.un_req.proofs.Homes.{home_room, home_more}
use Rattle.un_req.proofs.pool.Pool.put.Goals as goal

pub push_reserved-requires : goal.push_reserved-requires
push_reserved-requires c =
    let out = rw (← c.self.view_is) at c.requires in
    let room : c.self.inside.count ≤ vec_capacity c.self.inside.home = c.self.invariant.0 in
    let less : length c.self.inside.home.items < c.self.inside.count = home_room _ _ _ _ c.self.invariant.2 out.known out.away in
    grind (arith, room, less)

pub invariant_of-self : goal.invariant_of-self
invariant_of-self c =
    let out = rw (← c.self.view_is) at c.requires in
    let room : c.self.inside.count ≤ vec_capacity c.self.inside.home = c.self.invariant.0 in
    let less : length c.self.inside.home.items < c.self.inside.count = home_room _ _ _ _ c.self.invariant.2 out.known out.away in
    let more = home_more c.self.inside.count c.self.inside.capacity c.args.request.number c.self.inside.home.items c.self.invariant.2 out.known out.away in
    let blanked : c.renew.new.self ≡ blank c.args.request.number c.self.inside.capacity =
    rw (c.renew.ensures, out.sized) refl in
    let capacity : vec_capacity c.push_reserved.new.self ≡ vec_capacity c.self.inside.home = c.push_reserved.ensures.capacity in
    let len : vec_len c.push_reserved.new.self ≡ vec_len c.self.inside.home + 1 = c.push_reserved.ensures.len in
    let same : vec_len c.self.inside.home ≡ length c.self.inside.home.items = grind (arith, c.self.inside.home.ok) in
    (omega arith, omega arith, rw (c.push_reserved.ensures.items, blanked) more)
