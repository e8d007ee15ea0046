use Rattle.std.proofs.Common.{◌≡◌, ◌≤◌, ◌+◌, vec_capacity, vec_len, arith, refl}
use Rattle.un_req.proofs.Homes.{made_more, none_home}
use Rattle.un_req.proofs.pool.Pool.make.Goals as goal

pub loop-number-init : goal.loop-number-init
loop-number-init c =
    (c.in_ok-home.ensures.capacity, c.in_ok-home.ensures.len, rw c.in_ok-home.ensures.items (none_home _ _), rw c.in_ok-home.ensures.items refl)

pub loop-number-preserved : goal.loop-number-preserved
loop-number-preserved c =
    let i = c.loop-number.invariant in
    let room : c.args.count ≤ vec_capacity c.loop-number.home = i.0 in
    let capacity : vec_capacity c.push_reserved.new.self ≡ vec_capacity c.loop-number.home = c.push_reserved.ensures.capacity in
    let len : vec_len c.push_reserved.new.self ≡ vec_len c.loop-number.home + 1 = c.push_reserved.ensures.len in
    let so_far : vec_len c.loop-number.home ≡ c.loop-number.number = i.1 in
    let more = made_more c.args.count c.args.capacity c.loop-number.number c.loop-number.home.items c.push_reserved.new.self.items i.2 i.3
    c.loop-number-test.true (rw (c.push_reserved.ensures.items, c.in_ok-make.ensures) refl) in
    (omega arith, omega arith, more.0, more.1)
