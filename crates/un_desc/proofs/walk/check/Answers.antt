use Rattle.std.proofs.Common.{◌≡◌, ◌<◌, length, refl, sym, arith}
use Rattle.std.proofs.lemmas.Bool.Decides.{nat_tests}
use Rattle.std.proofs.lemmas.Result.{err_from_is_err_and}
use Rattle.un_desc.proofs.WalkLemmas.{checked_more, checked_all, checked_bad}
use Rattle.un_desc.proofs.walk.check.Goals as goal

pub returns-in_err-size : goal.returns-in_err-size
returns-in_err-size c =
    let p = err_from_is_err_and c.from_residual.result c.from_residual.ensures.1 in
    let some : 0 < length c.loop-rest.rest.now = grind (arith, nat_tests) in
    rw (p.1, p.2) (checked_bad _ _ _ _ c.loop-rest.invariant some (sym c.in_err-size.ensures.length))

pub loop-rest-preserved : goal.loop-rest-preserved
loop-rest-preserved c = checked_more _ _ _ c.in_ok-size.size _ _ c.loop-rest.invariant (sym c.in_ok-size.ensures.length) refl c.split_at.ensures.back

pub returns : goal.returns
returns c =
    let none : length c.loop-rest.rest.now ≡ 0 = grind (arith, nat_tests) in
    checked_all _ _ _ c.loop-rest.invariant none
