use Rattle.std.proofs.Common.{◌≡◌, suc, length, ap, sym, ◌∙◌, subst, arith}
use Rattle.un_lane.specs.Stands.{Stands}
use Rattle.un_lane.proofs.Resuming.{first_placed, first_same, last_same, resumed_stands}
use Rattle.un_lane.proofs.path.Path.resume.Goals as goal

pub loop-smaller : goal.loop-smaller
loop-smaller g c =
    let l : length c.loop.self.tx.deferred ≡ suc (length c.queue_deferred.new.self.tx.deferred) = ap length c.loop-test.ensures.left in
    omega (arith, l)

pub loop-preserved : goal.loop-preserved
loop-preserved g c = record {
  placed = first_placed c.loop.self c.queue_deferred.new.self c.loop.invariant.placed c.loop-test.ensures;
  same = first_same c.loop.self c.queue_deferred.new.self c.loop-test.ensures ∙ c.loop.invariant.same;
}

pub returns-clause-now : goal.returns-clause-now
returns-clause-now g c = c.loop-test.ensures.1 ∙ (sym (last_same c.loop.self c.loop-test.ensures.0) ∙ c.loop.invariant.same)

pub returns-clause-stands : goal.returns-clause-stands
returns-clause-stands g c =
    λ lines w. subst (λ way. Stands way lines) (sym (c.loop-test.ensures.1 ∙ (sym (last_same c.loop.self c.loop-test.ensures.0) ∙ c.loop.invariant.same))) (resumed_stands c.args.self.now lines w)
