use Rattle.std.proofs.Common.{subst, ◌∙◌}
use Rattle.un_link.specs.Link.{Holds}
use Rattle.un_link.proofs.Draining.{fewer_left, drained_cut, drained_done, drained_finished, drained_history, drained_kept}
use Rattle.un_link.proofs.link.LinkOver.drain.Goals as goal

pub loop-smaller : goal.loop-smaller
loop-smaller g c = fewer_left _ _ _ c.drain_on.ensures c.loop-test.true

pub returns-clause-done : goal.returns-clause-done
returns-clause-done g c =
    drained_done c.args.self.now c.drain_on.new.self (subst Holds c.self.view_is c.self.invariant) c.requires (c.drain_on.ensures.script_is ∙ c.loop.invariant.script)
    (drained_history c.args.self.now c.loop.self c.drain_on.new.self _ c.drain_on.ensures c.loop-test.false c.loop.invariant.drained)

pub returns-clause-finished : goal.returns-clause-finished
returns-clause-finished g c =
    drained_finished c.args.self.now c.drain_on.new.self (subst Holds c.self.view_is c.self.invariant) c.requires (c.drain_on.ensures.script_is ∙ c.loop.invariant.script)
    (drained_history c.args.self.now c.loop.self c.drain_on.new.self _ c.drain_on.ensures c.loop-test.false c.loop.invariant.drained)

pub returns-clause-cut : goal.returns-clause-cut
returns-clause-cut g c =
    drained_cut c.args.self.now c.drain_on.new.self (subst Holds c.self.view_is c.self.invariant) (c.drain_on.ensures.script_is ∙ c.loop.invariant.script)
    (drained_history c.args.self.now c.loop.self c.drain_on.new.self _ c.drain_on.ensures c.loop-test.false c.loop.invariant.drained)

pub returns-clause-kept : goal.returns-clause-kept
returns-clause-kept g c =
    drained_kept c.args.self.now c.drain_on.new.self
    (drained_history c.args.self.now c.loop.self c.drain_on.new.self _ c.drain_on.ensures c.loop-test.false c.loop.invariant.drained)
