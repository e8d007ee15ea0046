use Rattle.std.proofs.Common.{arith, ◌≡◌, ◌++◌, take, subst, ap, ◌∙◌}
use Rattle.un_journal.specs.Step.{step_of}
use Rattle.un_journal.specs.Drain.{round, run}
use Rattle.un_link.proofs.Draining.{run_more}
use Rattle.un_link.proofs.link.LinkOver.round.Goals as goal

pub loop-index-preserved : goal.loop-index-preserved
loop-index-preserved g c = record {
  script = c.perform.ensures.script ∙ c.loop-index.invariant.script;
  history = run_more c.args.self.now.script c.args.self.now.log.history c.loop-index.self.log.history c.perform.new.self.log.history round c.loop-index.index c.action_at.result c.action_at.ensures c.loop-index.invariant.history
      (c.perform.ensures.history ∙ ap (λ s. c.loop-index.self.log.history ++ step_of s c.loop-index.self.log.history c.action_at.result) c.loop-index.invariant.script);
  flights = c.perform.ensures.flights ∙ c.loop-index.invariant.flights;
}

pub returns-clause-history : goal.returns-clause-history
returns-clause-history g c =
    let end : c.loop-index.index ≡ 26 = omega (arith, c.loop-index-test.false, c.loop-index.auto.index-end) in
    subst (λ n. c.loop-index.self.log.history ≡ run c.args.self.now.script c.args.self.now.log.history (take n round)) end c.loop-index.invariant.history
