use Rattle.std.proofs.Common.{◌≡◌, true, subst, sym, ◌∙◌}
use Rattle.un_journal.specs.Fits.{IsDone}
use Rattle.un_journal.specs.Done.{IsFinished}
use Rattle.un_journal.specs.Step.{quiet}
use Rattle.un_link.specs.Link.{Link}
use Rattle.un_link.proofs.Resting.{finished_is, finished_says}
use Rattle.un_link.proofs.link.LinkOver.finished.Goals as goal

pub returns-then-quiet-clause-done : goal.returns-then-quiet-clause-done
returns-then-quiet-clause-done g c =
    λ e. subst (λ (l : Link). IsDone l.script l.log.history) c.self.view_is
    (finished_is _ c.control_count.result c.self.invariant c.control_count.ensures (subst (λ (l : Link). quiet l.script l.log.history ≡ true) (sym c.self.view_is) (sym c.quiet.ensures ∙ c.if-quiet.true)) e)

pub returns-then-quiet-clause-finished : goal.returns-then-quiet-clause-finished
returns-then-quiet-clause-finished g c =
    λ e. subst (λ (l : Link). IsFinished l.script l.log.history) c.self.view_is
    (finished_says _ c.control_count.result c.self.invariant c.control_count.ensures (subst (λ (l : Link). quiet l.script l.log.history ≡ true) (sym c.self.view_is) (sym c.quiet.ensures ∙ c.if-quiet.true)) e)
