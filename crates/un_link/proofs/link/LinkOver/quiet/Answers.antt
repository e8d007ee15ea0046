use Rattle.std.proofs.Common.{ap, ◌∙◌}
use Rattle.un_journal.specs.Step.{quiet}
use Rattle.un_link.specs.Link.{Link}
use Rattle.un_link.proofs.Resting.{quiet_tells}
use Rattle.un_link.proofs.link.LinkOver.quiet.Goals as goal

pub returns : goal.returns
returns g c =
    c.are_all.ensures
    ∙ (quiet_tells _ _ _ _ _ c.self.invariant c.still-out.ensures.lines c.still-inward.ensures.lines (rw (← c.self.view_is) at c.offers_nothing-offers.ensures) (rw (← c.self.view_is) at c.would_settle-settles.ensures)
    ∙ ap (λ (l : Link). quiet l.script l.log.history) c.self.view_is)
