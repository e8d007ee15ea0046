use Rattle.std.proofs.Common.{subst, sym, ap, ◌∙◌, ◌||◌}
use Rattle.un_journal.specs.Lookup.{is_stopping, is_leaving}
use Rattle.un_link.specs.Link.{Holds, Link}
use Rattle.un_link.proofs.Resting.{would_settle_is}
use Rattle.un_link.proofs.link.LinkOver.would_settle.Goals as goal

pub returns-then-stops : goal.returns-then-stops
returns-then-stops g c =
    would_settle_is c.args.self.now c.requests_away-away.result (subst Holds c.self.view_is c.self.invariant)
    (ap (λ (l : Link). is_stopping l.phase || is_leaving l.phase) (sym c.self.view_is) ∙ (sym c.stops.ensures ∙ c.if-stops.true)) c.requests_away-away.ensures
