use Rattle.std.proofs.Common.{◌≡◌, ◌&&◌, false, ◌∙◌, subst, sym}
use Rattle.std.proofs.lemmas.Bool.{and_right}
use Rattle.un_journal.specs.Step.{quiet}
use Rattle.un_link.specs.Link.{Link}
use Rattle.un_link.proofs.Controlling.{not_due_steps, not_forced}
use Rattle.un_link.proofs.link.LinkOver.control.Goals as goal
use Rattle.un_link.proofs.link.LinkOver.control.Goals.{else-force-via-then-force+else-quiet, else-force-via-else-force}

pub returns : goal.returns
returns g c =
    let q : (c.args.force && quiet c.args.self.now.script c.args.self.now.log.history) ≡ false =
    elim c.else-force.branch [
      | else-force-via-then-force+else-quiet w ↦ and_right _ _ (sym w.quiet.ensures ∙ w.if-quiet.false)
      | else-force-via-else-force w ↦ not_forced _ _ w.if-force.false
    ] in
    rw (← c.self.view_is)
    (not_due_steps _ c.in-Some.due c.args.force _ c.self.invariant (sym c.in-Some.ensures) (sym c.stops.ensures ∙ c.if-stops.false) (rw (← c.self.view_is) at (sym c.is_due.ensures ∙ c.if-is_due.false)) (subst (λ (l : Link). (c.args.force && quiet l.script l.log.history) ≡ false) (sym c.self.view_is) q) (rw (← c.self.view_is) at c.accepted.ensures))
