use Rattle.std.proofs.Common.{Option, ◌∙◌, ap, sym, not, is_some}
use Rattle.un_frame.specs.declared.params.Lane.TheVariants.{Outward, Inward}
use Rattle.un_journal.specs.Script.{Frame}
use Rattle.un_journal.specs.History.{past}
use Rattle.un_script.proofs.CursorLemmas.{head_is}
use Rattle.un_link.proofs.link.LinkOver.is_spent.Goals as goal

pub returns-in-Outward : goal.returns-in-Outward
returns-in-Outward g c =
    let told = rw c.in-Outward.is at c.is_spent.ensures in
    rw (← c.self.view_is, c.in-Outward.is)
    (told ∙ sym (ap (λ (o : Option Frame). not (is_some o)) (head_is c.self.inside.shared.script Outward (past Outward c.self.inside.shared.journal.history) c.self.inside.out.read c.args.sender c.self.invariant.out_read_is)))

pub returns-in-Inward : goal.returns-in-Inward
returns-in-Inward g c =
    let told = rw c.in-Inward.is at c.is_spent-in-Inward.ensures in
    rw (← c.self.view_is, c.in-Inward.is)
    (told ∙ sym (ap (λ (o : Option Frame). not (is_some o)) (head_is c.self.inside.shared.script Inward (past Inward c.self.inside.shared.journal.history) c.self.inside.inward.read c.args.sender c.self.invariant.in_read_is)))
