use Rattle.std.proofs.Common.{refl, ◌≡◌, ◌-◌, ◌∙◌, ap, reverse}
use Rattle.un_journal.specs.Lookup.{controls_done}
use Rattle.un_journal.specs.Step.{Unlink}
use Rattle.un_link.proofs.Working.{plain_does, plain_ready, unlink_is}
use Rattle.un_link.proofs.half.Half.unlink.Goals as goal

pub unlink-requires : goal.unlink-requires
unlink-requires g c =
    let k = c.requires.kept in
    let cause : c.saturating_sub-cause.result ≡ controls_done (reverse c.args.shared.now.journal.history) - 1 = c.saturating_sub-cause.ensures ∙ ap (λ n. n - 1) k.next_control_is in
    plain_ready (Unlink c.args.self.now.path.lane) _ c.args.shared.now c.args.self.now c.requires
    (unlink_is c.args.shared.now.script c.args.shared.now.phase c.args.self.now.path _ c.args.shared.now.journal.history k.keeps k.phase_is c.in-Stopping.is cause)

pub returns-in-Stopping : goal.returns-in-Stopping
returns-in-Stopping g c =
    let d = c.unlink.ensures in
    let k = c.requires.kept in
    let cause : c.saturating_sub-cause.result ≡ controls_done (reverse c.args.shared.now.journal.history) - 1 = c.saturating_sub-cause.ensures ∙ ap (λ n. n - 1) k.next_control_is in
    plain_does (Unlink c.args.self.now.path.lane) _ c.args.shared.now c.args.self.now _ _ _ refl refl k
    (unlink_is c.args.shared.now.script c.args.shared.now.phase c.args.self.now.path _ c.args.shared.now.journal.history k.keeps k.phase_is c.in-Stopping.is cause) d.lines d.answer d.stands d.leaves d.flight d.refused
