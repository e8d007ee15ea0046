use Rattle.std.proofs.Common.{refl}
use Rattle.un_journal.specs.Step.{Refill}
use Rattle.un_link.proofs.Working.{plain_does, plain_ready, refill_is}
use Rattle.un_link.proofs.half.Half.refill.Goals as goal

pub refill-requires : goal.refill-requires
refill-requires g c =
    plain_ready (Refill c.args.self.now.path.lane) _ c.args.shared.now c.args.self.now c.requires
    (refill_is c.args.shared.now.script c.args.shared.now.phase c.args.self.now.path _ c.args.shared.now.journal.history c.requires.kept.keeps c.requires.kept.phase_is c.in-Up.is)

pub returns-in-Up : goal.returns-in-Up
returns-in-Up g c =
    let d = c.refill.ensures in
    plain_does (Refill c.args.self.now.path.lane) _ c.args.shared.now c.args.self.now _ _ _ refl refl c.requires.kept
    (refill_is c.args.shared.now.script c.args.shared.now.phase c.args.self.now.path _ c.args.shared.now.journal.history c.requires.kept.keeps c.requires.kept.phase_is c.in-Up.is) d.lines d.answer d.stands d.leaves d.flight d.refused
