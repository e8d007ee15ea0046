use Rattle.std.proofs.Common.{refl}
use Rattle.un_journal.specs.Step.{ClearHalt}
use Rattle.un_link.proofs.Working.{plain_does, plain_ready, clear_is}
use Rattle.un_link.proofs.half.Half.clear_halt.Goals as goal

pub clear_halt-requires : goal.clear_halt-requires
clear_halt-requires g c =
    plain_ready (ClearHalt c.args.self.now.path.lane) _ c.args.shared.now c.args.self.now c.requires
    (clear_is c.args.shared.now.script c.args.shared.now.phase c.args.self.now.path.lane c.args.shared.now.journal.history c.requires.kept.phase_is c.in-Up.is)

pub returns-in-Up : goal.returns-in-Up
returns-in-Up g c =
    let d = c.clear_halt.ensures in
    plain_does (ClearHalt c.args.self.now.path.lane) _ c.args.shared.now c.args.self.now _ _ _ refl refl c.requires.kept
    (clear_is c.args.shared.now.script c.args.shared.now.phase c.args.self.now.path.lane c.args.shared.now.journal.history c.requires.kept.phase_is c.in-Up.is) d.lines d.answer d.stands d.leaves d.flight d.refused
