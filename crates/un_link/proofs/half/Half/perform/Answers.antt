use Rattle.std.proofs.Common.{refl}
use Rattle.un_journal.specs.Step.{Work, TxDone, RxDone, Deliver}
use Rattle.un_link.proofs.Working.{plain_does, plain_ready, tick_does, tick_is, deliver_is}
use Rattle.un_link.proofs.half.Half.perform.Goals as goal

pub tx_done-requires : goal.tx_done-requires
tx_done-requires g c = plain_ready (TxDone c.args.self.now.path.lane) _ c.args.shared.now c.args.self.now (rw c.in-TxDone.is at c.requires.ready) refl

pub rx_done-requires : goal.rx_done-requires
rx_done-requires g c = plain_ready (RxDone c.args.self.now.path.lane) _ c.args.shared.now c.args.self.now (rw c.in-RxDone.is at c.requires.ready) refl

pub deliver-requires : goal.deliver-requires
deliver-requires g c =
    plain_ready (Deliver c.args.self.now.path.lane) _ c.args.shared.now c.args.self.now (rw c.in-Deliver.is at c.requires.ready)
    (deliver_is c.args.shared.now.script c.args.shared.now.phase c.args.self.now.path _ c.args.shared.now.journal.history c.requires.ready.kept.keeps)

pub tick-requires-clause-ready : goal.tick-requires-clause-ready
tick-requires-clause-ready g c =
    plain_ready (Work.Tick c.args.self.now.path.lane) _ c.args.shared.now c.args.self.now (rw c.in-Tick.is at c.requires.ready)
    (tick_is c.args.shared.now.script c.args.shared.now.phase c.args.self.now.path c.args.shared.now.journal.history c.requires.ready.kept.keeps)

pub returns-in-TxDone : goal.returns-in-TxDone
returns-in-TxDone g c =
    let d = c.tx_done.ensures in
    rw c.in-TxDone.is
    (plain_does (TxDone c.args.self.now.path.lane) _ c.args.shared.now c.args.self.now _ _ _ refl refl c.requires.ready.kept refl d.lines d.answer d.stands d.leaves d.flight d.refused)

pub returns-in-RxDone : goal.returns-in-RxDone
returns-in-RxDone g c =
    let d = c.rx_done.ensures in
    rw c.in-RxDone.is
    (plain_does (RxDone c.args.self.now.path.lane) _ c.args.shared.now c.args.self.now _ _ _ refl refl c.requires.ready.kept refl d.lines d.answer d.stands d.leaves d.flight d.refused)

pub returns-in-Deliver : goal.returns-in-Deliver
returns-in-Deliver g c =
    let d = c.deliver.ensures in
    rw c.in-Deliver.is
    (plain_does (Deliver c.args.self.now.path.lane) _ c.args.shared.now c.args.self.now _ _ _ refl refl c.requires.ready.kept
    (deliver_is c.args.shared.now.script c.args.shared.now.phase c.args.self.now.path _ c.args.shared.now.journal.history c.requires.ready.kept.keeps) d.lines d.answer d.stands d.leaves d.flight d.refused)

pub returns-in-Tick : goal.returns-in-Tick
returns-in-Tick g c =
    let d = c.tick.ensures in
    rw c.in-Tick.is (tick_does c.args.shared.now c.args.self.now _ _ _ c.requires.ready.kept d.lines d.answer d.stands (rw (← c.sleeps.ensures) d.leaves) d.flight d.refused)
