use Rattle.std.proofs.Common.{[]}
use Rattle.un_frame.proofs.LaneLemmas.{same_lane-refl}
use Rattle.un_journal.specs.declared.lines.Line.TheVariants.{Landed, Failed, Retried, Cut}
use Rattle.un_journal.proofs.ForLane.{own_past}
use Rattle.un_lane.proofs.Landing.{arrive_stands, fail_stands, sever_stands}
use Rattle.un_lane.proofs.Retrying.{retry_stands}
use Rattle.un_lane.proofs.path.Path.land.Goals as goal

pub returns-in-Arrived-clause-stands : goal.returns-in-Arrived-clause-stands
returns-in-Arrived-clause-stands g c =
    let w = rw (← c.self.view_is) at c.requires.ready.stands in
    let out = rw (← c.self.view_is) at c.requires.out in
    let bytes = rw (← c.self.view_is) at c.requires.bytes in
    rw (c.write.ensures.history_is, own_past _ (Landed c.self.inside.lane c.serial-serial.result, []) c.self.inside.lane (same_lane-refl c.self.inside.lane), c.serial-serial.ensures, c.finish.ensures, c.arrive.ensures)
    (arrive_stands _ _ c.land.new.self c.args.carried c.args.planned c.in-Arrived.tx c.in-Arrived.rx w out bytes c.in-Arrived.ensures)

pub returns-in-Failed-clause-stands : goal.returns-in-Failed-clause-stands
returns-in-Failed-clause-stands g c =
    let w = rw (← c.self.view_is) at c.requires.ready.stands in
    let out = rw (← c.self.view_is) at c.requires.out in
    rw (c.write-in-Failed.ensures.history_is, own_past _ (Failed c.self.inside.lane c.serial-serial.result c.in-Failed.kind, []) c.self.inside.lane (same_lane-refl c.self.inside.lane), c.serial-serial.ensures, c.finish-in-Failed.ensures, c.give_back-in-Failed.ensures)
    (fail_stands _ _ c.land.new.self c.args.carried c.args.planned c.in-Failed.tx c.in-Failed.rx c.in-Failed.kind w out c.in-Failed.ensures)

pub returns-in-Cut-clause-stands : goal.returns-in-Cut-clause-stands
returns-in-Cut-clause-stands g c =
    let w = rw (← c.self.view_is) at c.requires.ready.stands in
    let out = rw (← c.self.view_is) at c.requires.out in
    rw (c.write-in-Cut.ensures.history_is, own_past _ (Cut c.self.inside.lane c.serial-serial.result c.in-Cut.cause, []) c.self.inside.lane (same_lane-refl c.self.inside.lane), c.serial-serial.ensures, c.finish-in-Cut.ensures, c.give_back-in-Cut.ensures)
    (sever_stands _ _ c.land.new.self c.args.carried c.in-Cut.tx c.in-Cut.rx c.in-Cut.cause w out c.in-Cut.ensures)

pub returns-in-Retried-clause-stands : goal.returns-in-Retried-clause-stands
returns-in-Retried-clause-stands g c =
    let w = rw (← c.self.view_is) at c.requires.ready.stands in
    let out = rw (← c.self.view_is) at c.requires.out in
    let bytes = rw (← c.self.view_is) at c.requires.bytes in
    rw (c.write-in-Retried.ensures.history_is, own_past _ (Retried c.self.inside.lane c.serial-serial.result c.in-Retried.attempt, []) c.self.inside.lane (same_lane-refl c.self.inside.lane), c.serial-serial.ensures, c.give_back.ensures)
    (retry_stands _ _ c.land.new.self c.args.carried c.args.planned c.in-Retried.rx c.in-Retried.attempt w out bytes c.prove_fits.ensures c.in-Retried.ensures)
