use Rattle.std.proofs.Common.{[]}
use Rattle.un_frame.proofs.LaneLemmas.{same_lane-refl}
use Rattle.un_journal.specs.declared.lines.Line.TheVariants.{Flying, Cut}
use Rattle.un_journal.proofs.ForLane.{own_past}
use Rattle.un_lane.proofs.Taking.{depart_stands, queued_away, reap_stands}
use Rattle.un_lane.proofs.path.Path.take.Goals as goal

pub finish-requires : goal.finish-requires
finish-requires g c =
    let w = rw (← c.self.view_is) at c.requires.stands in
    queued_away _ _ _ _ _ _ w.placed (rw c.in-Some-Reaped.field-0-is at c.in-Some-Reaped.ensures).left

pub returns-in-Some-Flight-clause-stands : goal.returns-in-Some-Flight-clause-stands
returns-in-Some-Flight-clause-stands g c =
    let w = rw (← c.self.view_is) at c.requires.stands in
    rw (c.write.ensures.history_is, own_past _ (Flying c.self.inside.lane c.serial-serial.result, []) c.self.inside.lane (same_lane-refl c.self.inside.lane), c.serial-serial.ensures)
    (depart_stands _ _ c.take.new.self c.in-Some-Flight.flight w (rw c.in-Some-Flight.field-0-is at c.in-Some-Flight.ensures).1)

pub returns-in-Some-Reaped-clause-stands : goal.returns-in-Some-Reaped-clause-stands
returns-in-Some-Reaped-clause-stands g c =
    let w = rw (← c.self.view_is) at c.requires.stands in
    let reaps = rw c.in-Some-Reaped.field-0-is at c.in-Some-Reaped.ensures in
    rw (
      c.write-in-Some-Reaped.ensures.history_is,
      own_past _ (Cut c.self.inside.lane c.serial-serial-in-Some-Reaped.result c.in-Some-Reaped.cause, []) c.self.inside.lane (same_lane-refl c.self.inside.lane),
      c.serial-serial-in-Some-Reaped.ensures,
      c.finish.ensures,
    )
    (reap_stands _ _ c.take.new.self c.in-Some-Reaped.request c.in-Some-Reaped.cause w reaps)
