use Rattle.un_lane.specs.Controls.{dropped_lines}
use Rattle.un_lane.specs.Phases.{IsDropped}
use Rattle.un_link.proofs.BothLanes.{dropped_own, first_room, second_stands, second_room, both_done}
use Rattle.un_link.proofs.orders.drop_both.Goals as goal

pub drop_all-requires-clause-room : goal.drop_all-requires-clause-room
drop_all-requires-clause-room g c = first_room (dropped_lines c.args.cause) (dropped_own c.args.cause) c.args.out.now c.args.inward.now c.args.journal.now c.requires.both c.requires.room

pub drop_all-requires-2-clause-stands : goal.drop_all-requires-2-clause-stands
drop_all-requires-2-clause-stands g c =
    second_stands (dropped_lines c.args.cause) (dropped_own c.args.cause) c.args.out.now c.args.inward.now c.args.journal.now c.requires.both c.drop_all.new.journal c.drop_all.ensures.lines

pub drop_all-requires-2-clause-room : goal.drop_all-requires-2-clause-room
drop_all-requires-2-clause-room g c =
    second_room (dropped_lines c.args.cause) (dropped_own c.args.cause) c.args.out.now c.args.inward.now c.args.journal.now c.requires.both c.drop_all.new.journal c.requires.room c.drop_all.ensures.lines

pub returns : goal.returns
returns g c =
    let f = c.drop_all.ensures in
    let s = c.drop_all-2.ensures in
    both_done (dropped_lines c.args.cause) (dropped_own c.args.cause) c.args.out.now c.args.inward.now c.args.journal.now c.requires.both IsDropped c.drop_all.new.self c.drop_all-2.new.self c.drop_all.new.journal c.drop_all-2.new.journal
    f.lines f.stands f.leaves.lane_is f.leaves s.lines s.stands s.leaves.lane_is s.leaves
