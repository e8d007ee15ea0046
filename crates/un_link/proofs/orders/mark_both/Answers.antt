use Rattle.un_lane.specs.Controls.{Stays, unmarked_lines}
use Rattle.un_lane.specs.Way.{Way}
use Rattle.un_journal.specs.History.{History}
use Rattle.un_link.proofs.BothLanes.{unmarked_own, first_room, second_stands, second_room, both_done}
use Rattle.un_link.proofs.orders.mark_both.Goals as goal

pub mark_all-requires-clause-room : goal.mark_all-requires-clause-room
mark_all-requires-clause-room g c = first_room (λ (w : Way) (g : History). unmarked_lines c.args.cause w) (unmarked_own c.args.cause) c.args.out.now c.args.inward.now c.args.journal.now c.requires.both c.requires.room

pub mark_all-requires-2-clause-stands : goal.mark_all-requires-2-clause-stands
mark_all-requires-2-clause-stands g c =
    second_stands (λ (w : Way) (g : History). unmarked_lines c.args.cause w) (unmarked_own c.args.cause) c.args.out.now c.args.inward.now c.args.journal.now c.requires.both c.mark_all.new.journal c.mark_all.ensures.lines

pub mark_all-requires-2-clause-room : goal.mark_all-requires-2-clause-room
mark_all-requires-2-clause-room g c =
    second_room (λ (w : Way) (g : History). unmarked_lines c.args.cause w) (unmarked_own c.args.cause) c.args.out.now c.args.inward.now c.args.journal.now c.requires.both c.mark_all.new.journal c.requires.room c.mark_all.ensures.lines

pub returns : goal.returns
returns g c =
    let f = c.mark_all.ensures in
    let s = c.mark_all-2.ensures in
    both_done (λ (w : Way) (g : History). unmarked_lines c.args.cause w) (unmarked_own c.args.cause) c.args.out.now c.args.inward.now c.args.journal.now c.requires.both Stays c.mark_all.new.self c.mark_all-2.new.self c.mark_all.new.journal c.mark_all-2.new.journal
    f.lines f.stands f.leaves.lane_is (record { leaves = f.leaves; flight_is = f.flight }) s.lines s.stands s.leaves.lane_is (record { leaves = s.leaves; flight_is = s.flight })
