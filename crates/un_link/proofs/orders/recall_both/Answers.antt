use Rattle.un_lane.specs.Controls.{Stays, posted_lines}
use Rattle.un_lane.specs.Way.{Way}
use Rattle.un_journal.specs.History.{History}
use Rattle.un_link.proofs.BothLanes.{posted_own, first_room, second_stands, second_room, both_done}
use Rattle.un_link.proofs.orders.recall_both.Goals as goal

pub recall_all-requires-clause-room : goal.recall_all-requires-clause-room
recall_all-requires-clause-room g c = first_room (λ (w : Way) (g : History). posted_lines w) posted_own c.args.out.now c.args.inward.now c.args.journal.now c.requires.both c.requires.room

pub recall_all-requires-2-clause-stands : goal.recall_all-requires-2-clause-stands
recall_all-requires-2-clause-stands g c =
    second_stands (λ (w : Way) (g : History). posted_lines w) posted_own c.args.out.now c.args.inward.now c.args.journal.now c.requires.both c.recall_all.new.journal c.recall_all.ensures.lines

pub recall_all-requires-2-clause-room : goal.recall_all-requires-2-clause-room
recall_all-requires-2-clause-room g c =
    second_room (λ (w : Way) (g : History). posted_lines w) posted_own c.args.out.now c.args.inward.now c.args.journal.now c.requires.both c.recall_all.new.journal c.requires.room c.recall_all.ensures.lines

pub returns : goal.returns
returns g c =
    let f = c.recall_all.ensures in
    let s = c.recall_all-2.ensures in
    both_done (λ (w : Way) (g : History). posted_lines w) posted_own c.args.out.now c.args.inward.now c.args.journal.now c.requires.both Stays c.recall_all.new.self c.recall_all-2.new.self c.recall_all.new.journal c.recall_all-2.new.journal
    f.lines f.stands f.leaves.lane_is (record { leaves = f.leaves; flight_is = f.flight }) s.lines s.stands s.leaves.lane_is (record { leaves = s.leaves; flight_is = s.flight })
