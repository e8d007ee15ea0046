use Rattle.un_lane.specs.Controls.{Stays, unmarked_lines}
use Rattle.un_lane.proofs.Looping.{some_start, some_more, some_ready, some_end, first_less, stays_same, stays_more}
use Rattle.un_lane.proofs.path.Path.mark_all.Goals as goal

pub loop-init : goal.loop-init
loop-init g c = some_start (unmarked_lines c.args.cause) Stays c.args.self.now c.args.journal.now c.requires.stands (stays_same c.args.self.now)

pub mark-requires : goal.mark-requires
mark-requires g c = some_ready (unmarked_lines c.args.cause) Stays c.args.self.now c.loop.self c.args.journal.now c.loop.journal c.requires.room c.loop.invariant

pub loop-smaller : goal.loop-smaller
loop-smaller g c = first_less (unmarked_lines c.args.cause) Stays c.loop.self c.mark.new.self c.loop.journal c.mark.new.journal c.loop-test.ensures

pub loop-preserved : goal.loop-preserved
loop-preserved g c =
    some_more (unmarked_lines c.args.cause) Stays c.args.self.now c.loop.self c.mark.new.self c.args.journal.now c.loop.journal c.mark.new.journal
    (stays_more c.args.self.now c.loop.self c.mark.new.self) c.loop.invariant c.loop-test.ensures

pub returns : goal.returns
returns g c =
    let all = some_end (unmarked_lines c.args.cause) Stays c.args.self.now c.loop.self c.mark.new.self c.args.journal.now c.loop.journal c.mark.new.journal c.loop.invariant c.loop-test.ensures in
    record { lines = all.adds; stands = all.stands; leaves = all.kept.leaves; flight = all.kept.flight_is }
