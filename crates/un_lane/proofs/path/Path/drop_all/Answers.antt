use Rattle.std.proofs.Common.{sym, subst}
use Rattle.un_journal.specs.Step.{dropped_built}
use Rattle.un_lane.specs.Way.{Adds, HasRoom, lane_lines}
use Rattle.un_lane.specs.Controls.{LeavesBus, deferred_lines}
use Rattle.un_lane.proofs.Adding.{adds_more, room_front, room_rest}
use Rattle.un_lane.proofs.Dropping.{dropped_same}
use Rattle.un_lane.proofs.Looping.{some_start, some_more, some_ready, some_end, first_less, bus_same, bus_more}
use Rattle.un_lane.proofs.path.Path.drop_all.Goals as goal

pub loop-init : goal.loop-init
loop-init g c = some_start (deferred_lines c.args.cause) LeavesBus c.args.self.now c.args.journal.now c.requires.stands (bus_same c.args.self.now)

pub cut-requires : goal.cut-requires
cut-requires g c = some_ready (deferred_lines c.args.cause) LeavesBus c.args.self.now c.loop.self c.args.journal.now c.loop.journal (room_front c.args.journal.now (deferred_lines c.args.cause c.args.self.now) (dropped_built c.args.self.now.lane c.args.cause (lane_lines c.args.self.now c.args.journal.now)) c.requires.room) c.loop.invariant

pub loop-smaller : goal.loop-smaller
loop-smaller g c = first_less (deferred_lines c.args.cause) LeavesBus c.loop.self c.cut.new.self c.loop.journal c.cut.new.journal c.loop-test.ensures

pub loop-preserved : goal.loop-preserved
loop-preserved g c =
    some_more (deferred_lines c.args.cause) LeavesBus c.args.self.now c.loop.self c.cut.new.self c.args.journal.now c.loop.journal c.cut.new.journal
    (bus_more c.args.self.now c.loop.self c.cut.new.self) c.loop.invariant c.loop-test.ensures

pub drop_built-requires : goal.drop_built-requires
drop_built-requires g c =
    let all = some_end (deferred_lines c.args.cause) LeavesBus c.args.self.now c.loop.self c.cut.new.self c.args.journal.now c.loop.journal c.cut.new.journal c.loop.invariant c.loop-test.ensures in
    record {
      stands = all.stands;
      room =
          subst (HasRoom c.cut.new.journal) (sym (dropped_same c.args.self.now c.cut.new.self _ _ c.args.cause c.requires.stands all.stands all.kept))
          (room_rest c.args.journal.now c.cut.new.journal (deferred_lines c.args.cause c.args.self.now) (dropped_built c.args.self.now.lane c.args.cause (lane_lines c.args.self.now c.args.journal.now)) c.requires.room all.adds);
    }

pub returns-clause-lines : goal.returns-clause-lines
returns-clause-lines g c =
    let all = some_end (deferred_lines c.args.cause) LeavesBus c.args.self.now c.loop.self c.cut.new.self c.args.journal.now c.loop.journal c.cut.new.journal c.loop.invariant c.loop-test.ensures in
    adds_more c.args.journal.now c.cut.new.journal c.drop_built.new.journal (deferred_lines c.args.cause c.args.self.now) (dropped_built c.args.self.now.lane c.args.cause (lane_lines c.args.self.now c.args.journal.now)) all.adds
    (subst (Adds c.cut.new.journal c.drop_built.new.journal) (dropped_same c.args.self.now c.cut.new.self _ _ c.args.cause c.requires.stands all.stands all.kept) c.drop_built.ensures.lines)
