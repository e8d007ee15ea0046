use Rattle.std.proofs.Common.{subst}
use Rattle.un_lane.specs.Way.{HasRoom}
use Rattle.un_link.proofs.Ordering.{out_marks, in_marks, unlink_out_obeys, unlink_in_obeys}
use Rattle.un_link.proofs.orders.unlink.Goals as goal

pub mark_all-requires-clause-room : goal.mark_all-requires-clause-room
mark_all-requires-clause-room g c = subst (HasRoom c.args.shared.now.journal) (out_marks c.args.shared.now.script c.args.shared.now.phase c.args.shared.now.next_control c.args.out.now c.args.inward.now c.args.shared.now.journal c.requires.keep) (rw c.in-Outward.is at c.requires.room)

pub mark_all-requires-in-Inward-clause-room : goal.mark_all-requires-in-Inward-clause-room
mark_all-requires-in-Inward-clause-room g c = subst (HasRoom c.args.shared.now.journal) (in_marks c.args.shared.now.script c.args.shared.now.phase c.args.shared.now.next_control c.args.out.now c.args.inward.now c.args.shared.now.journal c.requires.keep) (rw c.in-Inward.is at c.requires.room)

pub returns-in-Outward-clause-obeys : goal.returns-in-Outward-clause-obeys
returns-in-Outward-clause-obeys g c =
    let d = c.mark_all.ensures in
    rw c.in-Outward.is
    (unlink_out_obeys c.args.shared.now.script c.args.shared.now.phase c.args.shared.now.next_control c.args.out.now c.mark_all.new.self c.args.inward.now c.args.shared.now.journal c.mark_all.new.journal c.requires.keep d.lines d.stands d.leaves d.flight)

pub returns-in-Inward-clause-obeys : goal.returns-in-Inward-clause-obeys
returns-in-Inward-clause-obeys g c =
    let d = c.mark_all-in-Inward.ensures in
    rw c.in-Inward.is
    (unlink_in_obeys c.args.shared.now.script c.args.shared.now.phase c.args.shared.now.next_control c.args.out.now c.args.inward.now c.mark_all-in-Inward.new.self c.args.shared.now.journal c.mark_all-in-Inward.new.journal c.requires.keep d.lines d.stands d.leaves d.flight)
