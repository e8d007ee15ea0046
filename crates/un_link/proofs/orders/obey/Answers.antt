use Rattle.un_link.proofs.Ordering.{suspend_obeys, down_obeys}
use Rattle.un_link.proofs.orders.obey.Goals as goal

pub returns-in-Suspend-clause-obeys : goal.returns-in-Suspend-clause-obeys
returns-in-Suspend-clause-obeys g c =
    let d = c.recall_all.ensures in
    rw c.in-Suspend.is
    (suspend_obeys c.args.shared.now.script c.args.shared.now.phase c.args.shared.now.next_control c.args.out.now c.args.inward.now c.recall_all.new.self c.args.shared.now.journal c.recall_all.new.journal c.requires.keep (rw c.in-Suspend.is at c.requires.free) d.lines d.stands d.leaves d.flight)

pub returns-in-Down-clause-obeys : goal.returns-in-Down-clause-obeys
returns-in-Down-clause-obeys g c =
    rw c.in-Down.is (down_obeys c.args.shared.now.script c.args.shared.now.phase c.args.shared.now.next_control c.args.out.now c.drop_both.new.out c.args.inward.now c.drop_both.new.inward c.args.shared.now.journal c.drop_both.new.journal c.requires.keep c.drop_both.ensures)
