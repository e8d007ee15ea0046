use Rattle.un_link.proofs.Ordering.{drop_room, mark_room, recall_room, unplug_obeys}
use Rattle.un_link.proofs.orders.unplug.Goals as goal

pub drop_both-requires-clause-room : goal.drop_both-requires-clause-room
drop_both-requires-clause-room g c = drop_room c.args.shared.now.script c.args.shared.now.phase c.args.shared.now.next_control c.args.out.now c.args.inward.now c.args.shared.now.journal c.requires.keep c.requires.room

pub mark_both-requires-clause-room : goal.mark_both-requires-clause-room
mark_both-requires-clause-room g c =
    mark_room c.args.shared.now.script c.args.shared.now.phase c.args.shared.now.next_control c.args.out.now c.args.inward.now c.args.shared.now.journal c.requires.keep c.drop_both.new.out c.drop_both.new.inward c.drop_both.new.journal c.drop_both.ensures c.requires.room

pub recall_both-requires-clause-room : goal.recall_both-requires-clause-room
recall_both-requires-clause-room g c =
    recall_room c.args.shared.now.script c.args.shared.now.phase c.args.shared.now.next_control c.args.out.now c.args.inward.now c.args.shared.now.journal c.requires.keep c.drop_both.new.out c.drop_both.new.inward c.drop_both.new.journal c.drop_both.ensures
    c.mark_both.new.out c.mark_both.new.inward c.mark_both.new.journal c.mark_both.ensures c.requires.room

pub returns-clause-obeys : goal.returns-clause-obeys
returns-clause-obeys g c =
    unplug_obeys c.args.shared.now.script c.args.shared.now.phase c.args.shared.now.next_control c.args.out.now c.args.inward.now c.args.shared.now.journal c.requires.keep c.drop_both.new.out c.drop_both.new.inward c.drop_both.new.journal c.drop_both.ensures
    c.mark_both.new.out c.mark_both.new.inward c.mark_both.new.journal c.mark_both.ensures c.recall_both.new.out c.recall_both.new.inward c.recall_both.new.journal c.recall_both.ensures
