use Rattle.std.proofs.Common.{◌∙◌, ◌++◌, ap}
use Rattle.un_lane.specs.Controls.{posted_lines, unmarked_lines}
use Rattle.un_lane.proofs.Doing.{answered}
use Rattle.un_lane.proofs.Looping.{leaves_same}
use Rattle.un_lane.proofs.Stopping.{first_of, mark_ready, recall_is, recall_ready, stopped, unlink_is}
use Rattle.un_lane.proofs.path.Path.unlink.Goals as goal

pub mark-requires : goal.mark-requires
mark-requires g c = mark_ready c.args.cause c.args.self.now c.args.journal.now c.requires

pub recall-requires : goal.recall-requires
recall-requires g c = let n = c.if-mark.ensures in rw (n.same, n.same_log) (recall_ready c.args.cause c.args.self.now c.args.journal.now c.requires n.none)

pub returns-then-mark : goal.returns-then-mark
returns-then-mark g c =
    let m = c.if-mark.ensures in
    stopped c.args.cause c.args.self.now c.args.journal.now (unmarked_lines c.args.cause) _ _ m
    (unlink_is c.args.cause c.args.self.now c.args.journal.now c.requires.stands ∙ ap (λ h. first_of (h ++ posted_lines c.args.self.now)) m.first)

pub returns-then-recall : goal.returns-then-recall
returns-then-recall g c =
    let n = c.if-mark.ensures in
    let m = rw (n.same, n.same_log) at c.if-recall.ensures in
    stopped c.args.cause c.args.self.now c.args.journal.now posted_lines _ _ m (recall_is c.args.cause c.args.self.now c.args.journal.now c.requires.stands n.none ∙ ap first_of m.first)

pub returns : goal.returns
returns g c =
    let n = c.if-mark.ensures in
    let m = rw (n.same, n.same_log) at c.if-recall.ensures in
    rw (m.same, m.same_log) (answered _ _ _ _ _ (recall_is c.args.cause c.args.self.now c.args.journal.now c.requires.stands n.none ∙ ap first_of m.none) c.requires.stands (leaves_same _))
