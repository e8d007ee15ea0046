use Rattle.std.proofs.Common.{refl, subst}
use Rattle.un_journal.specs.LaneSteps.{Outcome, lines_in, tx_done}
use Rattle.un_journal.specs.Log.{Log}
use Rattle.un_lane.specs.Phases.{Leaves}
use Rattle.un_lane.specs.Way.{Way, HasRoom, lane_lines}
use Rattle.un_lane.proofs.Doing.{answered, does_at, ready_at, wrote}
use Rattle.un_lane.proofs.Looping.{leaves_rest, leaves_same}
use Rattle.un_lane.proofs.Opening.{tx_done_writes, tx_done_answers, tx_done_stands}
use Rattle.un_lane.proofs.path.Path.tx_done.Goals as goal

abbrev outcome_of : Log → Way → Outcome
outcome_of log way = tx_done way.lane (lane_lines way log)

pub write-requires-clause-room : goal.write-requires-clause-room
write-requires-clause-room g c =
    let r = ready_at (outcome_of c.args.journal.now) _ _ _ c.self.view_is c.requires in
    subst (λ o. HasRoom c.args.journal.now (lines_in o)) (tx_done_writes _ _ _ c.in-Some.serial r.stands c.in-Some.ensures.some) r.room

pub returns-in-None : goal.returns-in-None
returns-in-None g c =
    let w = rw (← c.self.view_is) at c.requires.stands in
    let none = c.in-None.ensures.none in
    does_at (λ v. Leaves) (outcome_of c.args.journal.now) _ _ _ _ _ _ c.self.view_is (rw none.1 (answered _ _ _ _ _ (tx_done_answers _ _ w none.0) w (leaves_same _)))

pub returns : goal.returns
returns g c =
    let w = rw (← c.self.view_is) at c.requires.stands in
    let home = c.in-Some.ensures.some in
    does_at (λ v. Leaves) (outcome_of c.args.journal.now) _ _ _ _ _ _ c.self.view_is
    (wrote _ _ _ _ _ _ _ (tx_done_writes _ _ _ _ w home) c.write.ensures (λ l. refl, tt) (tx_done_stands _ _ _ _ w home) (leaves_rest _ _ _ _ home.rest refl refl) refl)
