use Rattle.std.proofs.Common.{refl, subst}
use Rattle.un_journal.specs.LaneSteps.{lines_in}
use Rattle.un_lane.specs.Way.{HasRoom}
use Rattle.un_lane.proofs.Adding.{made_small}
use Rattle.un_lane.proofs.Building.{builds_after, tick_closes, tick_does, tick_waits, waits_builds}
use Rattle.un_lane.proofs.Closing.{closes_new, waits_stands}
use Rattle.un_lane.proofs.Doing.{wrote}
use Rattle.un_lane.proofs.Sending.{new_away}
use Rattle.un_lane.proofs.path.Path.tick.Goals as goal

pub write-requires-clause-room : goal.write-requires-clause-room
write-requires-clause-room g c =
    let r = rw (← c.self.view_is) at c.requires.ready in
    subst (λ o. HasRoom c.args.journal.now (lines_in o)) (tick_waits _ _ _ r.stands c.in-Waited.ensures) r.room

pub send-requires-clause-room : goal.send-requires-clause-room
send-requires-clause-room g c =
    let r = rw (← c.self.view_is) at c.requires.ready in
    subst (λ o. HasRoom c.args.journal.now (lines_in o)) (tick_closes _ _ _ c.in-Made.request r.stands c.in-Made.ensures) r.room

pub send-requires-clause-away : goal.send-requires-clause-away
send-requires-clause-away g c =
    let w = rw (← c.self.view_is) at c.requires.ready.stands in
    rw c.in-Made.ensures.rest (new_away _ _ _ _ _ _ _ c.in-Made.request w.placed (closes_new _ _ _ c.in-Made.request w c.in-Made.ensures))

pub send-requires-clause-count : goal.send-requires-clause-count
send-requires-clause-count g c = let r = rw (← c.self.view_is) at c.requires.ready in made_small _ c.args.journal.now _ r.stands r.room

pub returns-in-Waited : goal.returns-in-Waited
returns-in-Waited g c =
    let w = rw (← c.self.view_is) at c.requires.ready.stands in
    let agrees = rw (← c.self.view_is) at c.requires.agrees in
    rw (← c.self.view_is) (wrote _ _ _ _ _ _ _ (tick_waits _ _ _ w c.in-Waited.ensures) c.write.ensures (λ l. refl, tt) (waits_stands _ _ _ w c.in-Waited.ensures) (builds_after _ _ _ _ _ _ _ _ c.write.ensures (λ l. refl, tt) (waits_builds _ _ _ _ c.in-Waited.ensures agrees)) refl)

pub returns-in-Made : goal.returns-in-Made
returns-in-Made g c =
    let w = rw (← c.self.view_is) at c.requires.ready.stands in
    let agrees = rw (← c.self.view_is) at c.requires.agrees in
    let s = c.send.ensures in
    rw (← c.self.view_is, s.rest) (tick_does _ _ _ _ _ _ _ c.in-Made.request w agrees c.in-Made.ensures s.line s.sent)
