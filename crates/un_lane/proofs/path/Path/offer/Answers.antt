use Rattle.std.proofs.Common.{rules, ℕ, ◌-◌, ◌<◌, ◌≤◌, Bool, List, ◌∷◌, [], refl, subst, arith}
use Rattle.un_endpoint.specs.EndOutcomes.{with_frame}
use Rattle.un_journal.specs.declared.actions.Answer.{Answer}
use Rattle.un_journal.specs.declared.lines.Line.TheVariants.{Took, Made}
use Rattle.un_journal.specs.LaneSteps.{Outcome, accept, lines_in}
use Rattle.un_journal.specs.Log.{Log}
use Rattle.un_lane.specs.Phases.{BuildsIn, offered}
use Rattle.un_lane.specs.Way.{Way, HasRoom, lane_lines}
use Rattle.un_lane.proofs.Adding.{accepted_small, made_small, room_front, room_rest}
use Rattle.un_lane.proofs.Building.{builds_after, builds_same, offer_does}
use Rattle.un_lane.proofs.Closing.{keeps_builds, makes_new}
use Rattle.un_lane.proofs.Contents.{transfer_least}
use Rattle.un_lane.proofs.Doing.{answered, does_at, ready_at, wrote}
use Rattle.un_lane.proofs.Offering.{offer_busy, offer_keeps, offer_makes, keep_stands}
use Rattle.un_lane.proofs.Sending.{new_away}
use Rattle.un_lane.proofs.path.Path.offer.Goals as goal

abbrev outcome_of : ℕ → List ℕ → Log → Way → Outcome
outcome_of sender frame log way = accept way.tx.params way.lane sender (with_frame way.tx frame) (lane_lines way log)

abbrev left_by : Bool → List ℕ → Answer → Log → Log → Way → Way → Way → Type 0
left_by asleep frame answer log log' way = BuildsIn asleep (offered way.tx frame answer) log log'

pub offer-requires-clause-below : goal.offer-requires-clause-below
offer-requires-clause-below g c = let r = ready_at (outcome_of c.args.sender c.args.frame.now c.args.journal.now) _ _ _ c.self.view_is c.requires.ready in accepted_small _ c.args.journal.now _ r.stands r.room

pub write-requires-clause-room : goal.write-requires-clause-room
write-requires-clause-room g c =
    let r = ready_at (outcome_of c.args.sender c.args.frame.now c.args.journal.now) _ _ _ c.self.view_is c.requires.ready in
    subst (λ o. HasRoom c.args.journal.now (lines_in o)) (offer_keeps _ _ _ c.args.sender c.args.frame.now r.stands c.in-Kept.ensures) r.room

pub write-requires-in-Made-clause-room : goal.write-requires-in-Made-clause-room
write-requires-in-Made-clause-room g c =
    let r = ready_at (outcome_of c.args.sender c.args.frame.now c.args.journal.now) _ _ _ c.self.view_is c.requires.ready in
    room_front c.args.journal.now ((Took c.self.inside.lane c.args.sender, []) ∷ []) ((Made c.self.inside.lane c.self.inside.made c.in-Made.request.from c.in-Made.request.to, c.in-Made.request.bytes) ∷ [])
    (subst (λ o. HasRoom c.args.journal.now (lines_in o)) (offer_makes _ _ _ c.args.sender c.args.frame.now _ c.in-Made.request r.stands refl c.in-Made.ensures) r.room)

pub send-requires-clause-room : goal.send-requires-clause-room
send-requires-clause-room g c =
    let r = ready_at (outcome_of c.args.sender c.args.frame.now c.args.journal.now) _ _ _ c.self.view_is c.requires.ready in
    room_rest c.args.journal.now c.write-in-Made.new.journal ((Took c.self.inside.lane c.args.sender, []) ∷ []) ((Made c.self.inside.lane c.self.inside.made c.in-Made.request.from c.in-Made.request.to, c.in-Made.request.bytes) ∷ [])
    (subst (λ o. HasRoom c.args.journal.now (lines_in o)) (offer_makes _ _ _ c.args.sender c.args.frame.now _ c.in-Made.request r.stands refl c.in-Made.ensures) r.room) c.write-in-Made.ensures

pub send-requires-clause-away : goal.send-requires-clause-away
send-requires-clause-away g c =
    let w = rw (← c.self.view_is) at c.requires.ready.stands in
    rw c.in-Made.ensures.rest (new_away _ _ _ _ _ _ _ c.in-Made.request w.placed (makes_new _ _ _ c.args.sender c.args.frame.now c.in-Made.request w c.in-Made.ensures))

pub send-requires-clause-count : goal.send-requires-clause-count
send-requires-clause-count g c = let r = ready_at (outcome_of c.args.sender c.args.frame.now c.args.journal.now) _ _ _ c.self.view_is c.requires.ready in made_small _ c.args.journal.now _ r.stands r.room

pub send-requires-clause-some : goal.send-requires-clause-some
send-requires-clause-some g c =
    let whole = c.in-Made.ensures.made.whole in
    let some = whole.some in
    let least = transfer_least _ c.in-Made.request.bytes _ whole.reads (omega (arith, some)) in
    omega (arith, least)

pub overflow_add-self : goal.overflow_add-self
overflow_add-self g c = let r = ready_at (outcome_of c.args.sender c.args.frame.now c.args.journal.now) _ _ _ c.self.view_is c.requires.ready in let small = accepted_small _ c.args.journal.now _ r.stands r.room in search (rules, small)

pub overflow_add-self-in-Made : goal.overflow_add-self-in-Made
overflow_add-self-in-Made g c = let r = ready_at (outcome_of c.args.sender c.args.frame.now c.args.journal.now) _ _ _ c.self.view_is c.requires.ready in let small = accepted_small _ c.args.journal.now _ r.stands r.room in search (rules, small)

pub returns-in-Busy : goal.returns-in-Busy
returns-in-Busy g c =
    let w = rw (← c.self.view_is) at c.requires.ready.stands in
    let agrees = rw (← c.self.view_is) at c.requires.agrees in
    does_at (left_by c.args.asleep c.args.frame.now Answer.Busy c.args.journal.now c.args.journal.now) (outcome_of c.args.sender c.args.frame.now c.args.journal.now) _ _ _ _ _ _ c.self.view_is
    (rw c.in-Busy.ensures.same (answered _ _ _ _ _ (offer_busy _ _ _ c.args.sender c.args.frame.now w c.in-Busy.ensures) w (builds_same _ _ _ agrees)))

pub returns-in-Kept : goal.returns-in-Kept
returns-in-Kept g c =
    let w = rw (← c.self.view_is) at c.requires.ready.stands in
    let agrees = rw (← c.self.view_is) at c.requires.agrees in
    does_at (left_by c.args.asleep c.args.frame.now Answer.Did c.args.journal.now c.write.new.journal) (outcome_of c.args.sender c.args.frame.now c.args.journal.now) _ _ _ _ _ _ c.self.view_is
    (wrote _ _ _ _ _ _ _ (offer_keeps _ _ _ c.args.sender c.args.frame.now w c.in-Kept.ensures) c.write.ensures (λ l. refl, tt) (keep_stands _ _ _ c.args.sender c.args.frame.now w c.in-Kept.ensures)
    (builds_after _ _ _ _ _ _ _ _ c.write.ensures (λ l. refl, tt) (keeps_builds _ _ _ c.args.sender c.args.frame.now c.args.asleep c.in-Kept.ensures agrees)) refl)

pub returns-in-Made : goal.returns-in-Made
returns-in-Made g c =
    let w = rw (← c.self.view_is) at c.requires.ready.stands in
    let agrees = rw (← c.self.view_is) at c.requires.agrees in
    let s = c.send.ensures in
    does_at (left_by c.args.asleep c.args.frame.now Answer.Did c.args.journal.now c.send.new.journal) (outcome_of c.args.sender c.args.frame.now c.args.journal.now) _ _ _ _ _ _ c.self.view_is
    (rw s.rest (offer_does _ _ _ _ _ _ _ _ c.args.sender c.args.frame.now c.in-Made.request w agrees c.in-Made.ensures c.write-in-Made.ensures s.line s.sent))
