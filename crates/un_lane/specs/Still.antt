-- Whether a lane is still: by its lines, and by what its path has.
use Rattle.std.specs.Prelude.{ℕ, Bool, true, false, ◌&&◌, ◌||◌, ◌==◌, List, [], ◌∷◌, length, is_some, if◌then◌else◌, not}
use Rattle.std.specs.List.{list_all}
use Rattle.un_facts.specs.Lists.{is_empty}
use Rattle.un_frame.specs.declared.params.Lane.{Lane}
use Rattle.un_frame.specs.declared.params.Params.{Params}
use Rattle.un_frame.specs.declared.kinds.Phase.{Phase}
use Rattle.un_journal.specs.declared.actions.Answer.{Answer}
use Rattle.un_journal.specs.History.{History, flying}
use Rattle.un_journal.specs.Lookup.{is_asleep, works}
use Rattle.un_journal.specs.LaneSteps.{Outcome, Answers, tick_built, tx_done, rx_done, deliver_next, post}
use Rattle.un_journal.specs.Step.{is_still, take_flight, unlink, clear_halt}
use Rattle.un_frame.specs.declared.kinds.Phase.TheVariants.{Up, Stopping}
use Rattle.un_req.specs.Request.{Buffer}
use Rattle.un_endpoint.specs.Bus.{Bus, is_head_marked, unmarked_count}
use Rattle.un_endpoint.specs.EndOutcomes.{can_tick}
use Rattle.un_lane.specs.Way.{Way}

-- a refill of the lane in a phase
abbrev pub refill_in : Params → Phase → Lane → History → Outcome
refill_in params phase lane g =
    if is_asleep phase then Answers Answer.Asleep
    else (if not (works phase) then Answers (Answer.Down phase)
    else post params lane g)

-- what the lane's work but an offer would do in a phase, in the order of the link's steps
abbrev pub lane_outcomes : Params → Phase → Lane → List (List ℕ) → ℕ → History → List Outcome
lane_outcomes params phase lane frames cause g =
    tick_built params lane frames g ∷ take_flight phase lane g ∷ tx_done lane g ∷ rx_done lane g ∷ deliver_next params lane g
    ∷ refill_in params phase lane g ∷ unlink phase lane cause g ∷ clear_halt phase lane g ∷ []

-- nothing flies in the lane, and none of these would write lines; neither the frames nor the cause matter
abbrev pub is_lane_still : Params → Phase → Lane → List (List ℕ) → ℕ → History → Bool
is_lane_still params phase lane frames cause g =
    is_empty (flying g) && list_all is_still (lane_outcomes params phase lane frames cause g)

-- THE SAME OF A PATH

abbrev pub is_none : List Buffer → Bool
is_none [] = true
is_none (r ∷ rs) = false

-- nothing flies, and the ends have nothing to do
abbrev pub is_idle : Way → Bool
is_idle way =
    not (is_some way.bus.flight) && (not (can_tick way.tx) && (is_none way.tx.done && (is_none way.rx.arrived && not (is_some way.rx.current))))

-- the first queued transfer, if there is one, stays
abbrev pub takes_nothing : Bool → Bus → Bool
takes_nothing asleep bus =
    is_none bus.queue || (not (is_head_marked bus) && (asleep || (bus.halted || is_none bus.posted)))

-- no request is posted or recalled, nothing is marked and no halt is cleared
abbrev pub posts_nothing : Phase → Way → Bool
posts_nothing Up way = (length way.rx.home == 0) && not way.bus.halted
posts_nothing Stopping way = (unmarked_count way.bus == 0) && is_none way.bus.posted
posts_nothing phase way = true

-- all of it
abbrev pub stays : Phase → Way → Bool
stays phase way = is_idle way && (takes_nothing (is_asleep phase) way.bus && posts_nothing phase way)
