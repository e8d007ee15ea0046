-- The steps of a link: what each action writes after a history, or the answer of one that writes nothing. How
-- blocks are cut follows the Linux drivers cdc_ncm and f_ncm.
use Rattle.std.specs.Prelude.{ℕ, ◌+◌, ◌-◌, Bool, true, false, not, ◌&&◌, ◌||◌, ◌==◌, nat_lt, nat_le, List, [], ◌∷◌, ◌++◌, map, reverse, length, replicate, Option, Some, None, slice_get, if◌then◌else◌}
use Rattle.std.specs.List.{list_all}
use Rattle.un_frame.specs.Lanes.{tx_size, rx_size}
use Rattle.un_facts.specs.Lists.{is_empty}
use Rattle.un_frame.specs.declared.params.Lane.{Lane}
use Rattle.un_frame.specs.declared.params.Lane.TheVariants.{Outward, Inward}
use Rattle.un_frame.specs.declared.kinds.Phase.{Phase}
use Rattle.un_frame.specs.declared.kinds.Verdict.{Verdict}
use Rattle.un_frame.specs.Verdict.{verdict_of}
use Rattle.un_journal.specs.declared.lines.Line.{Line}
use Rattle.un_journal.specs.declared.actions.Answer.{Answer}
use Rattle.un_journal.specs.declared.actions.Action.{Action}
use Rattle.un_journal.specs.declared.controls.Control.{Control as Order}
use Rattle.un_journal.specs.declared.controls.Due.{Due}
use Rattle.un_journal.specs.Script.{Script, Frame, planned}
use Rattle.un_journal.specs.LaneSteps.{Outcome, Writes, Answers, lines_in, answer_in, bare, made_line, made_lines, accept, tick_built, take_queued, land_marked, tx_done, rx_done, deliver_next, post, unlink_first, clear_set}
use Rattle.un_journal.specs.History.{Entry, History, past, taken, cover, built, posted, flying, mark, attempts}
use Rattle.un_journal.specs.Lookup.{phase_of, works, is_asleep, is_stopping, is_leaving, controls_done, feed_head, feeds_empty, built_frames, tx_home, rx_home, deferred, queued, unmarked}

-- OFFER AND TICK

-- the made line of the lane's next transfer
abbrev pub made_entry : Script → Lane → History → ℕ × ℕ → Entry
made_entry script lane g s = made_line script.params lane (built_frames script lane g) g s

abbrev pub made_if : Script → Lane → History → Option (ℕ × ℕ) → History
made_if script lane g closed = made_lines script.params lane (built_frames script lane g) g closed

abbrev pub judge : Script → Lane → ℕ → History → Verdict → Outcome
judge script lane sender g Verdict.Take =
    accept script.params lane sender (built_frames script lane (bare (Line.Took lane sender) ∷ g)) g
judge script lane sender g why = Writes (bare (Line.Refused lane sender why) ∷ [])

abbrev pub offer_head : Script → Phase → Lane → ℕ → History → Option Frame → Outcome
offer_head script phase lane sender g None = Answers Answer.Spent
offer_head script phase lane sender g (Some frame) =
    if works phase then judge script lane sender g (verdict_of script.params lane frame)
    else Answers (Answer.Down phase)

abbrev pub offer : Script → Phase → Lane → ℕ → History → Outcome
offer script phase lane sender g = offer_head script phase lane sender g (feed_head script lane g sender)

abbrev pub tick : Script → Lane → History → Outcome
tick script lane g = tick_built script.params lane (built_frames script lane g) g

-- TAKE AND LAND

abbrev pub take_flight : Phase → Lane → History → Outcome
take_flight phase lane g = take_queued (is_asleep phase) lane g (queued phase lane g)

abbrev pub land_from : Script → Lane → History → List ℕ → Outcome
land_from script lane g [] = Answers Answer.Nothing
land_from script lane g (k ∷ ks) = land_marked lane (planned script lane k) k (attempts g k) (mark g k)

abbrev pub land_flight : Script → Lane → History → Outcome
land_flight script lane g = land_from script lane g (flying g)

-- REFILL AND STOPS

abbrev pub refill : Script → Phase → Lane → History → Outcome
refill script phase lane g =
    if is_asleep phase then Answers Answer.Asleep
    else (if not (works phase) then Answers (Answer.Down phase)
    else post script.params lane g)

abbrev pub unlink : Phase → Lane → ℕ → History → Outcome
unlink phase lane cause g =
    if is_stopping phase then unlink_first lane cause g (unmarked phase lane g) else Answers Answer.Nothing

abbrev pub clear_halt : Phase → Lane → History → Outcome
clear_halt phase lane g =
    if is_asleep phase then Answers Answer.Asleep
    else (if not (works phase) then Answers (Answer.Down phase)
    else clear_set lane g)

-- the requests of both lanes that aren't home
abbrev pub away : Script → History → ℕ
away script history =
    (tx_size script.params Outward + rx_size script.params Outward + tx_size script.params Inward + rx_size script.params Inward)
    - (tx_home script.params Outward (past Outward history) + rx_home script.params Outward (past Outward history)
    + tx_home script.params Inward (past Inward history) + rx_home script.params Inward (past Inward history))

-- whether every request of both lanes is home
abbrev pub all_home : Script → History → Bool
all_home script history =
    tx_home script.params Outward (past Outward history) == tx_size script.params Outward
    && rx_home script.params Outward (past Outward history) == rx_size script.params Outward
    && tx_home script.params Inward (past Inward history) == tx_size script.params Inward
    && rx_home script.params Inward (past Inward history) == rx_size script.params Inward

abbrev pub settled_line : Script → History → Line
settled_line script history =
    Line.Settled (tx_home script.params Outward (past Outward history)) (rx_home script.params Outward (past Outward history))
    (tx_home script.params Inward (past Inward history)) (rx_home script.params Inward (past Inward history))

abbrev pub settle : Script → History → Outcome
settle script history =
    if not (is_stopping (phase_of script history) || is_leaving (phase_of script history)) then Answers Answer.Nothing
    else (if all_home script history then Writes (bare (settled_line script history) ∷ [])
    else Answers (Answer.Away (away script history)))

-- EVERY STEP BUT A CONTROL'S

pub data Work : Type 0 where
  Offer : Lane → ℕ → Work
  Tick : Lane → Work
  Take : Lane → Work
  Land : Lane → Work
  TxDone : Lane → Work
  RxDone : Lane → Work
  Deliver : Lane → Work
  Refill : Lane → Work
  Unlink : Lane → Work
  ClearHalt : Lane → Work
  Settle : Work

abbrev pub work : Script → History → Work → Outcome
work script h (Offer lane sender) = offer script (phase_of script h) lane sender (past lane h)
work script h (Tick lane) = tick script lane (past lane h)
work script h (Take lane) = take_flight (phase_of script h) lane (past lane h)
work script h (Land lane) = land_flight script lane (past lane h)
work script h (TxDone lane) = tx_done lane (past lane h)
work script h (RxDone lane) = rx_done lane (past lane h)
work script h (Deliver lane) = deliver_next script.params lane (past lane h)
work script h (Refill lane) = refill script (phase_of script h) lane (past lane h)
work script h (Unlink lane) = unlink (phase_of script h) lane (controls_done (reverse h) - 1) (past lane h)
work script h (ClearHalt lane) = clear_halt (phase_of script h) lane (past lane h)
work script h Settle = settle script h

-- CONTROLS

-- the offers of a lane, and its other work; a landing is left out, since it fits only where something flies
abbrev pub offers : Lane → List Work
offers lane = Offer lane 0 ∷ Offer lane 1 ∷ Offer lane 2 ∷ Offer lane 3 ∷ []

abbrev pub other_works : Lane → List Work
other_works lane =
    Tick lane ∷ Take lane ∷ TxDone lane ∷ RxDone lane ∷ Deliver lane ∷ Refill lane ∷ Unlink lane ∷ ClearHalt lane ∷ []

abbrev pub lane_works : Lane → List Work
lane_works lane = offers lane ++ other_works lane

abbrev pub is_still : Outcome → Bool
is_still (Writes lines) = false
is_still (Answers answer) = true

-- no offer of the lane's senders would take or refuse a frame
abbrev pub offers_still : Script → History → Lane → Bool
offers_still script h lane = list_all (λ w. is_still (work script h w)) (offers lane)

-- nothing flies, and no step but a control's fits
abbrev pub quiet : Script → History → Bool
quiet script h =
    is_empty (flying (past Outward h)) && is_empty (flying (past Inward h))
    && list_all (λ w. is_still (work script h w)) (lane_works Outward ++ lane_works Inward ++ Settle ∷ [])

-- lines of the same kind, for each of these transfers
abbrev pub marked_each : Lane → ℕ → List ℕ → History
marked_each lane cause ks = map (λ k. bare (Line.Marked lane k cause)) ks

abbrev pub cut_each : Lane → ℕ → List ℕ → History
cut_each lane cause ks = map (λ k. bare (Line.Cut lane k cause)) ks

abbrev pub recalled_each : Lane → ℕ → History
recalled_each lane n = replicate n (bare (Line.Recalled lane))

abbrev pub dropped_built : Lane → ℕ → History → History
dropped_built lane cause g =
    if built g == 0 then [] else (bare (Line.Dropped lane (cover g) (taken g) cause) ∷ [])

-- the lines that follow the `did` line of a control; out and inw are the lanes' lines
abbrev pub order_lines : Order → ℕ → Phase → History → History → History
order_lines Order.Suspend cause phase out inw = recalled_each Inward (posted inw)
order_lines Order.Resume cause phase out inw = []
order_lines Order.Up cause phase out inw = []
order_lines (Order.Unlink Outward) cause phase out inw = marked_each Outward cause (unmarked phase Outward out)
order_lines (Order.Unlink Inward) cause phase out inw = marked_each Inward cause (unmarked phase Inward inw)
order_lines Order.Down cause phase out inw =
    cut_each Outward cause (deferred phase Outward out) ++ dropped_built Outward cause out ++ dropped_built Inward cause inw
order_lines Order.Unplug cause phase out inw =
    cut_each Outward cause (deferred phase Outward out) ++ dropped_built Outward cause out ++ dropped_built Inward cause inw
    ++ marked_each Outward cause (unmarked phase Outward out) ++ marked_each Inward cause (unmarked phase Inward inw)
    ++ recalled_each Outward (posted out) ++ recalled_each Inward (posted inw)

-- the transfers queued outward or flying in either lane, for a suspend; 0 for every other control
abbrev pub hinders : Order → Phase → History → History → ℕ
hinders Order.Suspend phase out inw = length (queued phase Outward out) + length (flying out) + length (flying inw)
hinders _ phase out inw = 0

abbrev pub is_due : Script → History → Due → Bool
is_due script h due = nat_le due.want (taken (past due.lane h)) || feeds_empty script due.lane (past due.lane h)

abbrev pub control_now : Script → History → Due → Bool → Outcome
control_now script h due forced =
    let out = past Outward h in
    let inw = past Inward h in
    let phase = phase_of script h in
    let cause = controls_done (reverse h) in
    let count = hinders due.control phase out inw in
    if nat_lt 0 count then Answers (Answer.InFlight count)
    else Writes (bare (Line.Control cause forced) ∷ order_lines due.control cause phase out inw)

-- a control that isn't due, where it is forced on a quiet link or not
abbrev pub control_forced : Script → History → Due → Bool → Outcome
control_forced script h due true = control_now script h due true
control_forced script h due false = Answers (Answer.NotDue (taken (past due.lane h)) due.want)

abbrev pub control_head : Script → History → Bool → Option Due → Outcome
control_head script h force None = Answers Answer.NoControl
control_head script h force (Some due) =
    if is_stopping (phase_of script h) || is_leaving (phase_of script h) then Answers (Answer.Down (phase_of script h))
    else (if is_due script h due then control_now script h due false
    else control_forced script h due (force && quiet script h))

abbrev pub control : Script → History → Bool → Outcome
control script h force = control_head script h force (slice_get script.controls (controls_done (reverse h)))

-- ACTIONS

-- the landing of a lane's flight
abbrev pub landing : Script → Lane → History → Outcome
landing script lane h = land_flight script lane (past lane h)

-- an outcome that goes on with the landing after the lines that it wrote
abbrev pub move_after : Script → Lane → History → Outcome → Outcome
move_after script lane h (Answers answer) = Answers answer
move_after script lane h (Writes lines) = Writes (lines ++ lines_in (work script (h ++ lines) (Land lane)))

-- what each action does; Move is Take, and then Land where a flight was taken
abbrev pub outcome : Script → History → Action → Outcome
outcome script h (Action.Offer lane sender) = work script h (Offer lane sender)
outcome script h (Action.Tick lane) = work script h (Tick lane)
outcome script h (Action.Move lane) = move_after script lane h (work script h (Take lane))
outcome script h (Action.TxDone lane) = work script h (TxDone lane)
outcome script h (Action.RxDone lane) = work script h (RxDone lane)
outcome script h (Action.Deliver lane) = work script h (Deliver lane)
outcome script h (Action.Refill lane) = work script h (Refill lane)
outcome script h (Action.Unlink lane) = work script h (Unlink lane)
outcome script h (Action.ClearHalt lane) = work script h (ClearHalt lane)
outcome script h (Action.Control force) = control script h force
outcome script h Action.Settle = work script h Settle

-- the lines and the answer of an action after a history
abbrev pub step_of : Script → History → Action → History
step_of script h action = lines_in (outcome script h action)

abbrev pub answer_of : Script → History → Action → Answer
answer_of script h action = answer_in (outcome script h action)
