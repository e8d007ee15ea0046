-- Runs of actions, the serial round and the drain.
use Rattle.std.specs.Prelude.{ℕ, zero, suc, ◌+◌, ◌*◌, Bool, true, false, List, [], ◌∷◌, ◌++◌, length, nat_le}
use Rattle.un_frame.specs.declared.params.Lane.TheVariants.{Outward, Inward}
use Rattle.un_journal.specs.declared.actions.Action.{Action}
use Rattle.un_journal.specs.Script.{Script, frame_count}
use Rattle.un_journal.specs.History.{History}
use Rattle.un_journal.specs.Step.{step_of}

-- the history after these actions
abbrev pub run : Script → History → List Action → History
run script h [] = h
run script h (a ∷ rest) = run script (h ++ step_of script h a) rest

-- one round: every action once, in this order
abbrev pub round : List Action
round =
    Action.Control false ∷ Action.Refill Outward ∷ Action.Refill Inward
    ∷ Action.Offer Outward 0 ∷ Action.Offer Outward 1 ∷ Action.Offer Outward 2 ∷ Action.Offer Outward 3
    ∷ Action.Offer Inward 0 ∷ Action.Offer Inward 1 ∷ Action.Offer Inward 2 ∷ Action.Offer Inward 3
    ∷ Action.Tick Outward ∷ Action.Tick Inward ∷ Action.Move Outward ∷ Action.Move Inward
    ∷ Action.TxDone Outward ∷ Action.TxDone Inward ∷ Action.RxDone Outward ∷ Action.RxDone Inward
    ∷ Action.Deliver Outward ∷ Action.Deliver Inward ∷ Action.Unlink Outward ∷ Action.Unlink Inward
    ∷ Action.ClearHalt Outward ∷ Action.ClearHalt Inward ∷ Action.Settle ∷ []

-- The bound on the lines of a history: 22 for each frame; of each receive request one at the start and two for each control, when
-- it is recalled and posted again; 4 for each control.
abbrev pub line_bound : Script → ℕ
line_bound script =
    22 * frame_count script + (2 * length script.controls + 1) * (script.params.rx_out + script.params.rx_in) + 4 * length script.controls

-- whether the second history is no longer than the first
abbrev pub same_length : History → History → Bool
same_length h h' = nat_le (length h') (length h)

-- the drain, in at most so many rounds and forced controls: a round that writes nothing is followed by a forced control, and the drain
-- ends where that writes nothing either
abbrev pub drain_in : ℕ → Script → History → History
drain_in zero script h = h
drain_in (suc rounds) script h =
    let after = run script h round in
    elim (same_length h after) [
      | false ↦ drain_in rounds script after
      | true ↦ let forced = h ++ step_of script h (Action.Control true) in
          elim (same_length h forced) [ false ↦ drain_in rounds script forced | true ↦ h ]
    ]

-- more of them than a history has room for lines, so the drain comes to its end
abbrev pub drain : Script → History → History
drain script h = drain_in (line_bound script + 1) script h
