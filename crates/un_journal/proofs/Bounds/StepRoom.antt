-- The lines of a step and their bytes have room.
use Rattle.std.proofs.Common.{◌≡◌, ◌+◌, ◌≤◌, ◌++◌, length, arith, length-append}
use Rattle.un_frame.specs.Params.{AreInRange, Agree}
use Rattle.un_journal.specs.declared.actions.Action.{Action}
use Rattle.un_journal.specs.Script.{Script}
use Rattle.un_journal.specs.History.{History}
use Rattle.un_journal.specs.LaneSteps.{lines_in}
use Rattle.un_journal.specs.Step.{step_of}
use Rattle.un_journal.specs.Fits.{Act, Legal, act_outcome}
use Rattle.un_journal.specs.Drain.{line_bound}
use Rattle.un_journal.specs.Bytes.{bytes_in, byte_bound}
use Rattle.un_journal.proofs.Steps.StayLegal.{legal_act, legal_step}
use Rattle.un_journal.proofs.Bounds.LineBound.{legal_bound}
use Rattle.un_journal.proofs.Bounds.ByteBound.{legal_room}
use Rattle.un_journal.proofs.Bounds.Parameters.{wire_holds}
use Rattle.un_journal.proofs.Lists.Counting.{bytes_append}

-- the lines of an act have room
pub act_has_room : (script : Script) (h : History) (act : Act) → Legal script h → length h + length (lines_in (act_outcome script h act)) ≤ line_bound script
act_has_room script h act legal =
    let e : length (h ++ lines_in (act_outcome script h act)) ≡ length h + length (lines_in (act_outcome script h act)) = length-append h (lines_in (act_outcome script h act)) in
    let b : length (h ++ lines_in (act_outcome script h act)) ≤ line_bound script = legal_bound script _ (legal_act script h act legal) in omega arith

pub step_has_room : (script : Script) (h : History) (action : Action) → Legal script h → length h + length (step_of script h action) ≤ line_bound script
step_has_room script h action legal =
    let e : length (h ++ step_of script h action) ≡ length h + length (step_of script h action) = length-append h (step_of script h action) in
    let b : length (h ++ step_of script h action) ≤ line_bound script = legal_bound script _ (legal_step script h action legal) in omega arith

-- and so do their bytes
pub act_has_byte_room : (script : Script) (h : History) (act : Act) → AreInRange script.params → Agree script.params → Legal script h → bytes_in h + bytes_in (lines_in (act_outcome script h act)) ≤ byte_bound script
act_has_byte_room script h act ranges agree legal =
    let e : bytes_in (h ++ lines_in (act_outcome script h act)) ≡ bytes_in h + bytes_in (lines_in (act_outcome script h act)) = bytes_append h (lines_in (act_outcome script h act)) in
    let b : bytes_in (h ++ lines_in (act_outcome script h act)) ≤ byte_bound script = legal_room script _ (wire_holds script.params ranges agree) (legal_act script h act legal) in omega arith

pub step_has_byte_room : (script : Script) (h : History) (action : Action) → AreInRange script.params → Agree script.params → Legal script h → bytes_in h + bytes_in (step_of script h action) ≤ byte_bound script
step_has_byte_room script h action ranges agree legal =
    let e : bytes_in (h ++ step_of script h action) ≡ bytes_in h + bytes_in (step_of script h action) = bytes_append h (step_of script h action) in
    let b : bytes_in (h ++ step_of script h action) ≤ byte_bound script = legal_room script _ (wire_holds script.params ranges agree) (legal_step script h action legal) in omega arith
