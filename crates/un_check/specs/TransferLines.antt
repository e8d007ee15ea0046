-- What one more line does to a lane's transfers, and what each step would write, by what is kept of them.
use Rattle.std.specs.Prelude.{◌≡◌, ℕ, zero, suc, ◌+◌, ◌-◌, ◌<◌, Bool, true, false, ◌&&◌, ◌==◌, nat_lt, nat_le, max, List, [], ◌∷◌, ◌++◌, length, Option, Some, None, slice_get, if◌then◌else◌}
use Rattle.un_facts.specs.Numbers.{one_if}
use Rattle.un_frame.specs.declared.params.Lane.{Lane}
use Rattle.un_frame.specs.declared.kinds.FaultKind.{FaultKind}
use Rattle.un_frame.specs.declared.kinds.FaultKind.TheVariants.{Halt}
use Rattle.un_frame.specs.declared.kinds.Planned.{Planned}
use Rattle.un_frame.specs.declared.kinds.Planned.TheVariants as plans
use Rattle.un_journal.specs.declared.lines.Line.{Line}
use Rattle.un_journal.specs.declared.lines.Line.TheVariants.{Made, Flying, Landed, Failed, Retried, Marked, Cut, TxHome, Cleared, Settled}
use Rattle.un_journal.specs.History.{row_from}
use Rattle.un_check.specs.declared.transfers.Transfer.{Transfer}
use Rattle.un_check.specs.Transfers.{Transfers, mark_in}

-- the first transfer that isn't over and isn't marked, as a serial; it is their number where none is left
abbrev pub first_unmarked : Transfers → ℕ
first_unmarked t = max t.over t.marked

-- the control that marked the first that isn't over
abbrev pub next_mark : Transfers → Option ℕ
next_mark t = mark_in (slice_get t.all t.over)

-- how many are over or fly: the serial of the first that waits
abbrev pub first_waiting : Transfers → ℕ
first_waiting t = t.over + one_if t.is_out

-- that transfer, if there is one
abbrev pub waiting_serial : Transfers → Option ℕ
waiting_serial t = if nat_lt (first_waiting t) (length t.all) then Some (first_waiting t) else None

-- those from a serial on
abbrev pub serials_from : Transfers → ℕ → List ℕ
serials_from t k = row_from k (length t.all - k)

-- the transfer that flies
abbrev pub flying_serials : Transfers → List ℕ
flying_serials t = if t.is_out then t.over ∷ [] else []

-- what a line needs to be one of these transfers' next: what is over goes on in turn
abbrev pub GoesOn : Line → Transfers → Type 0
GoesOn (Made l k a b) t = k ≡ length t.all
GoesOn (Flying l k) t = (k ≡ t.over) × (t.is_out ≡ false) × (t.over < length t.all)
GoesOn (Landed l k) t = (k ≡ t.over) × (t.is_out ≡ true)
GoesOn (Failed l k kind) t = (k ≡ t.over) × (t.is_out ≡ true)
GoesOn (Retried l k n) t = (k ≡ t.over) × (t.is_out ≡ true) × (t.tries < 3)
GoesOn (Cut l k c) t = (k ≡ t.over) × (t.over < length t.all)
GoesOn (Marked l k c) t = (k ≡ first_unmarked t) × (first_unmarked t < length t.all)
GoesOn (TxHome l k) t = (k ≡ t.home) × (t.home < t.over)
GoesOn line t = Unit {0}

-- the transfer that was next is over
abbrev pub ends_next : Transfers → Transfers
ends_next t = record t { over = t.over + 1; is_out = false; tries = 0 }

abbrev pub halts : FaultKind → Bool → Bool
halts Halt before = true
halts kind before = before

abbrev pub with_mark : ℕ → Transfer → Transfer
with_mark cause x = record x { mark = Some cause }

-- the transfer of a serial is marked
abbrev pub marked_at : ℕ → ℕ → List Transfer → List Transfer
marked_at k cause [] = []
marked_at zero cause (x ∷ xs) = with_mark cause x ∷ xs
marked_at (suc k) cause (x ∷ xs) = x ∷ marked_at k cause xs

-- the transfers after a line
abbrev pub after : Line → Transfers → Transfers
after (Made l k a b) t = record t { all = t.all ++ record { from = a; to = b; mark = None } ∷ [] }
after (Flying l k) t = record t { is_out = true }
after (Landed l k) t = ends_next t
after (Failed l k kind) t = record (ends_next t) { is_halted = halts kind t.is_halted }
after (Retried l k n) t = record t { is_out = false; tries = t.tries + 1 }
after (Cut l k c) t = ends_next t
after (Marked l k c) t = record t { all = marked_at k c t.all; marked = k + 1 }
after (TxHome l k) t = record t { home = t.home + 1 }
after (Cleared l) t = record t { is_halted = false }
after (Settled t1 r1 t2 r2) t = record t { is_halted = false }
after line t = t

-- WHAT EACH STEP WOULD WRITE

-- the first queued transfer, with its mark; so many receive requests are posted
abbrev pub takes : Bool → Lane → ℕ → Transfers → Option ℕ → Option Line
takes asleep lane posted t (Some cause) = Some (Cut lane t.over cause)
takes asleep lane posted t None =
    if asleep then None
    else (if t.is_halted then None
    else (if posted == 0 then None
    else Some (Flying lane t.over)))

-- a take; where the lane defers its transfers none is queued
abbrev pub take_line : Bool → Bool → Lane → ℕ → Transfers → Option Line
take_line asleep is_deferring lane posted t =
    if t.is_out then None
    else (if is_deferring then None
    else (if nat_lt t.over (length t.all) then takes asleep lane posted t (next_mark t) else None))

-- a flight lands by what is planned
abbrev pub planned_line : Lane → Planned → Transfers → Option Line
planned_line lane plans.Clean t = Some (Landed lane t.over)
planned_line lane (plans.Proto times) t =
    if nat_le times t.tries then Some (Landed lane t.over)
    else (if nat_lt t.tries 3 then Some (Retried lane t.over (t.tries + 1))
    else (if t.tries == 3 then Some (Failed lane t.over FaultKind.Proto)
    else None))
planned_line lane plans.Halt t = Some (Failed lane t.over FaultKind.Halt)

abbrev pub lands : Lane → Planned → Transfers → Option ℕ → Option Line
lands lane plan t (Some cause) = Some (Cut lane t.over cause)
lands lane plan t None = planned_line lane plan t

abbrev pub land_line : Lane → Planned → Transfers → Option Line
land_line lane plan t = if t.is_out then lands lane plan t (next_mark t) else None

abbrev pub tx_done_line : Lane → Transfers → Option Line
tx_done_line lane t = if nat_lt t.home t.over then Some (TxHome lane t.home) else None

-- the transfers that a stop marks: where the lane defers, the one that flies alone
abbrev pub unmarked_serials : Bool → Transfers → List ℕ
unmarked_serials true t = if t.is_out && nat_le t.marked t.over then t.over ∷ [] else []
unmarked_serials false t = serials_from t (first_unmarked t)

-- the first of them
abbrev pub unmarked_serial : Bool → Transfers → Option ℕ
unmarked_serial true t = if t.is_out && nat_le t.marked t.over then Some t.over else None
unmarked_serial false t = if nat_lt (first_unmarked t) (length t.all) then Some (first_unmarked t) else None

-- one step of a stop
abbrev pub marks_or_recalls : Lane → ℕ → ℕ → Option ℕ → Option Line
marks_or_recalls lane cause posted (Some k) = Some (Marked lane k cause)
marks_or_recalls lane cause posted None = if posted == 0 then None else Some (Line.Recalled lane)

abbrev pub unlink_line : Bool → Lane → ℕ → ℕ → Transfers → Option Line
unlink_line is_deferring lane cause posted t = marks_or_recalls lane cause posted (unmarked_serial is_deferring t)

abbrev pub clear_line : Lane → Transfers → Option Line
clear_line lane t = if t.is_halted then Some (Cleared lane) else None
