-- The table of steps: which lines may be one step after a history. One rule for each row: what it needs, and the lines. Legal
-- histories are those that these steps leave.
use Rattle.std.specs.Prelude.{◌≡◌, ◌≢◌, ◌<◌, ℕ, ◌+◌, ◌-◌, Bool, true, false, [], ◌∷◌, ◌++◌, reverse, Option, Some, None, slice_get, ◌||◌}
use Rattle.un_frame.specs.declared.params.Lane.{Lane}
use Rattle.un_frame.specs.declared.params.Lane.TheVariants.{Outward, Inward}
use Rattle.un_frame.specs.declared.kinds.Verdict.{Verdict}
use Rattle.un_frame.specs.declared.kinds.FaultKind.{FaultKind}
use Rattle.un_frame.specs.Verdict.{verdict_of}
use Rattle.un_journal.specs.declared.lines.Line.{Line}
use Rattle.un_journal.specs.declared.controls.Due.{Due}
use Rattle.un_frame.specs.Attempts.{ArrivesAfter, RetriesAfter, FailsAfter}
use Rattle.un_journal.specs.Script.{Script, Frame, planned}
use Rattle.un_journal.specs.History.{History, past, taken, cover, built, returned, posted, flying, flies, arrived, current, left_of, ended, halted, mark, attempts, first}
use Rattle.un_journal.specs.Lookup.{phase_of, works, is_awake, is_asleep, is_stopping, is_leaving, controls_done, feed_head, span_after_took, tx_home, rx_home, offer_needs_home, tick_needs_home, pending, queued, unmarked}
use Rattle.un_journal.specs.LaneSteps.{bare, datagram_bytes, Outcome}
use Rattle.un_journal.specs.Step.{Work, Offer, Tick, Take, Land, TxDone, RxDone, Deliver, Refill, Unlink, ClearHalt, Settle, made_if, made_entry, settled_line, all_home, order_lines, hinders, is_due, quiet, work, control}

-- what a step is a step of
pub data Act : Type 0 where
  Works : Work → Act
  Controls : (force : Bool) → Act

-- an offer that is taken, after its took line
abbrev pub after_took : Lane → ℕ → History → History
after_took lane sender g = bare (Line.Took lane sender) ∷ g

-- the span that it closes, if it closes one
abbrev pub took_span : Script → Lane → ℕ → History → Option (ℕ × ℕ)
took_span script lane sender g = span_after_took script lane (after_took lane sender g)

-- the rows, by act: offer, tick, take, land, the done list, the receiving end, stops, controls
pub data Fits (script : Script) (h : History) : Act → History → Type 0 where
  takes : (lane : Lane) (sender : ℕ) (frame : Frame)
      → works (phase_of script h) ≡ true
      → feed_head script lane (past lane h) sender ≡ Some frame
      → verdict_of script.params lane frame ≡ Verdict.Take
      → (offer_needs_home script.params lane (past lane h) (took_span script lane sender (past lane h)) ≡ true
      → 0 < tx_home script.params lane (past lane h))
      → Fits script h (Works (Offer lane sender))
      (bare (Line.Took lane sender)
      ∷ made_if script lane (after_took lane sender (past lane h)) (took_span script lane sender (past lane h)))
  refuses : (lane : Lane) (sender : ℕ) (frame : Frame) (why : Verdict)
      → works (phase_of script h) ≡ true
      → feed_head script lane (past lane h) sender ≡ Some frame
      → verdict_of script.params lane frame ≡ why → why ≢ Verdict.Take
      → Fits script h (Works (Offer lane sender)) (bare (Line.Refused lane sender why) ∷ [])
  waits_once : (lane : Lane)
      → 0 < pending script.params lane (past lane h)
      → Fits script h (Works (Tick lane)) (bare (Line.Waited lane) ∷ [])
  closes : (lane : Lane)
      → 0 < built (past lane h)
      → pending script.params lane (past lane h) ≡ 0
      → (tick_needs_home script.params lane (past lane h) ≡ true → 0 < tx_home script.params lane (past lane h))
      → Fits script h (Works (Tick lane))
      (made_entry script lane (past lane h) (cover (past lane h), taken (past lane h)) ∷ [])
  begins_flight : (lane : Lane) (k : ℕ)
      → is_asleep (phase_of script h) ≡ false
      → flying (past lane h) ≡ []
      → first (queued (phase_of script h) lane (past lane h)) ≡ Some k
      → mark (past lane h) k ≡ None
      → halted (past lane h) ≡ false
      → 0 < posted (past lane h)
      → Fits script h (Works (Take lane)) (bare (Line.Flying lane k) ∷ [])
  cuts_queued : (lane : Lane) (k c : ℕ)
      → flying (past lane h) ≡ []
      → first (queued (phase_of script h) lane (past lane h)) ≡ Some k
      → mark (past lane h) k ≡ Some c
      → Fits script h (Works (Take lane)) (bare (Line.Cut lane k c) ∷ [])
  lands : (lane : Lane) (k : ℕ)
      → flies (past lane h) k ≡ true → mark (past lane h) k ≡ None
      → ArrivesAfter (planned script lane k) (attempts (past lane h) k)
      → Fits script h (Works (Land lane)) (bare (Line.Landed lane k) ∷ [])
  tries_again : (lane : Lane) (k : ℕ)
      → flies (past lane h) k ≡ true → mark (past lane h) k ≡ None
      → RetriesAfter (planned script lane k) (attempts (past lane h) k)
      → Fits script h (Works (Land lane)) (bare (Line.Retried lane k (attempts (past lane h) k + 1)) ∷ [])
  fails : (lane : Lane) (k : ℕ) (kind : FaultKind)
      → flies (past lane h) k ≡ true → mark (past lane h) k ≡ None
      → FailsAfter (planned script lane k) (attempts (past lane h) k) kind
      → Fits script h (Works (Land lane)) (bare (Line.Failed lane k kind) ∷ [])
  cuts_flight : (lane : Lane) (k c : ℕ)
      → flies (past lane h) k ≡ true → mark (past lane h) k ≡ Some c
      → Fits script h (Works (Land lane)) (bare (Line.Cut lane k c) ∷ [])
  comes_home : (lane : Lane)
      → ended (past lane h) (returned (past lane h)) ≡ true
      → Fits script h (Works (TxDone lane)) (bare (Line.TxHome lane (returned (past lane h))) ∷ [])
  opens : (lane : Lane) (k : ℕ)
      → current (past lane h) ≡ None
      → first (arrived (past lane h)) ≡ Some k
      → Fits script h (Works (RxDone lane)) (bare (Line.Opened lane k) ∷ [])
  gives : (lane : Lane) (k n : ℕ)
      → current (past lane h) ≡ Some k
      → first (left_of (past lane h) k) ≡ Some n
      → Fits script h (Works (Deliver lane)) ((Line.Gave lane n, datagram_bytes script.params (past lane h) k n) ∷ [])
  posts_one : (lane : Lane)
      → is_awake (phase_of script h) ≡ true
      → 0 < rx_home script.params lane (past lane h)
      → Fits script h (Works (Refill lane)) (bare (Line.Posted lane) ∷ [])
  marks : (lane : Lane) (k : ℕ)
      → is_stopping (phase_of script h) ≡ true
      → first (unmarked (phase_of script h) lane (past lane h)) ≡ Some k
      → Fits script h (Works (Unlink lane)) (bare (Line.Marked lane k (controls_done (reverse h) - 1)) ∷ [])
  recalls_one : (lane : Lane)
      → is_stopping (phase_of script h) ≡ true
      → unmarked (phase_of script h) lane (past lane h) ≡ []
      → 0 < posted (past lane h)
      → Fits script h (Works (Unlink lane)) (bare (Line.Recalled lane) ∷ [])
  clears : (lane : Lane)
      → is_awake (phase_of script h) ≡ true
      → halted (past lane h) ≡ true
      → Fits script h (Works (ClearHalt lane)) (bare (Line.Cleared lane) ∷ [])
  settles :
      (is_stopping (phase_of script h) || is_leaving (phase_of script h)) ≡ true
      → all_home script h ≡ true
      → Fits script h (Works Settle) (bare (settled_line script h) ∷ [])
  orders : (force : Bool) (due : Due)
      → slice_get script.controls (controls_done (reverse h)) ≡ Some due
      → (is_stopping (phase_of script h) || is_leaving (phase_of script h)) ≡ false
      → is_due script h due ≡ true
      → hinders due.control (phase_of script h) (past Outward h) (past Inward h) ≡ 0
      → Fits script h (Controls force)
      (bare (Line.Control (controls_done (reverse h)) false)
      ∷ order_lines due.control (controls_done (reverse h)) (phase_of script h) (past Outward h) (past Inward h))
  orders_forced : (due : Due)
      → slice_get script.controls (controls_done (reverse h)) ≡ Some due
      → (is_stopping (phase_of script h) || is_leaving (phase_of script h)) ≡ false
      → is_due script h due ≡ false
      → quiet script h ≡ true
      → hinders due.control (phase_of script h) (past Outward h) (past Inward h) ≡ 0
      → Fits script h (Controls true)
      (bare (Line.Control (controls_done (reverse h)) true)
      ∷ order_lines due.control (controls_done (reverse h)) (phase_of script h) (past Outward h) (past Inward h))

-- the histories that steps leave
pub data Legal (script : Script) : History → Type 0 where
  begins : Legal script []
  goes_on : (h lines : History) (act : Act) → Legal script h → Fits script h act lines → Legal script (h ++ lines)

-- a legal history after which no step fits
pub record IsDone (script : Script) (h : History) : Type 0 where
  pub is_legal : Legal script h
  pub none_fits : (act : Act) (lines : History) → Fits script h act lines → ⊥

-- what an act does
abbrev pub act_outcome : Script → History → Act → Outcome
act_outcome script h (Works w) = work script h w
act_outcome script h (Controls force) = control script h force
