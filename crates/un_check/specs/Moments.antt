-- Where a reading of a history stands, by the lines of the history alone: the moments of a legal history, the index at which it stops
-- being one, and the acts whose step may begin with a line.
use Rattle.std.specs.Prelude.{◌≡◌, ℕ, ◌+◌, ◌-◌, ◌<◌, ◌≤◌, ◌++◌, ◌∷◌, length, take, drop, Some, slice_get, ◌⊎◌}
use Rattle.un_journal.specs.declared.lines.Line.{Line}
use Rattle.un_journal.specs.declared.lines.Line.TheVariants.{Took, Refused, Made, Waited, Posted, Flying, Landed, Failed, Retried, Marked, Cut, Dropped, TxHome, Opened, Gave, Recalled, Cleared, Settled}
use Rattle.un_journal.specs.Script.{Script}
use Rattle.un_journal.specs.History.{Entry, History}
use Rattle.un_journal.specs.LaneSteps.{Writes}
use Rattle.un_journal.specs.Step.{Offer, Tick, Take, Land, TxDone, RxDone, Deliver, Refill, Unlink, ClearHalt, Settle}
use Rattle.un_journal.specs.Fits.{Act, Works, Controls, Legal, IsDone, act_outcome}

-- some legal history begins with it
pub record IsMoment (script : Script) (p : History) : Type 0 where
  pub rest : History
  pub is_legal : Legal script (p ++ rest)

-- where a reading of h stops, before the line with index k: the lines before it begin a legal history, with it they begin none; and
-- where there is no such line, h isn't done
pub record StopsAt (script : Script) (h : History) (k : ℕ) : Type 0 where
  pub within : k ≤ length h
  pub begins : IsMoment script (take k h)
  pub no_further : k < length h → IsMoment script (take (k + 1) h) → ⊥
  pub not_done : k ≡ length h → IsDone script h → ⊥

-- the lines of h from index at on begin with these, up to index next
pub record Reads (h : History) (at : ℕ) (lines : History) (next : ℕ) : Type 0 where
  pub is_next : next ≡ at + length lines
  pub within : next ≤ length h
  pub are_lines : take (length lines) (drop at h) ≡ lines

-- they are these lines up to the index k, where h ends or has another line
pub record Differs (h : History) (at : ℕ) (lines : History) (k : ℕ) : Type 0 where
  pub from : at ≤ k
  pub before : k < at + length lines
  pub within : k ≤ length h
  pub are_lines : take (k - at) (drop at h) ≡ take (k - at) lines
  pub is_other : (e : Entry) → slice_get h k ≡ Some e → slice_get lines (k - at) ≡ Some e → ⊥

-- The acts whose step may begin with a line: one, but for a transfer that is cut, which may fly or be queued. A control that is due
-- writes the same lines where it is forced, so it goes by the flag of its line. No step begins with a dropped line.
abbrev pub ActOf : Line → Act → Type 0
ActOf (Took l s) act = act ≡ Works (Offer l s)
ActOf (Refused l s why) act = act ≡ Works (Offer l s)
ActOf (Made l k a b) act = act ≡ Works (Tick l)
ActOf (Waited l) act = act ≡ Works (Tick l)
ActOf (Posted l) act = act ≡ Works (Refill l)
ActOf (Flying l k) act = act ≡ Works (Take l)
ActOf (Landed l k) act = act ≡ Works (Land l)
ActOf (Failed l k kind) act = act ≡ Works (Land l)
ActOf (Retried l k n) act = act ≡ Works (Land l)
ActOf (Marked l k c) act = act ≡ Works (Unlink l)
ActOf (Cut l k c) act = (act ≡ Works (Take l)) ⊎ (act ≡ Works (Land l))
ActOf (Dropped l a b c) act = ⊥
ActOf (TxHome l k) act = act ≡ Works (TxDone l)
ActOf (Opened l k) act = act ≡ Works (RxDone l)
ActOf (Gave l n) act = act ≡ Works (Deliver l)
ActOf (Recalled l) act = act ≡ Works (Unlink l)
ActOf (Cleared l) act = act ≡ Works (ClearHalt l)
ActOf (Line.Control c forced) act = act ≡ Controls forced
ActOf (Settled t1 r1 t2 r2) act = act ≡ Works Settle

-- after h one of them writes a step that begins with this entry
pub record BeginsStep (script : Script) (h : History) (e : Entry) : Type 0 where
  pub act : Act
  pub is_of : ActOf e.0 act
  pub more : History
  pub writes : act_outcome script h act ≡ Writes (e ∷ more)
