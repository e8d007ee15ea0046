-- What a checker keeps of a lane's transfers: a list by serial, and counts. Transfers end in the order of their serials, so a number
-- tells which are over, and at most the next one flies. Those that are marked stand before those that aren't.
use Rattle.std.specs.Prelude.{◌≡◌, ℕ, ◌+◌, ◌<◌, ◌≤◌, Bool, false, ◌&&◌, ◌==◌, nat_lt, List, [], length, Option, Some, None, is_some, slice_get}
use Rattle.un_facts.specs.Numbers.{one_if}
use Rattle.un_check.specs.declared.transfers.Transfer.{Transfer}
use Rattle.un_journal.specs.History.{History, made, span, flies, ended, mark, attempts, returned, halted}

-- the transfers; how many are over; whether the next one flies, and how many of its attempts failed; how many transmit requests came
-- home; below which serial those that aren't over are marked; and the halt
pub record Transfers : Type 0 where
  pub all : List Transfer
  pub over : ℕ
  pub is_out : Bool
  pub tries : ℕ
  pub home : ℕ
  pub marked : ℕ
  pub is_halted : Bool

-- what its counts are always: what is over or flies was made, and so were the marked; what came home is over; and no transfer is
-- tried again more than three times
pub record AreCounts (t : Transfers) : Type 0 where
  pub within : t.over + one_if t.is_out ≤ length t.all
  pub home_over : t.home ≤ t.over
  pub tries_most : t.tries ≤ 3
  pub marked_made : t.marked ≤ length t.all

-- none was made
abbrev pub no_transfers : Transfers
no_transfers = record { all = []; over = 0; is_out = false; tries = 0; home = 0; marked = 0; is_halted = false }

abbrev pub span_in : Option Transfer → Option (ℕ × ℕ)
span_in None = None
span_in (Some t) = Some (t.from, t.to)

abbrev pub mark_in : Option Transfer → Option ℕ
mark_in None = None
mark_in (Some t) = t.mark

-- they are those of the lane's lines g, the newest first
pub record AreOf (g : History) (t : Transfers) : Type 0 where
  pub counts : AreCounts t
  pub made_is : made g ≡ length t.all
  pub span_is : (k : ℕ) → span g k ≡ span_in (slice_get t.all k)
  pub mark_is : (k : ℕ) → mark g k ≡ mark_in (slice_get t.all k)
  pub ended_is : (k : ℕ) → ended g k ≡ nat_lt k t.over
  pub flies_is : (k : ℕ) → flies g k ≡ (t.is_out && k == t.over)
  pub tries_are : attempts g t.over ≡ t.tries
  pub untried : (k : ℕ) → t.over < k → attempts g k ≡ 0
  pub home_is : returned g ≡ t.home
  pub marked_below : (k : ℕ) → t.over ≤ k → k < length t.all → is_some (mark g k) ≡ nat_lt k t.marked
  pub halted_is : halted g ≡ t.is_halted
