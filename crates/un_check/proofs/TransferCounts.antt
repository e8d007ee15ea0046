-- What a line does to the counts of a lane's transfers.
use Rattle.std.proofs.Common.{◌≡◌, ℕ, ◌+◌, ◌<◌, ◌≤◌, Bool, true, false, length, ◌++◌, ◌∷◌, [], subst, arith, length-append}
use Rattle.un_facts.specs.Numbers.{one_if}
use Rattle.un_check.specs.declared.transfers.Transfer.{Transfer}
use Rattle.un_check.specs.Transfers.{Transfers, AreCounts}
use Rattle.un_check.specs.TransferLines.{ends_next, marked_at}
use Rattle.un_check.proofs.TransferLists.{marked_length}

-- one that flies was made
pub out_made : (t : Transfers) → AreCounts t → t.is_out ≡ true → t.over < length t.all
out_made t c e = let w : t.over + one_if true ≤ length t.all = subst (λ b. t.over + one_if b ≤ length t.all) e c.within in omega arith

pub made_counts : (t : Transfers) (x : Transfer) → AreCounts t → AreCounts (record t { all = t.all ++ x ∷ [] })
made_counts t x c = record {
  within = rw length-append (let w : t.over + one_if t.is_out ≤ length t.all = c.within in omega arith);
  home_over = c.home_over;
  tries_most = c.tries_most;
  marked_made = rw length-append (let w : t.marked ≤ length t.all = c.marked_made in omega arith);
}

pub flying_counts : (t : Transfers) → AreCounts t → t.over < length t.all → AreCounts (record t { is_out = true })
flying_counts t c low = record { within = omega arith; home_over = c.home_over; tries_most = c.tries_most; marked_made = c.marked_made }

pub over_counts : (t : Transfers) (is_halted : Bool) → AreCounts t → t.over < length t.all → AreCounts (record (ends_next t) { is_halted = is_halted })
over_counts t is_halted c low = record {
  within = omega arith;
  home_over = let h : t.home ≤ t.over = c.home_over in omega arith;
  tries_most = omega arith;
  marked_made = c.marked_made;
}

pub retried_counts : (t : Transfers) → AreCounts t → t.tries < 3 → AreCounts (record t { is_out = false; tries = t.tries + 1 })
retried_counts t c low = record {
  within = let w : t.over + one_if t.is_out ≤ length t.all = c.within in omega arith;
  home_over = c.home_over;
  tries_most = omega arith;
  marked_made = c.marked_made;
}

pub marked_counts : (t : Transfers) (k cause : ℕ) → AreCounts t → k < length t.all → AreCounts (record t { all = marked_at k cause t.all; marked = k + 1 })
marked_counts t k cause c low = record {
  within = rw marked_length c.within;
  home_over = c.home_over;
  tries_most = c.tries_most;
  marked_made = rw marked_length (omega arith);
}

pub home_counts : (t : Transfers) → AreCounts t → t.home < t.over → AreCounts (record t { home = t.home + 1 })
home_counts t c low = record { within = c.within; home_over = omega arith; tries_most = c.tries_most; marked_made = c.marked_made }

pub halt_counts : (t : Transfers) (is_halted : Bool) → AreCounts t → AreCounts (record t { is_halted = is_halted })
halt_counts t is_halted c = record { within = c.within; home_over = c.home_over; tries_most = c.tries_most; marked_made = c.marked_made }
