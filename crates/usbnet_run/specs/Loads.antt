-- What a load answers, and its line.
use Rattle.std.specs.Prelude.{◌≡◌, ℕ, ◌+◌, List, ◌∷◌, ◌++◌, codes, decimal, Ok, Err}
use Rattle.un_frame.specs.declared.params.Lane.TheVariants.{Outward, Inward}
use Rattle.un_journal.specs.History.{History, past}
use Rattle.un_journal.specs.Fits.{IsDone}
use Rattle.un_report.specs.declared.tally.Tally.{Tally}
use Rattle.un_report.specs.Counts.{counts}
use Rattle.un_script.specs.Load.{load_script}
use Rattle.usbnet_run.specs.Kept.{IsKept}
use Rattle.usbnet_run.specs.Refusals.{Answer}
use Rattle.usbnet_run.specs.declared.refusal.Refusal.TheVariants.{NoMemory}

-- a load's packets have 512 bytes
abbrev pub PACKET : ℕ
PACKET = 512

-- the line of so many frames
abbrev pub load_line : ℕ → List ℕ
load_line count = codes "taken" ++ 32 ∷ decimal count ++ codes " given" ++ 32 ∷ decimal count ++ codes " lost" ++ 32 ∷ decimal 0 ++ codes "\n"

-- the counts of a history's lanes: both together have so many accepted and so many delivered datagrams, and none was lost with a failed or cut transfer, or dropped from a builder
pub record IsWholeLoad (count : ℕ) (outward inward : Tally) : Type 0 where
  pub taken : outward.taken + inward.taken ≡ count
  pub given : outward.given + inward.given ≡ count
  pub none_failed : outward.failed + inward.failed ≡ 0
  pub none_cut : outward.cut + inward.cut ≡ 0
  pub none_dropped : outward.dropped + inward.dropped ≡ 0

abbrev pub IsLossless : ℕ → History → Type 0
IsLossless count history = IsWholeLoad count (counts PACKET (past Outward history)) (counts PACKET (past Inward history))

-- a history that the workers and the last drain leave of the load's link: no step continues it, and it has the counts of its line
pub record IsLoad (count : ℕ) (history : History) : Type 0 where
  pub is_kept : IsKept (load_script count) history
  pub is_done : IsDone (load_script count) history
  pub is_whole : IsLossless count history

-- the answers of a load of so many frames: the line of its history, or want of memory
pub data Loads (count : ℕ) : Answer → Type 0 where
  loaded : (history : History) → IsLoad count history → Loads count (Ok (load_line count))
  wants_memory : Loads count (Err NoMemory)
