-- What holds of a history after which no step fits.
use Rattle.std.specs.Prelude.{◌≡◌, ◌<◌, ℕ, Bool, true, false, ◌||◌, reverse, length, Some, None}
use Rattle.un_frame.specs.declared.params.Lane.{Lane}
use Rattle.un_frame.specs.declared.kinds.Phase.{Phase}
use Rattle.un_frame.specs.declared.kinds.Phase.TheVariants.{Down, Away}
use Rattle.un_frame.specs.declared.kinds.Verdict.{Verdict}
use Rattle.un_frame.specs.Verdict.{verdict_of}
use Rattle.un_journal.specs.Script.{Script, Frame}
use Rattle.un_journal.specs.History.{History, past, taken, flies, landed, gave, serial_of, at_peer, is_lost}
use Rattle.un_journal.specs.Lookup.{phase_of, is_awake, is_asleep, is_stopping, is_leaving, controls_done, feed_head, tx_home, offer_needs_home}
use Rattle.un_journal.specs.Fits.{took_span}

abbrev pub is_gone : Phase → Bool
is_gone Down = true
is_gone Away = true
is_gone _ = false

-- nothing flies in either lane
abbrev pub NoneFlies : History → Type 0
NoneFlies h = (lane : Lane) (k : ℕ) → flies (past lane h) k ≡ false

-- every datagram is at the peer or lost
abbrev pub IsSpread : History → Type 0
IsSpread g = (n : ℕ) → n < taken g → (at_peer g n || is_lost g n) ≡ true

-- no landed transfer has a datagram that isn't given
abbrev pub IsGivenOut : History → Type 0
IsGivenOut g = (k n : ℕ) → landed g k ≡ true → serial_of g n ≡ Some k → gave g n ≡ true

-- the sender's feed stands at a frame that is good and needs a request, and none is at home
pub record IsStuck (script : Script) (lane : Lane) (sender : ℕ) (frame : Frame) (g : History) : Type 0 where
  pub is_good : verdict_of script.params lane frame ≡ Verdict.Take
  pub needs : offer_needs_home script.params lane g (took_span script lane sender g) ≡ true
  pub none_home : tx_home script.params lane g ≡ 0

pub record IsFinished (script : Script) (h : History) : Type 0 where
  pub all_ordered : controls_done (reverse h) ≡ length script.controls
  pub none_flies : NoneFlies h
  pub is_settled : (is_stopping (phase_of script h) || is_leaving (phase_of script h)) ≡ false
  pub given_out : (lane : Lane) → IsGivenOut (past lane h)
  -- up
  pub consumed_up : is_awake (phase_of script h) ≡ true
      → (lane : Lane) (sender : ℕ) → feed_head script lane (past lane h) sender ≡ None
  pub spread_up : is_awake (phase_of script h) ≡ true → (lane : Lane) → IsSpread (past lane h)
  -- down and away
  pub spread_gone : is_gone (phase_of script h) ≡ true → (lane : Lane) → IsSpread (past lane h)
  -- asleep
  pub stuck_asleep : is_asleep (phase_of script h) ≡ true → (lane : Lane) (sender : ℕ) (frame : Frame)
      → feed_head script lane (past lane h) sender ≡ Some frame → IsStuck script lane sender frame (past lane h)
