-- What has no fault is its messages, one after the other, and what may follow them.
use Rattle.std.proofs.Common.{◌≡◌, ℕ, List, length, map, None, sym, ap, ◌∙◌, arith}
use Rattle.un_frame.proofs.RndisLemmas.{rndis_sound}
use Rattle.un_frame.specs.Bytes.{slice_at}
use Rattle.un_frame.specs.Rndis.{rndis_fault, rndis_places}
use Rattle.un_rndis.specs.Frames.{IsOn, frames_from}
use Rattle.un_rndis.specs.Transfer.{IsTransfer}
use Rattle.un_rndis.specs.Walk.{places_from}
use Rattle.un_rndis.proofs.Steps.{fault_start}

-- a transfer whose checks found no fault
pub on_start : (bytes : List ℕ) → None ≡ rndis_fault bytes → IsOn bytes 0
on_start bytes none = record { within = omega arith; none = fault_start bytes ∙ sym none }

pub transfer_read : (bytes : List ℕ) → None ≡ rndis_fault bytes → IsTransfer bytes (frames_from bytes 0)
unfolding places_from
transfer_read bytes none = record {
  places = rndis_places (length bytes) bytes 0;
  found = rndis_sound bytes (sym none);
  sliced = ap (λ (left : ℕ). map (slice_at bytes) (rndis_places left bytes 0)) (omega arith);
}
