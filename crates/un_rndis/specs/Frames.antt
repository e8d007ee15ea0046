-- A walk over the frames of a transfer, by a place that is kept apart from the bytes.
use Rattle.std.specs.Prelude.{◌≡◌, ℕ, ◌≤◌, List, length, map, None}
use Rattle.un_frame.specs.Bytes.{slice_at}
use Rattle.un_rndis.specs.Walk.{fault_from, places_from}

-- the frames of the messages from a place on
abbrev pub frames_from : List ℕ → ℕ → List (List ℕ)
frames_from bytes at = map (slice_at bytes) (places_from bytes at)

-- at the place a message begins, or none is left; no message from there on has a fault
pub record IsOn (bytes : List ℕ) (at : ℕ) : Type 0 where
  pub within : at ≤ length bytes
  pub none : fault_from bytes at ≡ None
