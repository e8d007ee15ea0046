-- Transfers of RNDIS that are read.
use Rattle.std.specs.Prelude.{◌≡◌, ℕ, List, map}
use Rattle.un_frame.specs.Bytes.{Place, slice_at}
use Rattle.un_frame.specs.Rndis.{RndisReads}

-- the bytes are data messages with these frames, and what may follow them
pub record IsTransfer (bytes : List ℕ) (frames : List (List ℕ)) : Type 0 where
  pub places : List Place
  pub found : RndisReads bytes places
  pub sliced : frames ≡ map (slice_at bytes) places
