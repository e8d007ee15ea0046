-- How a host's builder keeps what is built.
use Rattle.std.specs.Prelude.{◌≡◌, ℕ, ◌+◌, ◌<◌, ◌≤◌, ◌^◌, true, List, [], ◌∷◌, length, Option, None, Some, IsTrue, vec_capacity}
use Rattle.un_frame.specs.declared.params.Params.{Params}
use Rattle.un_frame.specs.declared.params.Lane.TheVariants.{Outward}
use Rattle.un_frame.specs.Lanes.{packs}
use Rattle.un_frame.specs.Wire.{capacity_of, frame_fits}
use Rattle.un_agg.specs.Held.{Claim, Held}
use Rattle.un_agg.specs.declared.host.HostAgg.TheInside.{Inside}

-- the frame that is left over, or none
abbrev pub remainder_in : List ℕ → List (List ℕ)
remainder_in [] = []
remainder_in (byte ∷ bytes) = (byte ∷ bytes) ∷ []

abbrev pub frames_as : Option Claim → List (List ℕ) → List ℕ → List (List ℕ)
frames_as None frames remainder = remainder_in remainder
frames_as (Some claim) frames remainder = frames

abbrev pub held_in : Inside → Held
held_in a = record {
  params = a.block.params;
  from = a.from;
  frames = frames_as a.block.claim a.block.frames a.remainder.items;
  claim = a.block.claim;
  pending = a.pending;
}

-- a remainder is a frame that a block of its own has room for
pub record IsRemainder (params : Params) (frame : List ℕ) : Type 0 where
  pub least : 14 ≤ length frame
  pub fits : IsTrue (frame_fits params [] (length frame))

-- with no open block nothing is pending; with one there is no remainder
pub record IsLeftOver (params : Params) (frames : List (List ℕ)) (remainder : List ℕ) (pending : ℕ) : Type 0 where
  pub frame : 0 < length remainder → IsRemainder params remainder
  pub no_pending : pending ≡ 0
  pub no_frames : frames ≡ []

pub record IsUnderWay (frames : List (List ℕ)) (remainder : List ℕ) : Type 0 where
  pub no_remainder : remainder ≡ []
  pub some : 0 < length frames

abbrev pub IsEither : Option Claim → Params → List (List ℕ) → List ℕ → ℕ → Type 0
IsEither None params frames remainder pending = IsLeftOver params frames remainder pending
IsEither (Some claim) params frames remainder pending = IsUnderWay frames remainder

pub record IsHost (a : Inside) : Type 0 where
  pub either : IsEither a.block.claim a.block.params a.block.frames a.remainder.items a.pending
  pub packs_it : 0 < length (held_in a).frames → packs a.block.params.class Outward ≡ true
  pub below : a.from + length (held_in a).frames < 2 ^ 64
  pub small : capacity_of a.block.params < 2 ^ 32
  pub room : capacity_of a.block.params ≤ vec_capacity a.remainder
