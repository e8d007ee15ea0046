-- How an open block is kept, and what is made of it.
use Rattle.std.specs.Prelude.{◌≡◌, ℕ, ◌+◌, ◌<◌, ◌≤◌, true, List, [], length, Option, None, Some}
use Rattle.std.specs.List.{AllByRecursion}
use Rattle.un_frame.specs.declared.params.Params.{Params}
use Rattle.un_frame.specs.OpenFrames.{open_frames}
use Rattle.un_frame.specs.Params.{AreInRange, Agree}
use Rattle.un_frame.specs.Wire.{Coding, IsOpen, FitInTurn, capacity_of, form}
use Rattle.un_req.specs.Request.{Buffer}
use Rattle.un_wire.specs.Codings.{coding_of}
use Rattle.un_endpoint.specs.Ends.{IsWhole}
use Rattle.un_agg.specs.Held.{Claim, claim_of}
use Rattle.un_agg.specs.declared.block.OpenBlock.TheInside.{Inside}

-- the parameters, the frames of the open block, and the request that it is built in; no request, no block
pub record Block : Type 0 where
  pub params : Params
  pub frames : List (List ℕ)
  pub claim : Option Claim

abbrev pub no_block : Params → Block
no_block params = record { params = params; frames = []; claim = None }

-- the frames of an open block stand in the bytes of its request
abbrev pub frames_in : Coding → Option Buffer → List (List ℕ)
frames_in coding None = []
frames_in coding (Some r) = open_frames coding.params coding.sizes r.bytes

abbrev pub claim_in : Option Buffer → Option Claim
claim_in None = None
claim_in (Some r) = Some (claim_of r)

abbrev pub block_in : Inside → Block
block_in b = record { params = (coding_of b.codec).params; frames = frames_in (coding_of b.codec) b.request; claim = claim_in b.request }

-- the request's bytes are those of an open transfer with at least one frame; each has 14 bytes at least, and they fit
pub record IsBlock (coding : Coding) (r : Buffer) : Type 0 where
  pub is_open : coding.is_open ≡ true
  pub left : IsOpen coding.params coding.sizes r.bytes (open_frames coding.params coding.sizes r.bytes)
  pub some : 0 < length coding.sizes
  pub least : AllByRecursion (λ frame. 14 ≤ length frame) (open_frames coding.params coding.sizes r.bytes)
  pub fit : FitInTurn coding.params.class coding.params [] coding.sizes
  pub room : capacity_of coding.params ≤ r.capacity

abbrev pub IsBlockIn : Coding → Option Buffer → Type 0
IsBlockIn coding None = Unit {0}
IsBlockIn coding (Some r) = IsBlock coding r

pub record IsSoundBlock (b : Inside) : Type 0 where
  pub in_range : AreInRange (coding_of b.codec).params
  pub agree : Agree (coding_of b.codec).params
  pub limit : b.limit ≡ (coding_of b.codec).params.datagrams
  pub block : IsBlockIn (coding_of b.codec) b.request

-- a request holds the transfer that is made of frames, of which there is at least one
pub record IsTransfer (params : Params) (frames : List (List ℕ)) (from serial : ℕ) (request : Buffer) : Type 0 where
  pub from_is : request.from ≡ from
  pub to_is : request.to ≡ from + length frames
  pub serial_is : request.serial ≡ serial
  pub bytes_are : request.bytes ≡ form params serial frames
  pub fits : length request.bytes ≤ capacity_of params
  pub whole : IsWhole params request
