-- What the steps inside a builder do, apart from where its requests come from.
use Rattle.std.specs.Prelude.{◌≡◌, ℕ, ◌-◌, Bool, true, false, ◌&&◌, ◌||◌, List, [], ◌∷◌, ◌++◌, length, map, take, drop, Option, None, Some}
use Rattle.un_facts.specs.Lists.{is_empty}
use Rattle.un_frame.specs.declared.params.Lane.{Lane}
use Rattle.un_frame.specs.declared.params.Lane.TheVariants.{Outward, Inward}
use Rattle.un_frame.specs.Cut.{closed_span, ends_at_limit}
use Rattle.un_frame.specs.Lanes.{packs}
use Rattle.un_frame.specs.Wire.{frame_fits}
use Rattle.un_req.specs.Request.{Buffer}
use Rattle.un_endpoint.specs.EndOutcomes.{pending_after}
use Rattle.un_endpoint.specs.declared.outcome.Built.{Built}
use Rattle.un_endpoint.specs.declared.outcome.Built.TheVariants as built
use Rattle.un_agg.specs.Held.{Claim, Held, claim_of}
use Rattle.un_agg.specs.Block.{IsTransfer}

-- the frames with a new one, and the span that it closes
abbrev pub with_frame : Held → List ℕ → List (List ℕ)
with_frame held frame = held.frames ++ frame ∷ []

abbrev pub span_closed : Lane → Held → List ℕ → ℕ → Option (ℕ × ℕ)
span_closed lane held frame number = closed_span held.params lane (with_frame held frame) (number - length held.frames) number

-- all that is held becomes a transfer in the claimed request
pub record IsClosed (old new : Held) (serial : ℕ) (request : Buffer) : Type 0 where
  pub claimed : old.claim ≡ Some (claim_of request)
  pub made : IsTransfer old.params old.frames old.from serial request
  pub rest : new ≡ record old { from = request.to; frames = []; claim = None; pending = 0 }

-- after a frame was appended: a block at its limit is closed, and any other stays, with its pending count
pub record StaysOpen (old new : Held) : Type 0 where
  pub below : ends_at_limit Outward old.params (length old.frames) ≡ false
  pub rest : new ≡ record old { pending = pending_after Outward (length old.frames) old.pending }

pub record ClosesAtLimit (old new : Held) (serial : ℕ) (request : Buffer) : Type 0 where
  pub at_limit : ends_at_limit Outward old.params (length old.frames) ≡ true
  pub closed : IsClosed old new serial request

abbrev pub ClosesIfFull : Held → Held → ℕ → Built → Type 0
ClosesIfFull old new serial built.Kept = StaysOpen old new
ClosesIfFull old new serial (built.Made request) = ClosesAtLimit old new serial request
ClosesIfFull old new serial built.Busy = ⊥

-- a host's builder keeps a frame, as this number, in the block that is built in a request
pub record AddsKept (old new : Held) (claim : Claim) (frame : List ℕ) (number : ℕ) : Type 0 where
  pub stays : span_closed Outward old frame number ≡ None
  pub rest : new ≡ record old {
    from = number - length old.frames;
    frames = with_frame old frame;
    claim = Some claim;
    pending = pending_after Outward (length (with_frame old frame)) old.pending;
  }

-- a builder takes a frame, as this number, and makes a transfer in a request
pub record AddsMade (lane : Lane) (old new : Held) (claim : Claim) (frame : List ℕ) (number serial : ℕ) (request : Buffer) : Type 0 where
  pub span : ℕ × ℕ
  pub closed : span_closed lane old frame number ≡ Some span
  pub claimed : claim ≡ claim_of request
  pub made : IsTransfer old.params (take (span.1 - span.0) (with_frame old frame)) span.0 serial request
  pub end : request.to ≡ span.1
  pub rest : new ≡ record old { from = span.1; frames = drop (span.1 - span.0) (with_frame old frame); claim = None; pending = 0 }

abbrev pub Adds : Held → Held → Claim → List ℕ → ℕ → ℕ → Built → Type 0
Adds old new claim frame number serial built.Kept = AddsKept old new claim frame number
Adds old new claim frame number serial (built.Made request) = AddsMade Outward old new claim frame number serial request
Adds old new claim frame number serial built.Busy = ⊥

-- whether a gadget's builder keeps a frame of this length: it begins a block, or fits the open one
abbrev pub keeps_frame : Held → ℕ → Bool
keeps_frame held size = packs held.params.class Inward && (is_empty held.frames || frame_fits held.params (map length held.frames) size)

-- all that a gadget's builder holds becomes a transfer in a request of the lane's pool
pub record IsCopied (old new : Held) (claim : Claim) (serial : ℕ) (request : Buffer) : Type 0 where
  pub claimed : claim ≡ claim_of request
  pub made : IsTransfer old.params old.frames old.from serial request
  pub rest : new ≡ record old { from = request.to; frames = [] }
