-- What the calls of the ends do, by what they answer. The cases of one call leave nothing out and exclude each other.
use Rattle.std.specs.Prelude.{◌≡◌, ℕ, ◌+◌, ◌-◌, ◌<◌, ◌≤◌, Bool, true, false, not, ◌&&◌, ◌||◌, nat_lt, nat_le, List, [], ◌∷◌, ◌++◌, length, take, drop, Option, Some, None, is_some, option_to_list, if◌then◌else◌, ◌⊎◌}
use Rattle.un_facts.specs.Lists.{is_empty}
use Rattle.un_frame.specs.declared.params.Lane.{Lane}
use Rattle.un_frame.specs.declared.params.Lane.TheVariants.{Outward, Inward}
use Rattle.un_frame.specs.Cut.{closed_span}
use Rattle.un_frame.specs.Wire.{form}
use Rattle.un_frame.specs.Parts.{datagram_of}
use Rattle.un_req.specs.Request.{Buffer, blank}
use Rattle.un_endpoint.specs.Ends.{Transmitter, Opened, Receiver, IsWhole, nothing_built}
use Rattle.un_endpoint.specs.declared.outcome.Built.{Built}
use Rattle.un_endpoint.specs.declared.outcome.Built.TheVariants as built
use Rattle.un_endpoint.specs.declared.outcome.Ticked.{Ticked}
use Rattle.un_endpoint.specs.declared.outcome.Ticked.TheVariants as ticked

-- BUILDING

-- the frames with a new one, and the number of the first of them, where the new one has this number
abbrev pub with_frame : Transmitter → List ℕ → List (List ℕ)
with_frame t frame = t.builder.frames ++ frame ∷ []

abbrev pub first_built : Transmitter → ℕ → ℕ
first_built t number = number - length t.builder.frames

-- the span that a new frame closes, if it closes one
abbrev pub closing : Transmitter → List ℕ → ℕ → Option (ℕ × ℕ)
closing t frame number = closed_span t.params t.lane (with_frame t frame) (first_built t number) number

-- whether a frame needs a home request: at a host where no block is open, at a gadget where it closes a block
abbrev pub frame_needs_home : Lane → Option ℕ → Option (ℕ × ℕ) → Bool
frame_needs_home Outward claim closed = not (is_some claim)
frame_needs_home Inward claim closed = is_some closed

abbrev pub tick_needs : Lane → Option ℕ → Bool
tick_needs Outward claim = not (is_some claim)
tick_needs Inward claim = true

-- a call uses a request: the claimed one, or else the next one at home
pub data Uses (old new : Transmitter) (number : ℕ) : Type 0 where
  Claimed : old.builder.claim ≡ Some number → new.home ≡ old.home → Uses old new number
  FromHome : old.builder.claim ≡ None → number < old.size → old.home ≡ new.home ++ number ∷ [] → Uses old new number

-- a transfer that the end has made of frames, with its first number
pub record IsMade (t : Transmitter) (frames : List (List ℕ)) (from serial : ℕ) (request : Buffer) : Type 0 where
  pub from_is : request.from ≡ from
  pub to_is : request.to ≡ from + length frames
  pub serial_is : request.serial ≡ serial
  pub bytes_are : request.bytes ≡ form t.params serial frames
  pub known : request.number < t.size
  pub sized : request.capacity ≡ t.capacity
  pub fits : length request.bytes ≤ t.capacity
  pub whole : IsWhole t.params request

-- the pending count after a frame that stays in the open block
abbrev pub pending_after : Lane → ℕ → ℕ → ℕ
pending_after Outward count pending = if nat_le count 2 then 3 else pending
pending_after Inward count pending = 0

-- the open block takes the frame; at a host it has a claimed request
pub record Keeps (old new : Transmitter) (frame : List ℕ) (number : ℕ) : Type 0 where
  pub stays_open : closing old frame number ≡ None
  pub host : old.lane ≡ Outward → (n : ℕ) × Uses old new n × (new.builder.claim ≡ Some n)
  pub gadget : old.lane ≡ Inward → (new.home ≡ old.home) × (new.builder.claim ≡ None)
  pub from_is : new.builder.from ≡ first_built old number
  pub frames_are : new.builder.frames ≡ with_frame old frame
  pub pending_is : new.builder.pending ≡ pending_after old.lane (length (with_frame old frame)) old.builder.pending
  pub rest : new ≡ record old { home = new.home; builder = new.builder }

-- a transfer is made of the first frames; what is left stays
pub record Makes (old new : Transmitter) (frame : List ℕ) (number serial : ℕ) (request : Buffer) : Type 0 where
  pub span : ℕ × ℕ
  pub closed : closing old frame number ≡ Some span
  pub uses : Uses old new request.number
  pub made : IsMade old (take (span.1 - span.0) (with_frame old frame)) span.0 serial request
  pub end : request.to ≡ span.1
  pub left : new.builder.frames ≡ drop (span.1 - span.0) (with_frame old frame)
  pub from_is : new.builder.from ≡ span.1
  pub no_claim : new.builder.claim ≡ None
  pub no_pending : new.builder.pending ≡ 0
  pub rest : new ≡ record old { home = new.home; builder = new.builder }

pub record IsBusy (old new : Transmitter) (frame : List ℕ) (number : ℕ) : Type 0 where
  pub needs : frame_needs_home old.lane old.builder.claim (closing old frame number) ≡ true
  pub none : old.home ≡ []
  pub same : new ≡ old

-- whether an offer of a frame with this number would be refused for want of a home request
abbrev pub is_busy : Transmitter → List ℕ → ℕ → Bool
is_busy t frame number = frame_needs_home t.lane t.builder.claim (closing t frame number) && is_empty t.home

-- the number goes on where something is built
abbrev pub IsNext : Transmitter → ℕ → Type 0
IsNext t number = 0 < length t.builder.frames → number ≡ t.builder.from + length t.builder.frames

-- the answer is that for each frame of this length, a segment at most, and each number that may come next
abbrev pub CanOffer : Transmitter → ℕ → Bool → Type 0
CanOffer t size answer = (frame : List ℕ) (number : ℕ) → length frame ≡ size → size ≤ t.params.segment → IsNext t number → answer ≡ not (is_busy t frame number)

-- whether a tick would wait or close something
abbrev pub can_tick : Transmitter → Bool
can_tick t = nat_lt 0 (length t.builder.frames) && (nat_lt 0 t.builder.pending || not (tick_needs t.lane t.builder.claim && is_empty t.home))

-- what `offer` did
abbrev pub Offers : Transmitter → Transmitter → List ℕ → ℕ → ℕ → Built → Type 0
Offers old new frame number serial built.Kept = Keeps old new frame number
Offers old new frame number serial (built.Made request) = Makes old new frame number serial request
Offers old new frame number serial built.Busy = IsBusy old new frame number

-- what `tick` did
pub record TicksNothing (old new : Transmitter) : Type 0 where
  pub none : old.builder.frames ≡ []
  pub same : new ≡ old

pub record Waits (old new : Transmitter) : Type 0 where
  pub some : 0 < length old.builder.frames
  pub pends : 0 < old.builder.pending
  pub rest : new ≡ record old { builder = record old.builder { pending = old.builder.pending - 1 } }

pub record LacksRequest (old new : Transmitter) : Type 0 where
  pub some : 0 < length old.builder.frames
  pub due : old.builder.pending ≡ 0
  pub needs : tick_needs old.lane old.builder.claim ≡ true
  pub none : old.home ≡ []
  pub same : new ≡ old

pub record Closes (old new : Transmitter) (serial : ℕ) (request : Buffer) : Type 0 where
  pub some : 0 < length old.builder.frames
  pub due : old.builder.pending ≡ 0
  pub uses : Uses old new request.number
  pub made : IsMade old old.builder.frames old.builder.from serial request
  pub left : new.builder.frames ≡ []
  pub from_is : new.builder.from ≡ request.to
  pub no_claim : new.builder.claim ≡ None
  pub no_pending : new.builder.pending ≡ 0
  pub rest : new ≡ record old { home = new.home; builder = new.builder }

abbrev pub Ticks : Transmitter → Transmitter → ℕ → Ticked → Type 0
Ticks old new serial ticked.Nothing = TicksNothing old new
Ticks old new serial ticked.Waited = Waits old new
Ticks old new serial ticked.NoRequest = LacksRequest old new
Ticks old new serial (ticked.Made request) = Closes old new serial request

-- what `drop_build` did: a claimed request goes home
abbrev pub without_build : Transmitter → Transmitter
without_build t = record t { home = t.home ++ option_to_list t.builder.claim; builder = nothing_built }

pub record Drops (old new : Transmitter) (from to : ℕ) : Type 0 where
  pub some : 0 < length old.builder.frames
  pub from_is : from ≡ old.builder.from
  pub to_is : to ≡ old.builder.from + length old.builder.frames
  pub rest : new ≡ without_build old

abbrev pub DropsBuild : Transmitter → Transmitter → Option (ℕ × ℕ) → Type 0
DropsBuild old new None = (old.builder.frames ≡ []) × (new ≡ old)
DropsBuild old new (Some span) = Drops old new span.0 span.1

-- what `next_deferred` and `tx_done` did
pub record IsNextDeferred (old new : Transmitter) (request : Buffer) : Type 0 where
  pub left : old.deferred ≡ request ∷ new.deferred
  pub rest : new ≡ record old { deferred = new.deferred }

pub record ComesHome (old new : Transmitter) (serial : ℕ) : Type 0 where
  pub request : Buffer
  pub serial_is : request.serial ≡ serial
  pub left : old.done ≡ request ∷ new.done
  pub home_is : new.home ≡ old.home ++ request.number ∷ []
  pub rest : new ≡ record old { home = new.home; done = new.done }

-- RECEIVING

-- what `refill` and `rx_done` did
pub record LeavesHome (old new : Receiver) (request : Buffer) : Type 0 where
  pub empty : request ≡ blank request.number old.capacity
  pub known : request.number < old.size
  pub left : old.home ≡ new.home ++ request.number ∷ []
  pub rest : new ≡ record old { home = new.home }

pub record Opens (old new : Receiver) (serial : ℕ) : Type 0 where
  pub request : Buffer
  pub serial_is : request.serial ≡ serial
  pub none : old.current ≡ None
  pub left : old.arrived ≡ request ∷ new.arrived
  pub rest : new ≡ record old { arrived = new.arrived; current = Some (record { request = request; next = request.from }) }

pub record OpensNothing (old new : Receiver) : Type 0 where
  pub why : (is_some old.current ≡ true) ⊎ (old.arrived ≡ [])
  pub same : new ≡ old

-- what `advance` did: after the last datagram the request goes home
pub record Advances (old new : Receiver) (opened : Opened) : Type 0 where
  pub was : old.current ≡ Some opened
  pub more : opened.next + 1 < opened.request.to
  pub rest : new ≡ record old { current = Some (record opened { next = opened.next + 1 }) }

pub record Finishes (old new : Receiver) (opened : Opened) : Type 0 where
  pub was : old.current ≡ Some opened
  pub last : opened.next + 1 ≡ opened.request.to
  pub rest : new ≡ record old { current = None; home = old.home ++ opened.request.number ∷ [] }

abbrev pub Steps : Receiver → Receiver → Bool → Type 0
Steps old new false = (opened : Opened) × Advances old new opened
Steps old new true = (opened : Opened) × Finishes old new opened

-- the next datagram, with its number
pub record IsLent (r : Receiver) (number : ℕ) (bytes : List ℕ) : Type 0 where
  pub opened : Opened
  pub is_current : r.current ≡ Some opened
  pub number_is : number ≡ opened.next
  pub bytes_are : bytes ≡ datagram_of r.params.class opened.request.bytes (opened.next - opened.request.from)
