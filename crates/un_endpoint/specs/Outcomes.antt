-- What the calls of an endpoint do, by what they answer. The cases of one call leave nothing out and exclude each other.
use Rattle.std.specs.Prelude.{◌≡◌, ℕ, ◌+◌, ◌<◌, Bool, true, false, ◌||◌, ◌&&◌, not, is_some, [], ◌∷◌, ◌++◌, length, Option, Some, None, slice_get, ◌⊎◌}
use Rattle.un_frame.specs.declared.kinds.FaultKind.{FaultKind}
use Rattle.un_frame.specs.declared.kinds.FaultKind.TheVariants.{Proto, Halt}
use Rattle.un_frame.specs.declared.kinds.Planned.{Planned}
use Rattle.un_frame.specs.Attempts.{ArrivesAfter, RetriesAfter, FailsAfter}
use Rattle.un_req.specs.Request.{Buffer}
use Rattle.un_endpoint.specs.Bus.{Bus, Trip, record_of, received}
use Rattle.un_endpoint.specs.declared.record.FlightRecord.{FlightRecord}
use Rattle.un_endpoint.specs.declared.outcome.Taken.{Taken}
use Rattle.un_endpoint.specs.declared.outcome.Taken.TheVariants as taken
use Rattle.un_endpoint.specs.declared.outcome.Landed.{Landed}
use Rattle.un_endpoint.specs.declared.outcome.Landed.TheVariants as landed

-- no flight is out, and the first queued request isn't marked
pub record HasHead (bus : Bus) : Type 0 where
  pub alone : bus.flight ≡ None
  pub some : 0 < length bus.queue
  pub unmarked : bus.marks ≡ []

-- a flight is taken: the first queued and the first posted request
pub record Departs (old new : Bus) (trip : Trip) : Type 0 where
  pub posted : Buffer
  pub alone : old.flight ≡ None
  pub unmarked : old.marks ≡ []
  pub awake : old.halted ≡ false
  pub left : old.queue ≡ trip.tx ∷ new.queue
  pub used : old.posted ≡ posted ∷ new.posted
  pub number : trip.rx ≡ posted.number
  pub capacity : trip.rx_capacity ≡ posted.capacity
  pub rest : new ≡ record old { queue = new.queue; posted = new.posted; flight = Some (record_of trip); flight_mark = None }

-- the first queued request was marked, and is given up with its attempts
pub record Reaps (old new : Bus) (request : Buffer) (cause : ℕ) : Type 0 where
  pub alone : old.flight ≡ None
  pub left : old.queue ≡ request ∷ new.queue
  pub marked : old.marks ≡ cause ∷ new.marks
  pub rest : new ≡ record old { queue = new.queue; marks = new.marks; attempts = 0 }

pub record StaysAsleep (asleep : Bool) (old new : Bus) : Type 0 where
  pub head : HasHead old
  pub asleep_is : asleep ≡ true
  pub same : new ≡ old

pub record StaysHalted (asleep : Bool) (old new : Bus) : Type 0 where
  pub head : HasHead old
  pub asleep_is : asleep ≡ false
  pub halted : old.halted ≡ true
  pub same : new ≡ old

pub record HasNoBuffer (asleep : Bool) (old new : Bus) : Type 0 where
  pub head : HasHead old
  pub asleep_is : asleep ≡ false
  pub awake : old.halted ≡ false
  pub none : old.posted ≡ []
  pub same : new ≡ old

pub record IsFlying (old new : Bus) (serial : ℕ) : Type 0 where
  pub flight : FlightRecord
  pub out : old.flight ≡ Some flight
  pub serial_is : flight.serial ≡ serial
  pub same : new ≡ old

pub record IsIdle (old new : Bus) : Type 0 where
  pub alone : old.flight ≡ None
  pub none : old.queue ≡ []
  pub same : new ≡ old

-- what `take` did
abbrev pub Takes : Bool → Bus → Bus → Option Taken → Type 0
Takes asleep old new None = StaysAsleep asleep old new
Takes asleep old new (Some (taken.Flight trip)) = (asleep ≡ false) × Departs old new trip
Takes asleep old new (Some (taken.Reaped request cause)) = Reaps old new request cause
Takes asleep old new (Some taken.Empty) = IsIdle old new
Takes asleep old new (Some (taken.Flying serial)) = IsFlying old new serial
Takes asleep old new (Some taken.Halted) = StaysHalted asleep old new
Takes asleep old new (Some taken.NoBuffer) = HasNoBuffer asleep old new

-- whether a fault halts
abbrev pub halts : FaultKind → Bool
halts Proto = false
halts Halt = true

-- what `land` did
pub record Arrives (old new : Bus) (trip : Trip) (plan : Planned) (tx rx : Buffer) : Type 0 where
  pub unmarked : old.flight_mark ≡ None
  pub planned : ArrivesAfter plan old.attempts
  pub sent : tx ≡ trip.tx
  pub got : rx ≡ received trip
  pub rest : new ≡ record old { flight = None; flight_mark = None; attempts = 0 }

pub record Retries (old new : Bus) (trip : Trip) (plan : Planned) (rx : Buffer) (attempt : ℕ) : Type 0 where
  pub unmarked : old.flight_mark ≡ None
  pub none_marked : length old.marks ≡ 0
  pub planned : RetriesAfter plan old.attempts
  pub attempt_is : attempt ≡ old.attempts + 1
  pub got : rx ≡ received trip
  pub rest : new ≡ record old { queue = trip.tx ∷ old.queue; flight = None; flight_mark = None; attempts = old.attempts + 1 }

pub record Fails (old new : Bus) (trip : Trip) (plan : Planned) (tx rx : Buffer) (kind : FaultKind) : Type 0 where
  pub unmarked : old.flight_mark ≡ None
  pub planned : FailsAfter plan old.attempts kind
  pub sent : tx ≡ trip.tx
  pub got : rx ≡ received trip
  pub rest : new ≡ record old { flight = None; flight_mark = None; attempts = 0; halted = halts kind || old.halted }

pub record IsSevered (old new : Bus) (trip : Trip) (tx rx : Buffer) (cause : ℕ) : Type 0 where
  pub marked : old.flight_mark ≡ Some cause
  pub sent : tx ≡ trip.tx
  pub got : rx ≡ received trip
  pub rest : new ≡ record old { flight = None; flight_mark = None; attempts = 0 }

abbrev pub Lands : Bus → Bus → Trip → Planned → Landed → Type 0
Lands old new trip plan (landed.Arrived tx rx) = Arrives old new trip plan tx rx
Lands old new trip plan (landed.Retried rx attempt) = Retries old new trip plan rx attempt
Lands old new trip plan (landed.Failed tx rx kind) = Fails old new trip plan tx rx kind
Lands old new trip plan (landed.Cut tx rx cause) = IsSevered old new trip tx rx cause

-- whether a flight is out that isn't marked
abbrev pub has_unmarked_flight : Bus → Bool
has_unmarked_flight bus = is_some bus.flight && not (is_some bus.flight_mark)

-- what `mark_oldest` did: the flight comes before the queue
pub record MarksFlight (old new : Bus) (cause serial : ℕ) : Type 0 where
  pub flight : FlightRecord
  pub out : old.flight ≡ Some flight
  pub unmarked : old.flight_mark ≡ None
  pub serial_is : flight.serial ≡ serial
  pub rest : new ≡ record old { flight_mark = Some cause }

pub record MarksQueued (old new : Bus) (cause serial : ℕ) : Type 0 where
  pub request : Buffer
  pub no_flight : has_unmarked_flight old ≡ false
  pub found : slice_get old.queue (length old.marks) ≡ Some request
  pub serial_is : request.serial ≡ serial
  pub rest : new ≡ record old { marks = old.marks ++ cause ∷ [] }

pub record MarksNone (old new : Bus) : Type 0 where
  pub no_flight : has_unmarked_flight old ≡ false
  pub all : length old.marks ≡ length old.queue
  pub same : new ≡ old

abbrev pub Marks : Bus → Bus → ℕ → Option ℕ → Type 0
Marks old new cause None = MarksNone old new
Marks old new cause (Some serial) = MarksFlight old new cause serial ⊎ MarksQueued old new cause serial
