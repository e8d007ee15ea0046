-- Flights of a link, and what taking and landing them says.
use Rattle.std.specs.Prelude.{◌≡◌, ℕ, List, [], ◌∷◌, Option, Some, None}
use Rattle.un_frame.specs.declared.params.Lane.{Lane}
use Rattle.un_frame.specs.declared.params.Lane.TheVariants.{Outward, Inward}
use Rattle.un_endpoint.specs.Bus.{Trip}
use Rattle.un_journal.specs.declared.lines.Line.TheVariants.{Flying, Cut as CutLine}
use Rattle.un_journal.specs.declared.got.Got.{Got}
use Rattle.un_journal.specs.declared.got.Got.TheVariants.{Part, Cut, Not}
use Rattle.un_journal.specs.declared.machine.FlightKey.{FlightKey}
use Rattle.un_journal.specs.declared.machine.Transfer.{Transfer}
use Rattle.un_journal.specs.Script.{Script}
use Rattle.un_journal.specs.History.{History, past, span, made_bytes}
use Rattle.un_journal.specs.Log.{Log}
use Rattle.un_journal.specs.LaneSteps.{Outcome, Writes, Answers, lines_in, bare}
use Rattle.un_journal.specs.Step.{Work, work}
use Rattle.un_lane.specs.Way.{Way}
use Rattle.un_lane.specs.Answered.{UnlessTaken}
use Rattle.un_link.specs.declared.half.Half.{Half}
use Rattle.un_link.specs.declared.shared.Shared.{Shared}
use Rattle.un_link.specs.Halves.{Goes}
use Rattle.un_link.specs.Link.{Link, lane_flights}

-- a flight with its lane
pub record LaneTrip : Type 0 where
  pub lane : Lane
  pub trip : Trip

-- what it is as plain data
abbrev pub flight_of : LaneTrip → FlightKey
flight_of f = record {
  transfer = record { lane = f.lane; serial = f.trip.tx.serial; from = f.trip.tx.from; to = f.trip.tx.to; bytes = f.trip.tx.bytes };
  tx = f.trip.tx.number;
  tx_capacity = f.trip.tx.capacity;
  rx = f.trip.rx;
  rx_capacity = f.trip.rx_capacity;
}

-- A MACHINE'S WORDS

-- a transfer by the lane's lines
abbrev pub span_or : Option (ℕ × ℕ) → ℕ × ℕ
span_or None = (0, 0)
span_or (Some s) = s

abbrev pub transfer_in : Lane → History → ℕ → Transfer
transfer_in lane g k = record { lane = lane; serial = k; from = (span_or (span g k)).0; to = (span_or (span g k)).1; bytes = made_bytes g k }

-- what a take gives: a flight where it writes a flying line, and else a cut transfer
abbrev pub got_lines : Lane → History → History → Got Transfer
got_lines lane g ((Flying l k, bytes) ∷ lines) = Part (transfer_in lane g k)
got_lines lane g lines = Cut

abbrev pub got_outcome : Lane → History → Outcome → Got Transfer
got_outcome lane g (Answers answer) = Not answer
got_outcome lane g (Writes lines) = got_lines lane g lines

-- what taking a flight of a lane gives, and the lines that it writes
abbrev pub taken_of : Script → History → Lane → Got Transfer
taken_of script h lane = got_outcome lane (past lane h) (work script h (Work.Take lane))

abbrev pub taken_lines : Script → History → Lane → History
taken_lines script h lane = lines_in (work script h (Work.Take lane))

-- the lines that landing a transfer writes
abbrev pub landed_lines : Script → History → Transfer → History
landed_lines script h transfer = lines_in (work script h (Work.Land transfer.lane))

-- ONE LANE

-- a flight came, and is the lane's only one
pub record IsTaken (lane : Lane) (g : History) (outcome : Outcome) (f : LaneTrip) (before after : List FlightKey) : Type 0 where
  pub lane_is : f.lane ≡ lane
  pub writes : outcome ≡ Writes (bare (Flying lane f.trip.tx.serial) ∷ [])
  pub names : got_outcome lane g outcome ≡ Part (flight_of f).transfer
  pub none_was : before ≡ []
  pub is_out : after ≡ flight_of f ∷ []

-- a queued transfer was cut; none of the lane's flew
pub record IsReaped (lane : Lane) (outcome : Outcome) (before after : List FlightKey) : Type 0 where
  pub writes : (k : ℕ) × (c : ℕ) × (outcome ≡ Writes (bare (CutLine lane k c) ∷ []))
  pub none_was : before ≡ []
  pub none_is : after ≡ []

-- what came of a take, with the lane's flights before and after it
abbrev pub Came : Lane → History → Outcome → Got LaneTrip → List FlightKey → List FlightKey → Type 0
Came lane g outcome (Part f) before after = IsTaken lane g outcome f before after
Came lane g outcome Cut before after = IsReaped lane outcome before after
Came lane g outcome (Not answer) before after = (outcome ≡ Answers answer) × (after ≡ before)

abbrev pub path_flights : Way → Log → List FlightKey
path_flights way log = lane_flights way.lane (past way.lane log.history) way.bus.flight

-- a half after a take, and after a landing
pub record TakesOut {T R : Type 0} (shared shared' : Shared) (half half' : Half T R) (got : Got LaneTrip) : Type 0 where
  pub goes : Goes (Work.Take half.path.lane) shared shared' half half'
  pub came : Came half.path.lane (past half.path.lane shared.journal.history) (work shared.script shared.journal.history (Work.Take half.path.lane)) got (path_flights half.path shared.journal) (path_flights half'.path shared'.journal)
  pub unchanged : UnlessTaken got ((half' ≡ half) × (shared' ≡ shared))

pub record BringsBack {T R : Type 0} (shared shared' : Shared) (half half' : Half T R) : Type 0 where
  pub goes : Goes (Work.Land half.path.lane) shared shared' half half'
  pub none_out : half'.path.bus.flight ≡ None

-- BOTH LANES

abbrev pub across : Lane → Lane
across Outward = Inward
across Inward = Outward

-- the flights of one lane that are out of a link
abbrev pub flights_in : Lane → Link → List FlightKey
flights_in Outward link = lane_flights Outward (past Outward link.log.history) link.out.bus.flight
flights_in Inward link = lane_flights Inward (past Inward link.log.history) link.inward.bus.flight

-- a take in a link: what came of it in its lane, and the other lane's flights as they were
pub record TakesFrom (lane : Lane) (old new : Link) (got : Got LaneTrip) : Type 0 where
  pub came : Came lane (past lane old.log.history) (work old.script old.log.history (Work.Take lane)) got (flights_in lane old) (flights_in lane new)
  pub others : flights_in (across lane) new ≡ flights_in (across lane) old

-- a landing in a link: none of the lane's flights is out any more, and the other lane's are as they were
pub record LandsIn (lane : Lane) (old new : Link) : Type 0 where
  pub none_out : flights_in lane new ≡ []
  pub others : flights_in (across lane) new ≡ flights_in (across lane) old
