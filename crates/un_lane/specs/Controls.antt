-- A lane's part of the controls, and of the end of a stop.
use Rattle.std.specs.Prelude.{◌≡◌, ℕ, Bool, true, false, List, [], ◌∷◌, ◌++◌, map, drop, length, Option, Some, None}
use Rattle.un_req.specs.Request.{Buffer}
use Rattle.un_endpoint.specs.declared.record.FlightRecord.{FlightRecord}
use Rattle.un_endpoint.specs.Bus.{Bus}
use Rattle.un_journal.specs.History.{Entry, History}
use Rattle.un_journal.specs.Log.{Log}
use Rattle.un_journal.specs.Step.{cut_each, dropped_built, marked_each, recalled_each}
use Rattle.un_lane.specs.Way.{Way, Adds, lane_lines}
use Rattle.un_lane.specs.Phases.{Leaves}
use Rattle.un_lane.specs.Stands.{Stands, serial_of}

-- the serial of the flight where it isn't marked
abbrev pub unmarked_flight : Option FlightRecord → Option ℕ → List ℕ
unmarked_flight None mark = []
unmarked_flight (Some flight) None = flight.serial ∷ []
unmarked_flight (Some flight) (Some cause) = []

-- the transfers that aren't marked: the flight before the queue
abbrev pub unmarked_in : Bus → List ℕ
unmarked_in bus = unmarked_flight bus.flight bus.flight_mark ++ drop (length bus.marks) (map serial_of bus.queue)

-- the lines that mark them, those that cut the deferred transfers, and those that recall the posted requests
abbrev pub unmarked_lines : ℕ → Way → History
unmarked_lines cause way = marked_each way.lane cause (unmarked_in way.bus)

abbrev pub deferred_lines : ℕ → Way → History
deferred_lines cause way = cut_each way.lane cause (map serial_of way.tx.deferred)

abbrev pub posted_lines : Way → History
posted_lines way = recalled_each way.lane (length way.bus.posted)

-- the lines of a lane that is dropped: each deferred transfer is cut, and then what is built is dropped
abbrev pub dropped_lines : ℕ → Way → History → History
dropped_lines cause way g = deferred_lines cause way ++ dropped_built way.lane cause g

-- the deferred transfers are queued in their order
abbrev pub resumed : Way → Way
resumed way = record way {
  tx = record way.tx { deferred = [] };
  bus = record way.bus { queue = way.bus.queue ++ way.tx.deferred };
}

-- the first deferred transfer is queued, or none is deferred
pub record QueuesFirst (old new : Way) : Type 0 where
  pub request : Buffer
  pub left : old.tx.deferred ≡ request ∷ new.tx.deferred
  pub rest : new ≡ record old { tx = record old.tx { deferred = new.tx.deferred }; bus = record old.bus { queue = old.bus.queue ++ request ∷ [] } }

abbrev pub Queues : Way → Way → Bool → Type 0
Queues old new true = QueuesFirst old new
Queues old new false = (old.tx.deferred ≡ []) × (new ≡ old)

-- the halt is cleared
abbrev pub settled : Way → Way
settled way = record way { bus = record way.bus { halted = false } }

-- The first of the lines that are left is written. What a way leaves to write, and what stays, is said by the call.
pub record WritesFirst (left : Way → History) (keeps : Way → Way → Type 0) (old new : Way) (log log' : Log) : Type 0 where
  pub line : Entry
  pub first : left old ≡ line ∷ left new
  pub adds : Adds log log' (line ∷ [])
  pub stands : Stands new (lane_lines new log')
  pub kept : keeps old new

-- no line is left
pub record WritesNone (left : Way → History) (old new : Way) (log log' : Log) : Type 0 where
  pub none : left old ≡ []
  pub same : new ≡ old
  pub same_log : log' ≡ log

abbrev pub Writes : (Way → History) → (Way → Way → Type 0) → Way → Way → Log → Log → Bool → Type 0
Writes left keeps old new log log' true = WritesFirst left keeps old new log log'
Writes left keeps old new log log' false = WritesNone left old new log log'

-- what cutting the deferred transfers leaves as it was
pub record LeavesBus (old new : Way) : Type 0 where
  pub lane_is : new.lane ≡ old.lane
  pub params_are : new.tx.params ≡ old.tx.params
  pub builder_is : new.tx.builder ≡ old.tx.builder
  pub bus_is : new.bus ≡ old.bus

-- what dropping the built frames leaves
pub record LosesBuild (old new : Way) : Type 0 where
  pub lane_is : new.lane ≡ old.lane
  pub params_are : new.tx.params ≡ old.tx.params
  pub none_built : new.tx.builder.frames ≡ []
  pub deferred_are : new.tx.deferred ≡ old.tx.deferred
  pub bus_is : new.bus ≡ old.bus

-- what marking and recalling leave as it was: the flight that is out, too
pub record Stays (old new : Way) : Type 0 where
  pub leaves : Leaves old new
  pub flight_is : new.bus.flight ≡ old.bus.flight
