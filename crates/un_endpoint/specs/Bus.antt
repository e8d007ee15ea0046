-- What an endpoint holds, as plain data.
use Rattle.std.specs.Prelude.{ℕ, ◌+◌, ◌-◌, Bool, false, ◌&&◌, not, is_some, nat_lt, List, [], ◌∷◌, length, Option, Some, None}
use Rattle.un_facts.specs.Numbers.{one_if, within}
use Rattle.un_req.specs.Request.{Buffer}
use Rattle.un_endpoint.specs.declared.record.FlightRecord.{FlightRecord}

-- a transmit request that is under way to a receive request: the first as it was queued, of the second what stays
pub record Trip : Type 0 where
  pub tx : Buffer
  pub rx : ℕ
  pub rx_capacity : ℕ

-- what an endpoint keeps of it
abbrev pub record_of : Trip → FlightRecord
record_of trip = record {
  serial = trip.tx.serial;
  from = trip.tx.from;
  to = trip.tx.to;
  tx = trip.tx.number;
  tx_capacity = trip.tx.capacity;
  rx = trip.rx;
  rx_capacity = trip.rx_capacity;
}

-- the receive request after the copy
abbrev pub received : Trip → Buffer
received trip = record trip.tx { number = trip.rx; capacity = trip.rx_capacity }

-- An endpoint: the lengths that its lists may have and the longest transfer, the queued requests and the causes that mark
-- the first of them, the posted requests, the flight that is out with the cause that marks it, how many attempts have failed of the
-- transfer that is out, or else of the first queued one, and whether it is halted.
pub record Bus : Type 0 where
  pub tx_room : ℕ
  pub rx_room : ℕ
  pub largest : ℕ
  pub queue : List Buffer
  pub marks : List ℕ
  pub posted : List Buffer
  pub flight : Option FlightRecord
  pub flight_mark : Option ℕ
  pub attempts : ℕ
  pub halted : Bool

abbrev pub no_bus : ℕ → ℕ → ℕ → Bus
no_bus tx_room rx_room largest = record {
  tx_room = tx_room;
  rx_room = rx_room;
  largest = largest;
  queue = [];
  marks = [];
  posted = [];
  flight = None;
  flight_mark = None;
  attempts = 0;
  halted = false;
}

-- how often a number stands in the spans of queued transfers, and in that of the flight
unfoldable pub queued_count : ℕ → List Buffer → ℕ
queued_count number [] = 0
queued_count number (r ∷ rs) = one_if (within r.from r.to number) + queued_count number rs

abbrev pub flight_count : ℕ → Option FlightRecord → ℕ
flight_count number None = 0
flight_count number (Some flight) = one_if (within flight.from flight.to number)

-- the serial of the flight
abbrev pub flying_serial : Option FlightRecord → Option ℕ
flying_serial None = None
flying_serial (Some flight) = Some flight.serial

-- the transfers that aren't marked: of the queue all but the marked ones at its front, and the flight where it has no mark
abbrev pub unmarked_count : Bus → ℕ
unmarked_count bus = length bus.queue - length bus.marks + one_if (is_some bus.flight && not (is_some bus.flight_mark))

abbrev pub is_head_marked : Bus → Bool
is_head_marked bus = nat_lt 0 (length bus.queue) && nat_lt 0 (length bus.marks)
