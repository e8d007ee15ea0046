-- How an endpoint keeps what it holds.
use Rattle.std.specs.Prelude.{◌≡◌, ◌<◌, ◌≤◌, ◌^◌, true, None, is_some, length}
use Rattle.std.specs.List.{AllByRecursion}
use Rattle.un_endpoint.specs.Bus.{Bus}
use Rattle.un_endpoint.specs.declared.endpoint.Endpoint.TheInside.{Inside}

abbrev pub bus_in : Inside → Bus
bus_in e = record {
  tx_room = e.queue.capacity;
  rx_room = e.posted.capacity;
  largest = e.largest;
  queue = e.queue.items;
  marks = e.marks.items;
  posted = e.posted.items;
  flight = e.flight;
  flight_mark = e.mark;
  attempts = e.attempts;
  halted = e.halted;
}

-- The causes are those of the first queued requests, of none while a flight is out that isn't marked. No transfer is longer than what is
-- posted has room for. At most three attempts have failed, and none where no transfer is out or queued.
pub record IsSoundBus (e : Inside) : Type 0 where
  pub tx_fits : e.queue.capacity < 2 ^ 32
  pub rx_fits : e.posted.capacity < 2 ^ 32
  pub marks_fit : e.queue.capacity ≤ e.marks.capacity
  pub marked : length e.marks.items ≤ length e.queue.items
  pub first_marked : is_some e.flight ≡ true → e.mark ≡ None → length e.marks.items ≡ 0
  pub few_attempts : e.attempts ≤ 3
  pub no_attempts : e.flight ≡ None → length e.queue.items ≡ 0 → e.attempts ≡ 0
  pub full : length e.queue.items ≤ e.queue.capacity
  pub posted_full : length e.posted.items ≤ e.posted.capacity
  pub short : AllByRecursion (λ r. length r.bytes ≤ e.largest) e.queue.items
  pub wide : AllByRecursion (λ r. e.largest ≤ r.capacity) e.posted.items
