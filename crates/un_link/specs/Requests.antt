-- Where the requests of a lane are.
use Rattle.std.specs.Prelude.{◌≡◌, ℕ, ◌+◌, ◌<◌, length}
use Rattle.un_endpoint.specs.Ends.{tx_copies, rx_copies, tx_count, rx_count}
use Rattle.un_lane.specs.Way.{Way}
use Rattle.un_lane.specs.Stands.{bus_tx_copies, bus_rx_copies, flight_tx, flight_rx}

-- Each request of a pool, by its number, is in exactly one place: home, claimed, deferred, queued, in the flight or done; home, posted, in the flight, arrived or current. In all places together there are as many
-- as the pool has, so there are no others.
pub record KeepsRequests (way : Way) : Type 0 where
  pub tx_in_one : (n : ℕ) → n < way.tx.size → tx_copies way.tx n + bus_tx_copies way.bus n ≡ 1
  pub rx_in_one : (n : ℕ) → n < way.rx.size → rx_copies way.rx n + bus_rx_copies way.bus n ≡ 1
  pub tx_all : tx_count way.tx + length way.bus.queue + length (flight_tx way.bus.flight) ≡ way.tx.size
  pub rx_all : rx_count way.rx + length way.bus.posted + length (flight_rx way.bus.flight) ≡ way.rx.size
