-- Requests that changed their places: each is in one place still, and as many places are taken.
use Rattle.std.proofs.Common.{◌≡◌, ℕ, ◌+◌, ◌<◌, ◌≤◌, length, arith}
use Rattle.un_frame.specs.declared.params.Lane.{Lane}
use Rattle.un_endpoint.specs.Bus.{Bus}
use Rattle.un_endpoint.specs.Ends.{Transmitter, Receiver, tx_copies, rx_copies, tx_count, rx_count}
use Rattle.un_lane.specs.Stands.{ArePlaced, bus_tx_copies, bus_rx_copies, flight_tx, flight_rx}

pub record TxPlaced (t : Transmitter) (bus : Bus) : Type 0 where
  pub tx_once : (n : ℕ) → tx_copies t n + bus_tx_copies bus n ≤ 1
  pub tx_some : (n : ℕ) → n < t.size → 1 ≤ tx_copies t n + bus_tx_copies bus n
  pub tx_all : tx_count t + length bus.queue + length (flight_tx bus.flight) ≡ t.size

pub record RxPlaced (r : Receiver) (bus : Bus) : Type 0 where
  pub rx_once : (n : ℕ) → rx_copies r n + bus_rx_copies bus n ≤ 1
  pub rx_some : (n : ℕ) → n < r.size → 1 ≤ rx_copies r n + bus_rx_copies bus n
  pub rx_all : rx_count r + length bus.posted + length (flight_rx bus.flight) ≡ r.size

module _ {lane : Lane} {t : Transmitter} {r : Receiver} {bus : Bus} (p : ArePlaced lane t r bus) where
  pub tx_moved : (t' : Transmitter) (bus' : Bus) → t'.size ≡ t.size → ((n : ℕ) → tx_copies t' n + bus_tx_copies bus' n ≡ tx_copies t n + bus_tx_copies bus n)
      → tx_count t' + length bus'.queue + length (flight_tx bus'.flight) ≡ tx_count t + length bus.queue + length (flight_tx bus.flight) → TxPlaced t' bus'
  tx_moved t' bus' s each all = record {
    tx_once = λ n. omega (arith, p.tx_once n, each n);
    tx_some = λ n low. let known : n < t.size = omega (arith, s) in omega (arith, p.tx_some n known, each n);
    tx_all = omega (arith, p.tx_all, s, all);
  }

  pub rx_moved : (r' : Receiver) (bus' : Bus) → r'.size ≡ r.size → ((n : ℕ) → rx_copies r' n + bus_rx_copies bus' n ≡ rx_copies r n + bus_rx_copies bus n)
      → rx_count r' + length bus'.posted + length (flight_rx bus'.flight) ≡ rx_count r + length bus.posted + length (flight_rx bus.flight) → RxPlaced r' bus'
  rx_moved r' bus' s each all = record {
    rx_once = λ n. omega (arith, p.rx_once n, each n);
    rx_some = λ n low. let known : n < r.size = omega (arith, s) in omega (arith, p.rx_some n known, each n);
    rx_all = omega (arith, p.rx_all, s, all);
  }
