-- The test whether two flights are the same is equality.
use Rattle.std.proofs.Common.{◌≡◌, true, eqb-true, eq-eqb, refl}
use Rattle.std.proofs.lemmas.Bool.{and_parts}
use Rattle.std.proofs.lemmas.Slice.Eq.{bytes_eq-Decides}
use Rattle.un_frame.proofs.LaneLemmas.{same_lane-is, same_lane-refl}
use Rattle.un_journal.specs.declared.machine.FlightKey.{FlightKey}
use Rattle.un_journal.specs.declared.machine.Transfer.{Transfer}
use Rattle.un_journal.specs.Flights.{same_transfer, same_flight}

same_transfer-is : (a b : Transfer) → same_transfer a b ≡ true → a ≡ b
same_transfer-is a b e =
    let p = and_parts _ _ e in
    let q = and_parts _ _ p.1 in
    let r = and_parts _ _ q.1 in
    let t = and_parts _ _ r.1 in
    let lane = same_lane-is a.lane b.lane p.0 in
    let serial = eqb-true a.serial b.serial q.0 in
    let from = eqb-true a.from b.from r.0 in
    let to = eqb-true a.to b.to t.0 in
    let bytes = (bytes_eq-Decides a.bytes b.bytes).0 t.1 in
    λ i. record { lane = lane i; serial = serial i; from = from i; to = to i; bytes = bytes i }

pub same_flight-is : (a b : FlightKey) → same_flight a b ≡ true → a ≡ b
same_flight-is a b e =
    let p = and_parts _ _ e in
    let q = and_parts _ _ p.1 in
    let r = and_parts _ _ q.1 in
    let t = and_parts _ _ r.1 in
    let transfer = same_transfer-is a.transfer b.transfer p.0 in
    let tx = eqb-true a.tx b.tx q.0 in
    let tx_capacity = eqb-true a.tx_capacity b.tx_capacity r.0 in
    let rx = eqb-true a.rx b.rx t.0 in
    let rx_capacity = eqb-true a.rx_capacity b.rx_capacity t.1 in
    λ i. record { transfer = transfer i; tx = tx i; tx_capacity = tx_capacity i; rx = rx i; rx_capacity = rx_capacity i }

same_transfer-refl : (a : Transfer) → same_transfer a a ≡ true
same_transfer-refl a = simp (same_lane-refl a.lane, eq-eqb a.serial a.serial refl, eq-eqb a.from a.from refl, eq-eqb a.to a.to refl, (bytes_eq-Decides a.bytes a.bytes).1 refl)

pub same_flight-refl : (a : FlightKey) → same_flight a a ≡ true
same_flight-refl a = simp (same_transfer-refl a.transfer, eq-eqb a.tx a.tx refl, eq-eqb a.tx_capacity a.tx_capacity refl, eq-eqb a.rx a.rx refl, eq-eqb a.rx_capacity a.rx_capacity refl)
