-- The flights that are out of a machine, as lists in which the order says nothing: what counts is how often a flight stands in one.
use Rattle.std.specs.Prelude.{◌≡◌, ℕ, ◌+◌, Bool, ◌&&◌, ◌==◌, List, [], ◌∷◌}
use Rattle.std.specs.Str.{bytes_eq}
use Rattle.un_facts.specs.Numbers.{one_if}
use Rattle.un_frame.specs.Lanes.{same_lane}
use Rattle.un_journal.specs.declared.machine.FlightKey.{FlightKey}
use Rattle.un_journal.specs.declared.machine.Transfer.{Transfer}
use Rattle.un_journal.specs.declared.got.Got.{Got}
use Rattle.un_journal.specs.declared.got.Got.TheVariants.{Part, Cut, Not}

-- the sum of f over a list
abbrev pub total_of : {A : Type 0} → (A → ℕ) → List A → ℕ
total_of f [] = 0
total_of f (x ∷ xs) = f x + total_of f xs

abbrev pub same_transfer : Transfer → Transfer → Bool
same_transfer a b =
    same_lane a.lane b.lane && (a.serial == b.serial && (a.from == b.from && (a.to == b.to && bytes_eq a.bytes b.bytes)))

abbrev pub same_requests : FlightKey → FlightKey → Bool
same_requests a b = a.tx == b.tx && (a.tx_capacity == b.tx_capacity && (a.rx == b.rx && a.rx_capacity == b.rx_capacity))

abbrev pub same_flight : FlightKey → FlightKey → Bool
same_flight a b = same_transfer a.transfer b.transfer && same_requests a b

-- how often a flight stands in a list
abbrev pub times : FlightKey → List FlightKey → ℕ
times x xs = total_of (λ y. one_if (same_flight x y)) xs

-- the flight is added, and no equal one was there
abbrev pub Gains : FlightKey → List FlightKey → List FlightKey → Type 0
Gains r before after = ((x : FlightKey) → times x after ≡ times x before + times x (r ∷ [])) × (times r before ≡ 0)

-- the flight is removed, once
abbrev pub Loses : FlightKey → List FlightKey → List FlightKey → Type 0
Loses r before after = (x : FlightKey) → times x after + times x (r ∷ []) ≡ times x before

-- what came is what is named. Where it is a part, the part's flight is added to those that are out, and else they stay
abbrev pub Takes : {P : Type 0} → (P → FlightKey) → Got P → Got Transfer → List FlightKey → List FlightKey → Type 0
Takes flight_of (Part p) named before after = (named ≡ Part (flight_of p).transfer) × Gains (flight_of p) before after
Takes flight_of Cut named before after = (named ≡ Cut) × (after ≡ before)
Takes flight_of (Not a) named before after = (named ≡ Not a) × (after ≡ before)
