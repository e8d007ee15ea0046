-- Lists of flights.
use Rattle.std.proofs.Common.{◌≡◌, ◌+◌, ◌<◌, Bool, true, false, List, [], ◌∷◌, ◌++◌, cond, if◌then◌else◌, refl, ap, arith}
use Rattle.un_facts.specs.Numbers.{one_if}
use Rattle.un_journal.specs.declared.machine.FlightKey.{FlightKey}
use Rattle.un_journal.specs.Flights.{times, same_flight, Loses}
use Rattle.un_journal.proofs.Theorems.{same_flight-is, same_flight-refl}

-- the list without a flight, once
abbrev pub without : FlightKey → List FlightKey → List FlightKey
without r [] = []
without r (x ∷ xs) = if same_flight r x then xs else x ∷ without r xs

pub times-append : (x : FlightKey) (xs ys : List FlightKey) → times x (xs ++ ys) ≡ times x xs + times x ys
times-append x [] ys = omega arith
times-append x (y ∷ xs) ys = omega (arith, times-append x xs ys)

pub times-without : (r : FlightKey) (xs : List FlightKey) → 0 < times r xs → Loses r xs (without r xs)
times-without r [] h x = absurd (omega arith)
times-without r (y ∷ xs) h x = go (same_flight r y) refl (times-without r xs)
  where
    go : (b : Bool) → same_flight r y ≡ b → (0 < times r xs → Loses r xs (without r xs)) → times x (cond b xs (y ∷ without r xs)) + times x (r ∷ []) ≡ times x (y ∷ xs)
    go true e less = omega (arith, ap (λ (f : FlightKey). one_if (same_flight x f)) (same_flight-is r y e))
    go false e less = omega (arith, less (omega (arith, ap one_if e)) x)

pub empty : (xs : List FlightKey) → ((x : FlightKey) → times x xs ≡ 0) → xs ≡ []
empty [] h = refl
empty (y ∷ xs) h = absurd (omega (arith, h y, ap one_if (same_flight-refl y)))
