-- A flight that was taken is out.
use Rattle.std.proofs.Common.{◌≡◌, ◌<◌, List, [], ◌∷◌, refl, arith}
use Rattle.un_journal.specs.declared.machine.FlightKey.{FlightKey}
use Rattle.un_journal.specs.Flights.{Gains, times}
use Rattle.un_journal.proofs.Theorems.{same_flight-refl}

pub taken_is_out : (f : FlightKey) (before after : List FlightKey) → Gains f before after → 0 < times f after
taken_is_out f before after gains =
    let all = gains.0 f in
    let one : times f (f ∷ []) ≡ 1 = rw (same_flight-refl f) refl in
    omega (arith, all, one)
