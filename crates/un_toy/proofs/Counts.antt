-- The lines of a kind after one line more.
use Rattle.std.proofs.Common.{◌≡◌, ℕ, ◌+◌, ◌<◌, Bool, true, false, nat_lt, [], ◌∷◌, ◌++◌, if◌then◌else◌, refl, ap, ◌∙◌, arith}
use Rattle.un_facts.specs.Numbers.{one_if}
use borrow.Author.Tests.{ltb-true}
use Rattle.un_journal.specs.declared.machine.FlightKey.{FlightKey}
use Rattle.un_journal.specs.Flights.{times}
use Rattle.un_journal.specs.declared.lines.Line.{Line}
use Rattle.un_journal.specs.History.{Entry, History}
use Rattle.un_toy.specs.Queue.{count_of, flight, flights_of}
use Rattle.un_turn.proofs.Sums.{sum-snoc}

pub counted : (kind : Line → Bool) (h : History) (e : Entry) → count_of kind (h ++ e ∷ []) ≡ count_of kind h + one_if (kind e.0)
counted kind h e = sum-snoc (λ (x : Entry). one_if (kind x.0)) h e

pub pushed : (kind : Line → Bool) (old new : History) (e : Entry) → new ≡ old ++ e ∷ [] → count_of kind new ≡ count_of kind old + one_if (kind e.0)
pushed kind old new e grows = ap (count_of kind) grows ∙ counted kind old e

-- where a flight is out, one more has flown than landed
pub is_out : (r : FlightKey) (flown landed : ℕ) → 0 < times r (flights_of flown landed) → landed < flown
is_out r flown landed = go (nat_lt landed flown) refl
  where
    go : (b : Bool) → nat_lt landed flown ≡ b → 0 < times r (if b then flight landed ∷ [] else []) → landed < flown
    go true e out = ltb-true landed flown e
    go false e out = absurd (omega (arith, out))
