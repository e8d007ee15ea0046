-- What a path's calls answer, and that a refusal changes nothing.
use Rattle.std.specs.Prelude.{◌≡◌, ℕ, [], ◌∷◌, Some}
use Rattle.un_endpoint.specs.Bus.{Trip, record_of}
use Rattle.un_journal.specs.declared.lines.Line.{Line}
use Rattle.un_journal.specs.History.{History, span, made_bytes}
use Rattle.un_journal.specs.LaneSteps.{Outcome, Writes, Answers, bare}
use Rattle.un_journal.specs.Log.{Log}
use Rattle.un_journal.specs.declared.actions.Answer.{Answer}
use Rattle.un_lane.specs.Way.{Way}
use Rattle.un_journal.specs.declared.got.Got.{Got}
use Rattle.un_journal.specs.declared.got.Got.TheVariants.{Part, Cut, Not}

-- a flight has the span and the bytes of its transfer's made line, and its record is the one that is out
pub record IsPart (way : Way) (g : History) (outcome : Outcome) (trip : Trip) : Type 0 where
  pub writes : outcome ≡ Writes (bare (Line.Flying way.lane trip.tx.serial) ∷ [])
  pub span_is : span g trip.tx.serial ≡ Some (trip.tx.from, trip.tx.to)
  pub bytes_are : made_bytes g trip.tx.serial ≡ trip.tx.bytes
  pub is_out : way.bus.flight ≡ Some (record_of trip)

abbrev pub Answered : Way → History → Outcome → Got Trip → Type 0
Answered way g outcome (Part trip) = IsPart way g outcome trip
Answered way g outcome Cut = (k : ℕ) × (c : ℕ) × (outcome ≡ Writes (bare (Line.Cut way.lane k c) ∷ []))
Answered way g outcome (Not answer) = outcome ≡ Answers answer

-- where no flight came, the one that is out is as it was
abbrev pub KeepsFlight : Got Trip → Way → Way → Type 0
KeepsFlight (Part trip) old new = Unit {0}
KeepsFlight got old new = new.bus.flight ≡ old.bus.flight

-- this holds unless the answer is `Did`, and unless a flight came or a transfer was cut
abbrev pub UnlessDid : Answer → Type 0 → Type 0
UnlessDid Answer.Did P = Unit {0}
UnlessDid answer P = P

abbrev pub UnlessTaken : {X : Type 0} → Got X → Type 0 → Type 0
UnlessTaken (Not answer) P = P
UnlessTaken got P = Unit {0}

-- neither the path nor the journal has changed
abbrev pub IsUnchanged : Way → Way → Log → Log → Type 0
IsUnchanged old new log log' = (new ≡ old) × (log' ≡ log)
