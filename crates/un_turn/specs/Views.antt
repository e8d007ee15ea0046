-- Seats and guards as contracts see them, and what they keep.
use Rattle.std.specs.Prelude.{◌≡◌, ℕ, ◌+◌, ◌<◌, ◌≤◌, ◌⊎◌, Bool, true, false, List, ◌++◌, Some}
use Rattle.atomic_table.specs.Seated.{TableId}
use Rattle.un_journal.specs.declared.machine.FlightKey.{FlightKey}
use Rattle.un_journal.specs.Flights.{times, Gains, Loses}
use Rattle.un_journal.specs.History.{History}
use Rattle.un_turn.specs.declared.view.View.{View}

-- a seat: of which turn it is, its number there, and what it knows
pub record Place (S : Type 0) : Type 0 where
  pub turn : TableId
  pub id : ℕ
  pub view : View S

-- a guard: of which turn it is, its seat's number, what the seat knew when it entered, the machine, and whether a call was made
pub record Hold (M S : Type 0) : Type 0 where
  pub turn : TableId
  pub id : ℕ
  pub view : View S
  pub machine : M
  pub called : Bool

-- the history begins with what was seen
abbrev pub StartsWith : History → History → Type 0
StartsWith history seen = (more : History) × (history ≡ seen ++ more)

-- what a seat knows is among the flights that are out
abbrev pub IsOut : List FlightKey → List FlightKey → Type 0
IsOut known out = (x : FlightKey) → times x known ≤ times x out

-- A list of flights is as it was; or it has one more, which wasn't in it; or it has one less.
abbrev pub MovesOne : List FlightKey → List FlightKey → Type 0
MovesOne before after = (after ≡ before) ⊎ (((r : FlightKey) × Gains r before after) ⊎ ((r : FlightKey) × Loses r before after))

-- The machine's flights have moved by one at most, and the known ones as they have: not at all where the machine's are as they were, and
-- else, flight by flight, by one more where the machine has one more and by one less where it has one less.
pub record Follows (before after known known' : List FlightKey) : Type 0 where
  pub one : MovesOne before after
  pub same : after ≡ before → known' ≡ known
  pub count : (x : FlightKey) → times x known' + times x before ≡ times x known + times x after

-- the same view, with no fewer losses
abbrev pub LostMore : {S : Type 0} → View S → View S → Type 0
LostMore v w = (w ≡ record v { losses = w.losses }) × (v.losses ≤ w.losses)

module _ {M S : Type 0} (script : M → S) (history : M → History) (flights : M → List FlightKey) where
  -- What a guard keeps of its machine from the exchange that won on, so that its seat can leave: the machine has the view's script; its
  -- history begins with that at entry; and its flights are those at entry, or one more that wasn't among them, or one less, which the
  -- holder knew. None stands twice, and before a call they are those at entry.
  pub record KeepsMachine (v : View S) (machine : M) (called : Bool) : Type 0 where
    pub holds : v.holds ≡ true
    pub some_share : 0 < v.shares
    pub plan : v.script ≡ Some (script machine)
    pub grown : StartsWith (history machine) v.entry
    pub known : List FlightKey
    pub follows : Follows v.flying (flights machine) v.known known
    pub single : (x : FlightKey) → times x (flights machine) ≤ 1
    pub within : IsOut v.known v.flying
    pub fresh : called ≡ false → flights machine ≡ v.flying
