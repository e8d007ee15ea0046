-- What each step of a turn makes of the views that it changes, and what it tells its seat. The kinds of step are
-- the split, the join, the exchange of the word that wins, the one that loses, and the store that frees the word; a load compares what
-- two joined seats had seen.
use Rattle.std.specs.Prelude.{◌≡◌, ◌≢◌, ℕ, ◌+◌, ◌-◌, ◌≤◌, true, false, List, [], ◌∷◌, Option, Some, None, length, nat_lt, if◌then◌else◌}
use Rattle.atomic_table.specs.Table.{Me, Step}
use Rattle.un_journal.specs.declared.machine.FlightKey.{FlightKey}
use Rattle.un_journal.specs.Flights.{times}
use Rattle.un_journal.specs.History.{History}
use Rattle.un_turn.specs.declared.view.View.{View}
use Rattle.un_turn.specs.Views.{StartsWith, IsOut, Follows}

-- of two beginnings of one history, the longer
abbrev pub longer : History → History → History
longer xs ys = if nat_lt (length xs) (length ys) then ys else xs

module _ {S : Type 0} where
  -- the first seat: it has all shares and has seen the machine's history
  abbrev pub opening_view : S → History → ℕ → View S
  opening_view script history shares = record {
    script = Some script;
    total = shares;
    shares = shares;
    calls = 0;
    losses = 0;
    seen = history;
    heard = [];
    holds = false;
    entry = [];
    known = [];
    flying = [];
  }

  -- a seat that was joined away
  abbrev pub spent : View S
  spent = record {
    script = None;
    total = 0;
    shares = 0;
    calls = 0;
    losses = 0;
    seen = [];
    heard = [];
    holds = false;
    entry = [];
    known = [];
    flying = [];
  }

  -- the winner holds the turn, and entered with the machine's history and flights
  abbrev pub entered : View S → History → List FlightKey → View S
  entered v history out = record {
    script = v.script;
    total = v.total;
    shares = v.shares;
    calls = v.calls;
    losses = v.losses;
    seen = v.seen;
    heard = v.heard;
    holds = true;
    entry = history;
    known = v.known;
    flying = out;
  }

  -- the loser counts a loss
  abbrev pub lost : View S → View S
  lost v = record {
    script = v.script;
    total = v.total;
    shares = v.shares;
    calls = v.calls;
    losses = v.losses + 1;
    seen = v.seen;
    heard = v.heard;
    holds = v.holds;
    entry = v.entry;
    known = v.known;
    flying = v.flying;
  }

  -- the holder has left: it has seen the machine's history, counts its calls, and knows these flights
  abbrev pub left : View S → ℕ → History → List FlightKey → View S
  left v calls history known = record {
    script = v.script;
    total = v.total;
    shares = v.shares;
    calls = v.calls + calls;
    losses = v.losses;
    seen = history;
    heard = [];
    holds = false;
    entry = [];
    known = known;
    flying = [];
  }

  -- a split: the old seat keeps the other shares
  abbrev pub split_left : ℕ → View S → View S
  split_left given v = record {
    script = v.script;
    total = v.total;
    shares = v.shares - given;
    calls = v.calls;
    losses = v.losses;
    seen = v.seen;
    heard = v.heard;
    holds = v.holds;
    entry = v.entry;
    known = v.known;
    flying = v.flying;
  }

  -- and the new one has the given shares, has seen as much, counts nothing and knows no flight
  abbrev pub split_right : ℕ → View S → View S
  split_right given v = record {
    script = v.script;
    total = v.total;
    shares = given;
    calls = 0;
    losses = 0;
    seen = v.seen;
    heard = [];
    holds = false;
    entry = [];
    known = [];
    flying = [];
  }

  -- a join: the left seat takes the shares and counts of both, and hears what the right one had seen
  abbrev pub told : View S → View S → View S
  told v w = record {
    script = v.script;
    total = v.total;
    shares = v.shares + w.shares;
    calls = v.calls + w.calls;
    losses = v.losses + w.losses;
    seen = v.seen;
    heard = w.seen;
    holds = v.holds;
    entry = v.entry;
    known = v.known;
    flying = v.flying;
  }

  -- and has then seen the longer of the two
  abbrev pub compared : View S → View S
  compared v = record {
    script = v.script;
    total = v.total;
    shares = v.shares;
    calls = v.calls;
    losses = v.losses;
    seen = longer v.seen v.heard;
    heard = [];
    holds = v.holds;
    entry = v.entry;
    known = v.known;
    flying = v.flying;
  }

  abbrev pub joined : View S → View S → View S
  joined v w = compared (told v w)

-- what a seat has: its view, and its list of slots
abbrev pub Sat : Type 0 → Type 0 → Type 0
Sat M S = Me (Option M) (View S)

module _ {M S : Type 0} (script : M → S) (history : M → History) (flights : M → List FlightKey) where
  -- the seat has the turn and the machine, which has its script, a history that begins with all that it had seen, and its flights out
  abbrev pub Won : Sat M S → Sat M S → Type 0
  Won m n = (machine : M) × (n ≡ (entered m.0 (history machine) (flights machine), (0, Some machine) ∷ m.1))
      × (m.0.script ≡ Some (script machine)) × StartsWith (history machine) m.0.seen
      × IsOut m.0.known (flights machine) × ((x : FlightKey) → times x (flights machine) ≤ 1)

  -- the exchange found 0 and won, or it found 1 and lost
  abbrev pub won_or_lost : Step (Option M) → Sat M S → ℕ → Sat M S → Type 0
  won_or_lost st m found n = (found ≡ 0 → Won m n) × (found ≢ 0 → (found ≡ 1) × (n ≡ (lost m.0, m.1)))

-- the seat has left the machine that it held, after so many calls
abbrev pub freed : {M S : Type 0} → (M → History) → (M → List FlightKey) → ℕ → Step (Option M) → Sat M S → ℕ → Sat M S → Type 0
freed {M} history flights calls st m found n = (machine : M) → m.1 ≡ (0, Some machine) ∷ []
    → (n ≡ (left m.0 calls (history machine) n.0.known, [])) × Follows m.0.flying (flights machine) m.0.known n.0.known

-- of what it had seen and what it heard the seat keeps the longer, which begins with the other
abbrev pub met : {M S : Type 0} → Step (Option M) → Sat M S → ℕ → Sat M S → Type 0
met st m found n =
    (n ≡ (compared m.0, m.1)) × StartsWith (longer m.0.seen m.0.heard) m.0.seen × StartsWith (longer m.0.seen m.0.heard) m.0.heard
