-- The rule of the turn: what holds of the word, of the slot while it is at home, and of the views of all seats, between any two steps.
use Rattle.std.specs.Prelude.{◌≡◌, ◌≢◌, ℕ, ◌<◌, ◌≤◌, ◌⊎◌, true, List, [], ◌∷◌, Option, Some, length}
use Rattle.un_facts.specs.Numbers.{one_if}
use mathlib.Core.Option.{some}
use lib.ListN.{get_elem?}
use Rattle.atomic_table.specs.Table.{State}
use Rattle.un_journal.specs.declared.machine.FlightKey.{FlightKey}
use Rattle.un_journal.specs.Flights.{total_of, times}
use Rattle.un_journal.specs.History.{History}
use Rattle.un_turn.specs.declared.view.View.{View}
use Rattle.un_turn.specs.Views.{StartsWith}
use Rattle.un_turn.specs.Steps.{spent}

-- a seat of the turn that was not joined away: it has the turn's script and number of shares, and at least one share
pub record IsSeated {S : Type 0} (script : S) (total : ℕ) (v : View S) : Type 0 where
  pub plan : v.script ≡ Some script
  pub whole : v.total ≡ total
  pub some_share : 0 < v.shares

module _ {M S : Type 0} (script : M → S) (history : M → History) (flights : M → List FlightKey) where
  -- There are one word, one slot, one script, one number of shares, one history `log` and its flights `out`, with which:
  pub record Turned (s : State (Option M) (View S)) : Type 0 where
    pub word : ℕ
    pub plan : S
    pub total : ℕ
    pub log : History
    pub out : List FlightKey
    pub words : s.words ≡ word ∷ []
    pub slots : length s.homes ≡ 1
    -- the word is 0 or 1, and so many views hold the turn
    pub bit : word ≤ 1
    pub holders : total_of (λ v. one_if v.holds) s.views ≡ word
    -- where it is 0, the slot is at home with the machine, which has the script, the history and the flights
    pub at_home : word ≡ 0
        → (machine : M) × (get_elem? s.homes 0 ≡ some (some (Some machine)))
        × (script machine ≡ plan) × (history machine ≡ log) × (flights machine ≡ out)
    -- where a view holds the turn, they are the history and the flights with which it entered
    pub held : (j : ℕ) (v : View S) → get_elem? s.views j ≡ some v → v.holds ≡ true → (v.entry ≡ log) × (v.flying ≡ out)
    -- every view that was not joined away has the script, the number of shares and at least one share
    pub seated : (j : ℕ) (v : View S) → get_elem? s.views j ≡ some v → (v ≡ spent) ⊎ IsSeated plan total v
    -- the history begins with what each has seen, and with what it heard
    pub seen : (j : ℕ) (v : View S) → get_elem? s.views j ≡ some v → StartsWith log v.seen
    pub heard : (j : ℕ) (v : View S) → get_elem? s.views j ≡ some v → StartsWith log v.heard
    -- no flight is out twice, and as often as it is out, so often views know it
    pub single : (x : FlightKey) → times x out ≤ 1
    pub known : (x : FlightKey) → total_of (λ v. times x v.known) s.views ≡ times x out
    -- the shares of all views add up to the turn's
    pub shares : total_of (λ v. v.shares) s.views ≡ total

-- one view passes, and no other does
abbrev pub OneHas : {A : Type 0} → (A → ℕ) → List A → Type 0
OneHas {A} f views =
    (j : ℕ) × (v : A) × (get_elem? views j ≡ some v) × (f v ≡ 1) × ((k : ℕ) (u : A) → k ≢ j → get_elem? views k ≡ some u → f u ≡ 0)

abbrev pub NoneHas : {A : Type 0} → (A → ℕ) → List A → Type 0
NoneHas {A} f views = (j : ℕ) (v : A) → get_elem? views j ≡ some v → f v ≡ 0

-- The rule's two sums in words: where the word is 1 exactly one view holds the turn, and where it is 0 none does; each flight that is
-- out is known to exactly one view, and a flight that isn't out to none.
abbrev pub RuleInWords : {M S : Type 0} → (M → S) → (M → History) → (M → List FlightKey) → Type 0
RuleInWords {M} {S} script history flights = (s : State (Option M) (View S)) (t : Turned script history flights s)
    → (t.word ≡ 1 → OneHas (λ v. one_if v.holds) s.views) × (t.word ≡ 0 → NoneHas (λ v. one_if v.holds) s.views)
    × ((x : FlightKey) → (times x t.out ≡ 1 → OneHas (λ v. times x v.known) s.views) × (times x t.out ≡ 0 → NoneHas (λ v. times x v.known) s.views))
