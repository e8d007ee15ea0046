-- What a worker's seat has seen and counted.
use Rattle.std.specs.Prelude.{◌≡◌, ℕ, ◌+◌, ◌≤◌, ◌⊎◌, Bool, true, List, [], ◌∷◌, Option, Some, None}
use Rattle.un_journal.specs.History.{History}
use Rattle.un_journal.specs.declared.machine.FlightKey.{FlightKey}
use Rattle.un_journal.specs.declared.got.Got.{Got}
use Rattle.un_journal.specs.declared.got.Got.TheVariants.{Part, Cut, Not}
use Rattle.un_turn.specs.declared.view.View.{View}
use Rattle.un_journal.specs.Flights.{times}
use Rattle.un_turn.specs.Views.{StartsWith}

-- the seat knows this flight and no other
abbrev pub KnowsOnly : FlightKey → List FlightKey → Type 0
KnowsOnly r known = (x : FlightKey) → times x known ≡ times x (r ∷ [])

module _ {S : Type 0} where
  -- the history has a beginning at which the machine is finished
  pub record HasFinished (is_finished : S → History → Bool) (script : Option S) (seen : History) : Type 0 where
    pub plan : S
    pub log : History
    pub is_script : script ≡ Some plan
    pub begins : StartsWith seen log
    pub finished : is_finished plan log ≡ true

  -- the same seat, after so many more calls
  pub record Later (v w : View S) (more : ℕ) : Type 0 where
    pub script : w.script ≡ v.script
    pub total : w.total ≡ v.total
    pub shares : w.shares ≡ v.shares
    pub calls : w.calls ≡ v.calls + more
    pub seen : StartsWith w.seen v.seen

  -- the same seat, after at least so many more calls
  pub record Past (v w : View S) (more : ℕ) : Type 0 where
    pub script : w.script ≡ v.script
    pub total : w.total ≡ v.total
    pub shares : w.shares ≡ v.shares
    pub calls : v.calls + more ≤ w.calls
    pub seen : StartsWith w.seen v.seen

  -- the seat of workers that have ended: it knows no flight, and has seen a finished machine or made so many calls
  pub record Worked (is_finished : S → History → Bool) (v w : View S) (more : ℕ) : Type 0 where
    pub script : w.script ≡ v.script
    pub total : w.total ≡ v.total
    pub shares : w.shares ≡ v.shares
    pub seen : StartsWith w.seen v.seen
    pub none_known : w.known ≡ []
    pub ended : HasFinished is_finished w.script w.seen ⊎ (v.calls + more ≤ w.calls)

-- nothing was taken, or the seat knows the part's flight alone
abbrev pub Attempted : {P : Type 0} → (P → FlightKey) → Option (Got P) → List FlightKey → Type 0
Attempted flight_of None known = known ≡ []
Attempted flight_of (Some (Part p)) known = KnowsOnly (flight_of p) known
Attempted flight_of (Some Cut) known = known ≡ []
Attempted flight_of (Some (Not a)) known = known ≡ []
