-- What a seat knows after a hold.
use Rattle.std.proofs.Common.{◌≡◌, List, [], Some, ap, ◌∙◌, arith}
use Rattle.un_journal.specs.History.{History}
use Rattle.un_journal.specs.declared.machine.FlightKey.{FlightKey}
use Rattle.un_journal.specs.declared.machine.Transfer.{Transfer}
use Rattle.un_journal.specs.declared.got.Got.{Got}
use Rattle.un_journal.specs.declared.got.Got.TheVariants.{Part, Cut, Not}
use Rattle.un_turn.specs.declared.view.View.{View}
use Rattle.un_journal.specs.Flights.{times, Loses, Takes}
use Rattle.un_turn.specs.Views.{Follows}
use Rattle.un_turn.specs.Steps.{entered}
use Rattle.un_turn.specs.Views.{LostMore}
use Rattle.un_turn.proofs.Flights.{empty}
use Rattle.un_share.specs.Workers.{KnowsOnly, Attempted}

module _ {S : Type 0} (s v w : View S) (log : History) (out : List FlightKey) (waits : LostMore s v) (is : w ≡ entered v log out) where
  pub known_at_entry : w.known ≡ s.known
  known_at_entry = ap (λ (x : View S). x.known) is ∙ ap (λ (x : View S). x.known) waits.0

  pub flying_at_entry : w.flying ≡ out
  flying_at_entry = ap (λ (x : View S). x.flying) is

pub none_left : (known before after known' : List FlightKey) → Follows before after known known' → after ≡ before → known ≡ [] → known' ≡ []
none_left known before after known' follows same none = follows.same same ∙ none

pub landed_left : (r : FlightKey) (known before after known' : List FlightKey) → Follows before after known known' → Loses r before after → KnowsOnly r known → known' ≡ []
landed_left r known before after known' follows loses only = empty known' (λ x. omega (arith, follows.count x, loses x, only x))

pub attempted : {P : Type 0} (flight_of : P → FlightKey) (got : Got P) (named : Got Transfer) (known before after known' : List FlightKey) → Takes flight_of got named before after → Follows before after known known' → known ≡ [] → Attempted flight_of (Some got) known'
attempted flight_of (Part p) named known before after known' takes follows none = λ x. let f : FlightKey = flight_of p in omega (arith, follows.count x, takes.1.0 x, ap (times x) none)
attempted flight_of Cut named known before after known' takes follows none = none_left known before after known' follows takes.1 none
attempted flight_of (Not a) named known before after known' takes follows none = none_left known before after known' follows takes.1 none
