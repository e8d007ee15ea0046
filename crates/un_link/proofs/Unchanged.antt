-- Calls that change nothing.
use Rattle.std.proofs.Common.{◌≡◌, ap, ◌∙◌}
use Rattle.un_journal.specs.declared.actions.Answer.{Answer}
use Rattle.un_journal.specs.declared.got.Got.{Got}
use Rattle.un_journal.specs.declared.got.Got.TheVariants.{Part, Cut, Not}
use Rattle.un_journal.specs.Log.{Log}
use Rattle.un_lane.specs.Way.{Way}
use Rattle.un_lane.specs.Answered.{UnlessDid, UnlessTaken, IsUnchanged}
use Rattle.un_script.specs.declared.cursors.Cursors.{Cursors}
use Rattle.un_link.specs.declared.half.Half.{Half}
use Rattle.un_link.specs.declared.shared.Shared.{Shared}
use Rattle.un_link.specs.Flights.{LaneTrip}

-- what holds in any case
pub always : (answer : Answer) (P : Type 0) → P → UnlessDid answer P
always Answer.Did P p = tt
always answer P p = p

-- what follows from it
pub unless : (answer : Answer) (P Q : Type 0) → (P → Q) → UnlessDid answer P → UnlessDid answer Q
unless Answer.Did P Q to p = tt
unless answer P Q to p = to p

pub both : (answer : Answer) (P Q R : Type 0) → (P → Q → R) → UnlessDid answer P → UnlessDid answer Q → UnlessDid answer R
both Answer.Did P Q R f p q = tt
both answer P Q R f p q = f p q

pub taken : (got : Got LaneTrip) (P Q : Type 0) → (P → Q) → UnlessTaken got P → UnlessTaken got Q
taken (Part f) P Q to p = tt
taken Cut P Q to p = tt
taken (Not answer) P Q to p = to p

-- a half and what is shared are unchanged where the path and the history are
pub half_unread : {T R : Type 0} (shared : Shared) (half : Half T R) (way' : Way) (log' : Log) (read' : Cursors) → IsUnchanged half.path way' shared.journal log' → read' ≡ half.read
    → (record half { path = way'; read = read' } ≡ half) × (record shared { journal = log' } ≡ shared)
half_unread shared half way' log' read' same unread =
    (ap (λ (w : Way). record half { path = w; read = read' }) same.0 ∙ ap (λ (c : Cursors). record half { read = c }) unread, ap (λ (l : Log). record shared { journal = l }) same.1)

pub half_same : {T R : Type 0} (shared : Shared) (half : Half T R) (way' : Way) (log' : Log) → IsUnchanged half.path way' shared.journal log'
    → (record half { path = way' } ≡ half) × (record shared { journal = log' } ≡ shared)
half_same shared half way' log' same = (ap (λ (w : Way). record half { path = w }) same.0, ap (λ (l : Log). record shared { journal = l }) same.1)
