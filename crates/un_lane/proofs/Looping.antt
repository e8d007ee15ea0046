-- Calls that write one line after the other until none is left.
use Rattle.std.proofs.Common.{◌≡◌, suc, ◌<◌, [], ◌∷◌, ◌++◌, take, length, refl, sym, ap, ◌∙◌, subst, arith, append-nil, append_assoc}
use Rattle.un_endpoint.specs.Bus.{Bus}
use Rattle.un_endpoint.specs.Ends.{Transmitter, Receiver}
use Rattle.un_journal.specs.History.{History}
use Rattle.un_journal.specs.Log.{Log}
use Rattle.un_lane.specs.Way.{Way, HasRoom, Adds, lane_lines}
use Rattle.un_lane.specs.Calls.{Ready}
use Rattle.un_lane.specs.Phases.{Leaves}
use Rattle.un_lane.specs.Stands.{Stands}
use Rattle.un_lane.specs.Controls.{WritesFirst, WritesNone, LeavesBus, Stays}
use Rattle.un_lane.proofs.Adding.{adds_none, adds_more, room_front, room_rest}

-- some of the lines that were left are written
pub record WritesSome (left : Way → History) (keeps : Way → Way → Type 0) (old new : Way) (log log' : Log) : Type 0 where
  pub front : History
  pub split : left old ≡ front ++ left new
  pub adds : Adds log log' front
  pub stands : Stands new (lane_lines new log')
  pub kept : keeps old new

pub some_start : (left : Way → History) (keeps : Way → Way → Type 0) (old : Way) (log : Log) → Stands old (lane_lines old log) → keeps old old → WritesSome left keeps old old log log
some_start left keeps old log w k = record { front = []; split = refl; adds = adds_none log; stands = w; kept = k }

pub some_more : (left : Way → History) (keeps : Way → Way → Type 0) (old mid new : Way) (log log' log'' : Log) → (keeps old mid → keeps mid new → keeps old new) → WritesSome left keeps old mid log log' → WritesFirst left keeps mid new log' log''
    → WritesSome left keeps old new log log''
some_more left keeps old mid new log log' log'' trans a b = record {
  front = a.front ++ b.line ∷ [];
  split = a.split ∙ (ap (λ h. a.front ++ h) b.first ∙ sym (append_assoc a.front (b.line ∷ []) (left new)));
  adds = adds_more log log' log'' a.front (b.line ∷ []) a.adds b.adds;
  stands = b.stands;
  kept = trans a.kept b.kept;
}

-- the next line may be written
pub some_ready : (left : Way → History) (keeps : Way → Way → Type 0) (old new : Way) (log log' : Log) → HasRoom log (left old) → WritesSome left keeps old new log log' → Ready (take 1 (left new)) new log'
some_ready left keeps old new log log' r a = record {
  stands = a.stands;
  room = next (left new) (room_rest log log' a.front (left new) (subst (HasRoom log) a.split r) a.adds);
}
  where
    next : (xs : History) → HasRoom log' xs → HasRoom log' (take 1 xs)
    next [] h = h
    next (x ∷ xs) h = room_front log' (x ∷ []) xs h

-- every line is written
pub record WritesAll (keeps : Way → Way → Type 0) (old new : Way) (log log' : Log) (lines : History) : Type 0 where
  pub adds : Adds log log' lines
  pub stands : Stands new (lane_lines new log')
  pub kept : keeps old new

pub some_end : (left : Way → History) (keeps : Way → Way → Type 0) (old mid new : Way) (log log' log'' : Log) → WritesSome left keeps old mid log log' → WritesNone left mid new log' log'' → WritesAll keeps old new log log'' (left old)
some_end left keeps old mid new log log' log'' a n =
    let all : left old ≡ a.front = a.split ∙ (ap (λ h. a.front ++ h) n.none ∙ append-nil a.front) in
    let at : WritesAll keeps old mid log log' (left old) = record { adds = subst (Adds log log') (sym all) a.adds; stands = a.stands; kept = a.kept } in
    subst (λ way. WritesAll keeps old way log log'' (left old)) (sym n.same) (subst (λ j. WritesAll keeps old mid log j (left old)) (sym n.same_log) at)

pub first_less : (left : Way → History) (keeps : Way → Way → Type 0) (old new : Way) (log log' : Log) → WritesFirst left keeps old new log log' → length (left new) < length (left old)
first_less left keeps old new log log' a = let l : length (left old) ≡ suc (length (left new)) = ap length a.first in omega arith

-- WHAT STAYS

pub leaves_same : (way : Way) → Leaves way way
leaves_same way = record { lane_is = refl; params_are = refl; frames_are = refl; agrees = λ asleep a. a }

-- a call that changes what is at home, done, arrived, current, posted or halted
pub leaves_rest : (way : Way) (t : Transmitter) (r : Receiver) (bus : Bus) → t ≡ record way.tx { home = t.home; done = t.done } → bus.queue ≡ way.bus.queue → bus.flight ≡ way.bus.flight → Leaves way (record way { tx = t; rx = r; bus = bus })
leaves_rest way t r bus e q f = record {
  lane_is = refl;
  params_are = ap (λ (u : Transmitter). u.params) e;
  frames_are = ap (λ (u : Transmitter). u.builder.frames) e;
  agrees = λ asleep a. record { none_queued = λ d. let n = a.none_queued d in (q ∙ n.0, f ∙ n.1); none_deferred = λ d. ap (λ (u : Transmitter). u.deferred) e ∙ a.none_deferred d };
}

pub leaves_more : (a b c : Way) → Leaves a b → Leaves b c → Leaves a c
leaves_more a b c x y = record {
  lane_is = y.lane_is ∙ x.lane_is;
  params_are = y.params_are ∙ x.params_are;
  frames_are = y.frames_are ∙ x.frames_are;
  agrees = λ asleep h. y.agrees asleep (x.agrees asleep h);
}

pub bus_same : (way : Way) → LeavesBus way way
bus_same way = record { lane_is = refl; params_are = refl; builder_is = refl; bus_is = refl }

pub bus_more : (a b c : Way) → LeavesBus a b → LeavesBus b c → LeavesBus a c
bus_more a b c x y = record {
  lane_is = y.lane_is ∙ x.lane_is;
  params_are = y.params_are ∙ x.params_are;
  builder_is = y.builder_is ∙ x.builder_is;
  bus_is = y.bus_is ∙ x.bus_is;
}

pub stays_same : (way : Way) → Stays way way
stays_same way = record { leaves = leaves_same way; flight_is = refl }

pub stays_more : (a b c : Way) → Stays a b → Stays b c → Stays a c
stays_more a b c x y = record { leaves = leaves_more a b c x.leaves y.leaves; flight_is = y.flight_is ∙ x.flight_is }
