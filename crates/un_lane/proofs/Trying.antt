-- How often the transfers that wait or fly were tried, as they move.
use Rattle.std.proofs.Common.{◌≡◌, ℕ, ◌+◌, ◌≤◌, ◌<◌, Bool, true, false, ◌==◌, List, [], ◌∷◌, ◌++◌, length, map, Option, Some, None, refl, sym, ap, ◌∙◌, subst, arith, append-nil, append_assoc}
use Rattle.std.specs.List.{AllByRecursion}
use Rattle.un_facts.proofs.Lists.{all_more}
use Rattle.un_req.specs.Request.{Buffer}
use Rattle.un_endpoint.specs.Bus.{Bus}
use Rattle.un_lane.specs.Stands.{AreAttempts, AreTried, serial_of, flight_serial}
use Rattle.un_lane.proofs.Counting.{map_last}

-- one more at the end, which wasn't tried
tried_more : (attempts' : ℕ → ℕ) (ks : List ℕ) (j count : ℕ) → AreTried attempts' ks count → attempts' j ≡ 0 → AreTried attempts' (ks ++ j ∷ []) count
tried_more attempts' [] j count w none = (none ∙ sym w, tt)
tried_more attempts' (k ∷ ks) j count w none = (w.0, all_more (λ i. attempts' i ≡ 0) ks j w.1 none)

-- the first is over
pub tried_rest : (attempts' : ℕ → ℕ) (ks : List ℕ) → AllByRecursion (λ j. attempts' j ≡ 0) ks → AreTried attempts' ks 0
tried_rest attempts' [] w = refl
tried_rest attempts' (k ∷ ks) w = w

joined : (ks : List ℕ) (queue : List Buffer) (x : Buffer) → ks ++ map serial_of (queue ++ x ∷ []) ≡ (ks ++ map serial_of queue) ++ x.serial ∷ []
joined ks queue x = ap (λ js. ks ++ js) (map_last serial_of queue x) ∙ sym (append_assoc ks (map serial_of queue) (x.serial ∷ []))

pub tried_last : (attempts' : ℕ → ℕ) (ks : List ℕ) (queue : List Buffer) (x : Buffer) (count : ℕ) → AreTried attempts' (ks ++ map serial_of queue) count → attempts' x.serial ≡ 0
    → AreTried attempts' (ks ++ map serial_of (queue ++ x ∷ [])) count
tried_last attempts' ks queue x count w none = subst (λ js. AreTried attempts' js count) (sym (joined ks queue x)) (tried_more attempts' (ks ++ map serial_of queue) x.serial count w none)

-- a transfer that is made
pub queued_tries : (deferred : List Buffer) (bus : Bus) (x : Buffer) (attempts' : ℕ → ℕ) (made' : ℕ) → x.serial ≡ made' → AreAttempts deferred bus attempts' made'
    → AreAttempts deferred (record bus { queue = bus.queue ++ x ∷ [] }) attempts' (made' + 1)
queued_tries deferred bus x attempts' made' e w = record {
  tried = tried_last attempts' (flight_serial bus.flight) bus.queue x bus.attempts w.tried (w.unmade_untried x.serial (omega arith));
  deferred_untried = w.deferred_untried;
  unmade_untried = λ j h. w.unmade_untried j (omega arith);
}

pub deferred_tries : (deferred : List Buffer) (bus : Bus) (x : Buffer) (attempts' : ℕ → ℕ) (made' : ℕ) → x.serial ≡ made' → AreAttempts deferred bus attempts' made'
    → AreAttempts (deferred ++ x ∷ []) bus attempts' (made' + 1)
deferred_tries deferred bus x attempts' made' e w = record {
  tried = w.tried;
  deferred_untried = all_more (λ r. attempts' r.serial ≡ 0) deferred x w.deferred_untried (w.unmade_untried x.serial (omega arith));
  unmade_untried = λ j h. w.unmade_untried j (omega arith);
}

-- the deferred transfers are queued
tried_all : (attempts' : ℕ → ℕ) (ks : List ℕ) (queue deferred : List Buffer) (count : ℕ) → AreTried attempts' (ks ++ map serial_of queue) count → AllByRecursion (λ r. attempts' r.serial ≡ 0) deferred
    → AreTried attempts' (ks ++ map serial_of (queue ++ deferred)) count
tried_all attempts' ks queue [] count w none = subst (λ (q : List Buffer). AreTried attempts' (ks ++ map serial_of q) count) (sym (append-nil queue)) w
tried_all attempts' ks queue (x ∷ xs) count w none =
    subst (λ (q : List Buffer). AreTried attempts' (ks ++ map serial_of q) count) (append_assoc queue (x ∷ []) xs)
    (tried_all attempts' ks (queue ++ x ∷ []) xs count (tried_last attempts' ks queue x count w none.0) none.1)

pub resumed_tries : (deferred : List Buffer) (bus : Bus) (attempts' : ℕ → ℕ) (made' : ℕ) → AreAttempts deferred bus attempts' made' → AreAttempts [] (record bus { queue = bus.queue ++ deferred }) attempts' made'
resumed_tries deferred bus attempts' made' w = record {
  tried = tried_all attempts' (flight_serial bus.flight) bus.queue deferred bus.attempts w.tried w.deferred_untried;
  deferred_untried = tt;
  unmade_untried = w.unmade_untried;
}
