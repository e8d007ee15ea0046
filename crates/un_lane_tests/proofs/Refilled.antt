-- A receive request that was taken to be posted.
use Rattle.std.proofs.Common.{◌≡◌, ℕ, ◌+◌, ◌<◌, ◌≤◌, eqb, List, [], ◌∷◌, ◌++◌, map, sym, ap, ◌∙◌, arith}
use Rattle.un_facts.proofs.Copies.{copies_append}
use Rattle.un_facts.proofs.Numbers.{one_here}
use Rattle.un_facts.specs.Lists.{copies}
use Rattle.un_facts.specs.Numbers.{one_if}
use Rattle.un_req.specs.Request.{Buffer, number_of}
use Rattle.un_endpoint.specs.Ends.{IsAwayRx, Receiver, opened_number, rx_copies}
use Rattle.un_endpoint.specs.EndOutcomes.{LeavesHome}

-- a request that was taken to be posted is in none of the places
pub refilled_away : (old new : Receiver) (request : Buffer) → ((n : ℕ) → rx_copies old n ≤ 1) → LeavesHome old new request → IsAwayRx new request
refilled_away old new request once l =
    let k = request.number in
    let size : new.size ≡ old.size = ap (λ (r : Receiver). r.size) l.rest in
    let capacity : new.capacity ≡ old.capacity = ap (λ (r : Receiver). r.capacity) l.rest in
    let arrived : copies k (map number_of new.arrived) ≡ copies k (map number_of old.arrived) = ap (λ (r : Receiver). copies k (map number_of r.arrived)) l.rest in
    let current : copies k (opened_number new.current) ≡ copies k (opened_number old.current) = ap (λ (r : Receiver). copies k (opened_number r.current)) l.rest in
    let home : copies k old.home ≡ copies k new.home + (one_if (eqb k k) + 0) = ap (λ (ns : List ℕ). copies k ns) l.left ∙ copies_append k new.home (k ∷ []) in
    let one = one_here k in
    let all : rx_copies old k ≤ 1 = once k in
    let known : k < old.size = l.known in
    record { known = omega (arith, size, known); sized = ap (λ (b : Buffer). b.capacity) l.empty ∙ sym capacity; away = omega (arith, arrived, current, home, one, all) }
