-- The number that a transfer which is read gives next: whose it is, and that its transfer was opened.
use Rattle.std.proofs.Common.{◌≡◌, ℕ, ◌+◌, ◌-◌, ◌<◌, ◌≤◌, true, not, ◌&&◌, List, ◌∷◌, Option, Some, None, refl, arith, filter}
use Rattle.un_facts.specs.Lists.{is_empty}
use Rattle.un_facts.proofs.Booleans.{and_first}
use Rattle.un_journal.specs.History.{History, made, opened, current, serial_of, gave, span, span_numbers, left_of}
use Rattle.un_journal.specs.Sound.{IsSound}
use Rattle.un_journal.proofs.ForLane.{those_first, owns_span}
use Rattle.un_check.proofs.ReceivingLists.{in_row}

-- the current transfer was opened, and was made
pub current_opened : (g : History) (k : ℕ) → current g ≡ Some k → (opened g k ≡ true) × (k < made g)
current_opened g k e =
    let f = those_first (λ j. opened g j && not (is_empty (left_of g j))) (made g) k e in
    (and_first (opened g k) (not (is_empty (left_of g k))) f.passes, f.is_below)

owner_in : (g : History) (k n : ℕ) (ns : List ℕ) (s : Option (ℕ × ℕ)) → IsSound g → span g k ≡ s → filter (λ m. not (gave g m)) (span_numbers s) ≡ n ∷ ns → serial_of g n ≡ Some k
owner_in g k n ns None sound is e = absurd (cc)
owner_in g k n ns (Some s) sound is e =
    let w = owns_span g sound k s is in
    let at = in_row (λ m. not (gave g m)) s.0 (s.1 - s.0) n ns e in
    w.owns n at.0 (let order : s.0 ≤ s.1 = w.in_order in let high : n < s.0 + (s.1 - s.0) = at.1 in omega arith)

-- what is left of a transfer is its own
pub left_owner : (g : History) (k n : ℕ) (ns : List ℕ) → IsSound g → left_of g k ≡ n ∷ ns → serial_of g n ≡ Some k
left_owner g k n ns sound e = owner_in g k n ns (span g k) sound refl e
