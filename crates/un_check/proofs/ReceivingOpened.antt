-- What an opened line changes at the receiving end: the first transfer that arrived is the current one, with its whole span left.
use Rattle.std.proofs.Common.{◌≡◌, ℕ, ◌<◌, not, ◌&&◌, ◌||◌, ◌==◌, List, [], ◌∷◌, Some, None, refl, sym, ap, ◌∙◌, subst, arith}
use Rattle.std.proofs.lemmas.Bool.{eq-eqb, ne_eqb}
use Rattle.std.proofs.lemmas.Option.{same_Some}
use Rattle.un_facts.specs.Lists.{is_empty}
use Rattle.un_facts.proofs.Booleans.{and_false}
use Rattle.un_frame.specs.declared.params.Lane.{Lane}
use Rattle.un_journal.specs.declared.lines.Line.TheVariants.{Opened}
use Rattle.un_journal.specs.History.{History, made, those, landed, opened, arrived, current, left_of, first, span}
use Rattle.un_journal.specs.Sound.{IsSound, IsFirstArrived}
use Rattle.un_journal.proofs.ForLane.{those_first, those_none, those_rest, those_first_is}
use Rattle.un_check.proofs.ReceivingSpans.{has_numbers, left_some}

first_none : (xs : List ℕ) → first xs ≡ None → xs ≡ []
first_none [] e = refl
first_none (x ∷ xs) e = absurd (cc)

module _ (l : Lane) (k : ℕ) (bytes : List ℕ) (g : History) (sound : IsSound g) (here : IsFirstArrived g k) (ks : List ℕ) (arr : arrived g ≡ k ∷ ks) where
  pub opened_arrived : arrived ((Opened l k, bytes) ∷ g) ≡ ks
  opened_arrived = those_rest (λ j. landed g j && not (opened g j)) (λ j. landed g j && not (k == j || opened g j)) k
      (rw (eq-eqb k k refl) (and_false (landed g k))) (λ j apart. rw (ne_eqb k j (λ e. apart (sym e))) refl) (made g) ks arr

  is_made : k < made g
  is_made = (those_first (λ j. landed g j && not (opened g j)) (made g) k (ap first arr)).is_below

  pub opened_some : (s : ℕ × ℕ) → span g k ≡ Some s → s.0 < s.1
  opened_some s is = let w = has_numbers g sound k is_made in subst (λ (p : ℕ × ℕ). p.0 < p.1) (same_Some (w.from, w.to) s (sym w.is_span ∙ is)) w.some

  pub opened_current : (a b : ℕ) → span g k ≡ Some (a, b) → a < b → current g ≡ None → current ((Opened l k, bytes) ∷ g) ≡ Some k
  opened_current a b s some none = those_first_is (λ j. (k == j || opened g j) && not (is_empty (left_of g j))) (made g) k
      (rw (eq-eqb k k refl, left_some g sound k a b here.is_unopened s some) refl) is_made
      (λ j low. rw (ne_eqb k j (λ e. omega arith))
      (those_none (λ i. opened g i && not (is_empty (left_of g i))) (made g) (first_none (those (λ i. opened g i && not (is_empty (left_of g i))) (made g)) none) j (omega (arith, is_made))))
