-- What a landed and a made line change at the receiving end: one more transfer has arrived, or nothing.
use Rattle.std.proofs.Common.{◌≡◌, ℕ, ◌+◌, ◌<◌, ◌≤◌, Bool, true, false, not, ◌&&◌, ◌||◌, ◌==◌, List, [], ◌∷◌, ◌++◌, length, inl, inr, refl, sym, ap, ◌∙◌, subst, arith}
use Rattle.std.proofs.lemmas.Bool.{false≢true, cases_eq, cases_Bool, eq-eqb, ne_eqb}
use Rattle.un_facts.specs.Lists.{is_empty}
use Rattle.un_frame.specs.declared.params.Lane.{Lane}
use Rattle.un_journal.specs.declared.lines.Line.TheVariants.{Landed, Made}
use Rattle.un_journal.specs.History.{History, made, those, flies, landed, failed, was_cut, opened, arrived, current, delivered, left_of, first, ends}
use Rattle.un_journal.specs.Sound.{IsSound}
use Rattle.un_journal.proofs.ForLane.{those_same, opened_landed, flying_made, landed_below, in_order, flight_is, aloft_only, status, status_of}
use Rattle.un_check.proofs.ReceivingLists.{those_until, those_one_more}
use Rattle.un_check.proofs.ReceivingSpans.{has_numbers, left_some, unlanded}

-- what hasn't landed isn't opened
unopened : (g : History) → IsSound g → (k : ℕ) → landed g k ≡ false → opened g k ≡ false
unopened g sound k e = elim (cases_Bool (opened g k)) [
  | inl o ↦ absurd (false≢true (sym e ∙ opened_landed g sound k o))
  | inr o ↦ o
]

-- A FLIGHT LANDS

module _ (l : Lane) (k : ℕ) (bytes : List ℕ) (g : History) (sound : IsSound g) (up : flies g k ≡ true) where
  not_landed : landed g k ≡ false
  not_landed = (aloft_only (flies g k) (landed g k) (failed g k) (was_cut g k) (status g k) (status_of g sound k) up).not_landed

  none_landed : (j : ℕ) → k ≤ j → landed g j ≡ false
  none_landed j h = elim (cases_Bool (landed g j)) [
    | inl f ↦ absurd (let low : j < ends g = landed_below g sound j f in let last : k ≡ ends g = flight_is g sound (in_order g sound) k up in omega arith)
    | inr f ↦ f
  ]

  pub landed_arrived : arrived ((Landed l k, bytes) ∷ g) ≡ arrived g ++ k ∷ []
  landed_arrived = those_one_more (λ j. landed g j && not (opened g j)) (λ j. (k == j || landed g j) && not (opened g j)) k (made g)
      (rw (eq-eqb k k refl, unopened g sound k not_landed) refl) (λ j apart. rw (ne_eqb k j (λ e. apart (sym e))) refl)
      (λ j h. rw (none_landed j h) refl) (flying_made g sound k up)

  pub landed_delivered : length (delivered ((Landed l k, bytes) ∷ g)) ≡ length (delivered g)
  landed_delivered =
      let w = has_numbers g sound k (flying_made g sound k up) in
      let some : is_empty (left_of g k) ≡ false = left_some g sound k w.from w.to (unopened g sound k not_landed) w.is_span w.some in
      ap length (those_same (λ j. (k == j || landed g j) && is_empty (left_of g j)) (λ j. landed g j && is_empty (left_of g j)) (made g)
      (λ j h. elim (cases_eq j k) [
        | inl same ↦ subst (λ i. ((k == i || landed g i) && is_empty (left_of g i)) ≡ (landed g i && is_empty (left_of g i))) (sym same) (rw (eq-eqb k k refl, some, not_landed) refl)
        | inr apart ↦ rw (ne_eqb k j (λ e. apart (sym e))) refl
      ]))

-- A TRANSFER IS MADE

module _ (l : Lane) (k a b : ℕ) (bytes : List ℕ) (g : History) (sound : IsSound g) (last : k ≡ made g) where
  -- what no unmade transfer passes, and what passes the same below, gives the same list
  same_list : (p q : ℕ → Bool) → ((j : ℕ) → made g ≤ j → q j ≡ false) → ((j : ℕ) → j < made g → q j ≡ p j) → those q (made g + 1) ≡ those p (made g)
  same_list p q none same = those_until q (made g) (made g + 1) none (omega arith) ∙ those_same q p (made g) same

  pub made_left : (j : ℕ) → j < made g → left_of ((Made l k a b, bytes) ∷ g) j ≡ left_of g j
  made_left j h = rw (ne_eqb k j (λ e. omega arith)) refl

  pub made_arrived : arrived ((Made l k a b, bytes) ∷ g) ≡ arrived g
  made_arrived = same_list (λ j. landed g j && not (opened g j)) (λ j. landed g j && not (opened g j)) (λ j h. rw (unlanded g sound j h) refl) (λ j h. refl)

  pub made_current : current ((Made l k a b, bytes) ∷ g) ≡ current g
  made_current = ap first (same_list (λ j. opened g j && not (is_empty (left_of g j))) (λ j. opened g j && not (is_empty (left_of ((Made l k a b, bytes) ∷ g) j)))
      (λ j h. rw (unopened g sound j (unlanded g sound j h)) refl) (λ j h. ap (λ xs. opened g j && not (is_empty xs)) (made_left j h)))

  pub made_delivered : length (delivered ((Made l k a b, bytes) ∷ g)) ≡ length (delivered g)
  made_delivered = ap length (same_list (λ j. landed g j && is_empty (left_of g j)) (λ j. landed g j && is_empty (left_of ((Made l k a b, bytes) ∷ g) j))
      (λ j h. rw (unlanded g sound j h) refl) (λ j h. ap (λ xs. landed g j && is_empty xs) (made_left j h)))
