-- In a sound lane each number is in exactly one place.
use Rattle.std.proofs.Common.{◌≡◌, ℕ, Bool, true, false, not, ◌&&◌, ◌||◌, List, [], ◌∷◌, Option, Some, None, inl, inr, refl, sym, ◌∙◌, subst, is_some}
use Rattle.std.proofs.lemmas.Bool.{false≢true, cases_lt}
use Rattle.std.proofs.lemmas.Option.{same_Some, none-some}
use Rattle.un_journal.specs.History.{History, flies, waits, landed, failed, was_cut, opened, gave, serial_of, dropped, for_serial, cover, made}
use Rattle.un_journal.specs.Sound.{IsSound}
use Rattle.un_journal.specs.Places.{trues, places}
use Rattle.un_journal.proofs.Lanes.Status.{Status, Quiet, Aloft, Arrived, Faulted, Severed, Reads, status, status_of, is_aloft, is_arrived, is_faulted, is_severed}
use Rattle.un_journal.proofs.Lanes.Owners.{Owned, owned, GivenFrom, given_from, opened_landed}

-- the places of a number of a transfer, from the transfer's look-ups and whether the number was given
places_of : (f l x c v : Bool) → List Bool
places_of f l x c v = false ∷ ((not f && not (l || x || c)) || (l && not v)) ∷ f ∷ v ∷ ((x || c) || false) ∷ []

abbrev place_count : (f l x c v : Bool) → ℕ
place_count f l x c v = trues (false ∷ ((not f && not (l || x || c)) || (l && not v)) ∷ f ∷ v ∷ ((x || c) || false) ∷ [])

one_by_status : (s : Status) (v : Bool) → (v ≡ true → is_arrived s ≡ true) → place_count (is_aloft s) (is_arrived s) (is_faulted s) (is_severed s) v ≡ 1
one_by_status Quiet false h = refl
one_by_status Quiet true h = absurd (false≢true (h refl))
one_by_status Aloft false h = refl
one_by_status Aloft true h = absurd (false≢true (h refl))
one_by_status Arrived false h = refl
one_by_status Arrived true h = refl
one_by_status Faulted false h = refl
one_by_status Faulted true h = absurd (false≢true (h refl))
one_by_status Severed false h = refl
one_by_status Severed true h = absurd (false≢true (h refl))

one_in_transfer : (f l x c v : Bool) (s : Status) → Reads f l x c s → (v ≡ true → l ≡ true) → place_count f l x c v ≡ 1
one_in_transfer f l x c v s r h =
    rw (r.flies_is, r.landed_is, r.failed_is, r.cut_is) (one_by_status s v (λ e. sym r.landed_is ∙ h e))

-- the five places, from who owns the number
abbrev places_with : History → ℕ → Option ℕ → Bool → ℕ
places_with g n o d =
    trues ((not (is_some o) && not d) ∷ for_serial (λ k. waits g k || (landed g k && not (gave g n))) o ∷ for_serial (flies g) o ∷ gave g n
    ∷ (for_serial (λ k. failed g k || was_cut g k) o || d) ∷ [])

record Facts (g : History) (n : ℕ) (o : Option ℕ) (d : Bool) : Type 0 where
  exclusive : is_some o ≡ true → d ≡ false
  is_given : gave g n ≡ true → GivenFrom o (opened g)

one_place : (g : History) (n : ℕ) (o : Option ℕ) (d : Bool) → IsSound g → Facts g n o d → places_with g n o d ≡ 1
one_place g n (Some k) true sound facts = absurd (false≢true (sym (facts.exclusive refl)))
one_place g n (Some k) false sound facts =
    one_in_transfer (flies g k) (landed g k) (failed g k) (was_cut g k) (gave g n) (status g k) (status_of g sound k)
    (λ e. let r = facts.is_given e in opened_landed g sound k (subst (λ i. opened g i ≡ true) (sym (same_Some k r.serial r.is_owner)) r.was_opened))
one_place g n None d sound facts = one_unowned (gave g n) d (λ e. let r = facts.is_given e in none-some r.serial r.is_owner)
  where
    one_unowned : (v d : Bool) → (v ≡ true → ⊥) → trues (not d ∷ false ∷ false ∷ v ∷ d ∷ []) ≡ 1
    one_unowned true d h = absurd (h refl)
    one_unowned false true h = refl
    one_unowned false false h = refl

exclusive_at : (n cov m : ℕ) (o : Option ℕ) (d : Bool) → Owned n o d cov m → is_some o ≡ true → d ≡ false
exclusive_at n cov m o d w e =
    elim (cases_lt n cov) [ inl low ↦ not_is d (sym e ∙ w.below low) | inr high ↦ (w.above high).1 ]
  where
    not_is : (b : Bool) → true ≡ not b → b ≡ false
    not_is true h = absurd (false≢true (sym h))
    not_is false h = refl

-- each number is in exactly one place
pub partition : (g : History) → IsSound g → (n : ℕ) → trues (places g n) ≡ 1
partition g sound n =
    one_place g n (serial_of g n) (dropped g n) sound
    (record { exclusive = exclusive_at n (cover g) (made g) _ _ (owned g sound n); is_given = given_from g sound n })
