-- The transfers that are over and whose requests aren't home, when one more is over.
use Rattle.std.proofs.Common.{◌≡◌, ℕ, ◌<◌, ◌≤◌, Bool, true, false, ◌&&◌, [], ◌∷◌, ◌++◌, refl, ◌∙◌, arith, nat_le}
use Rattle.std.proofs.lemmas.Bool.{le-leb}
use Rattle.un_journal.specs.History.{History, made, those, ended, returned, ends}
use Rattle.un_journal.specs.Sound.{IsSound}
use Rattle.un_journal.proofs.ForLane.{ended_is, returned_ends, in_order}
use Rattle.un_lane.specs.Stands.{finished}
use Rattle.un_lane.proofs.Serials.{those_plus}

pub ended_above : (g : History) → IsSound g → (j : ℕ) → ends g ≤ j → ended g j ≡ false
ended_above g sound j h = ended_is g sound j ∙ (in_order g sound j).above h

-- k is the next one that is over
pub finish_plus : (g : History) → IsSound g → (k : ℕ) → k ≡ ends g → k < made g → (q : ℕ → Bool) → q k ≡ true → ((j : ℕ) → (j ≡ k → ⊥) → q j ≡ ended g j)
    → those (λ j. q j && nat_le (returned g) j) (made g) ≡ finished g ++ k ∷ []
finish_plus g sound k last below q here other =
    those_plus (λ j. ended g j && nat_le (returned g) j) (λ j. q j && nat_le (returned g) j) k
    (let low : returned g ≤ ends g = returned_ends g sound in rw (here, le-leb (returned g) k (omega arith)) refl)
    (λ j h. rw (other j (λ e. omega arith)) refl)
    (λ j h. rw (ended_above g sound j (omega arith)) refl)
    (λ j h. rw (other j (λ e. omega arith), ended_above g sound j (omega arith)) refl)
    (made g) below
