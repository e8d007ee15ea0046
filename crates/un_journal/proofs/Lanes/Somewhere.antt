-- How many transfers fly, and that every receive request is somewhere.
use Rattle.std.proofs.Common.{◌≡◌, ℕ, ◌+◌, Bool, true, false, length, refl, sym, ap, ◌∙◌, arith}
use Rattle.std.proofs.lemmas.Bool.{false≢true}
use Rattle.un_facts.specs.Numbers.{one_if}
use Rattle.un_frame.specs.Lanes.{rx_size}
use Rattle.un_frame.specs.declared.params.Lane.{Lane}
use Rattle.un_frame.specs.declared.params.Params.{Params}
use Rattle.un_journal.specs.History.{History, made, flies, flying, posted, delivered, ends}
use Rattle.un_journal.specs.Lookup.{rx_home, landings}
use Rattle.un_journal.specs.Sound.{IsSound}
use Rattle.un_journal.proofs.Lanes.SerialOrder.{is_up, in_order, flight_is}
use Rattle.un_journal.proofs.Lanes.Status.{status_of}
use Rattle.un_journal.proofs.Lists.Passing.{those_empty, those_count}
use Rattle.un_journal.proofs.Lanes.PoolSums.{HomeSums, landed_lines, landed_count, up_of, flying_made}

-- FLIGHTS

-- one transfer flies where one is up, else none
pub flying_count : (g : History) → IsSound g → length (flying g) ≡ one_if (is_up g)
flying_count g sound = go (is_up g) refl
  where
    none : ℕ → Bool
    none k = false

    go : (b : Bool) → is_up g ≡ b → length (flying g) ≡ one_if b
    go false e = ap length (those_empty (flies g) (made g) (λ k h. not_flying k (flies g k) refl))
      where
        not_flying : (k : ℕ) (b : Bool) → flies g k ≡ b → b ≡ false
        not_flying k false f = refl
        not_flying k true f = absurd (false≢true (sym e ∙ up_of g sound k f))
    go true e =
        those_count none (flies g) (ends g) refl (λ k apart. not_other k apart (flies g k) refl) (made g) (flying_made g sound (ends g) here)
        ∙ rw (ap length (those_empty none (made g) (λ k h. refl)), here) refl
      where
        here : flies g (ends g) ≡ true
        here = (status_of g sound (ends g)).flies_is ∙ (in_order g sound (ends g)).aloft_at e refl

        not_other : (k : ℕ) → (k ≡ ends g → ⊥) → (b : Bool) → flies g k ≡ b → b ≡ false
        not_other k apart false f = refl
        not_other k apart true f = absurd (apart (flight_is g sound (in_order g sound) k f))

pub somewhere : (params : Params) (l : Lane) (g : History) → IsSound g → HomeSums params l g
    → rx_home params l g + posted g + length (flying g) + length (landings g) ≡ rx_size params l + length (delivered g)
somewhere params l g sound s =
    let up : length (flying g) ≡ one_if (is_up g) = flying_count g sound in
    let down : length (landings g) ≡ landed_lines g = landed_count g sound in
    let all : rx_home params l g + posted g + one_if (is_up g) + landed_lines g ≡ rx_size params l + length (delivered g) = s.receive_all in omega arith
