-- How often the transfers of a lane are tried again: none more than three times, and together at most three times for each
-- that was made.
use Rattle.std.proofs.Common.{◌≡◌, ℕ, ◌+◌, ◌*◌, ◌<◌, ◌≤◌, Bool, true, false, ◌==◌, [], ◌∷◌, inl, inr, refl, subst, arith, reverse}
use Rattle.std.proofs.lemmas.Bool.{eqb-true, eq-eqb, cases_lt}
use Rattle.un_frame.specs.declared.kinds.Planned.{Planned}
use Rattle.un_frame.specs.declared.kinds.Planned.TheVariants.{Clean, Proto, Halt}
use Rattle.un_frame.specs.declared.params.Lane.{Lane}
use Rattle.un_facts.specs.Numbers.{one_if}
use Rattle.un_journal.specs.declared.lines.Line.TheVariants.{Made, Landed, Failed, Retried, Cut}
use Rattle.un_frame.specs.Attempts.{RetriesAfter}
use Rattle.un_journal.specs.Script.{Script, planned}
use Rattle.un_journal.specs.History.{History, past, made, ends, retries, attempts, more_if}
use Rattle.un_journal.specs.Sound.{IsSound}
use Rattle.un_journal.specs.Rules.{AllLane}
use Rattle.un_journal.specs.Fits.{Legal}
use Rattle.un_journal.proofs.Lanes.SerialOrder.{is_up, in_order, flight_is}
use Rattle.un_journal.proofs.Lanes.PoolSums.{ends_made, flying_made, lane_ruled}
use Rattle.un_journal.proofs.Steps.StaySound.{legal_good}
use Rattle.un_journal.proofs.Steps.LineRules.{legal_ruled}

again_below : (p : Planned) (r : ℕ) → RetriesAfter p r → r < 3
again_below Clean r w = absurd w
again_below (Proto times) r w = w.1
again_below Halt r w = absurd w

-- no transfer is tried again more than three times, one that wasn't made never, and none after the one that is next to end
record Tried (k e m a : ℕ) : Type 0 where
  pub low : a ≤ 3
  pub unmade : m ≤ k → a ≡ 0
  pub later : e < k → a ≡ 0

tried_more : (b : Bool) (j k e m a : ℕ) → (b ≡ true → j ≡ k) → j ≡ e → j < m → (b ≡ true → a < 3) → Tried k e m a → Tried k e m (more_if b a)
tried_more true j k e m a same je jm low w =
    let jk : j ≡ k = same refl in let some : a < 3 = low refl in
    record { low = omega arith; unmade = λ h. absurd (omega arith); later = λ h. absurd (omega arith) }
tried_more false j k e m a same je jm low w = w

tried : (script : Script) (l : Lane) (g : History) → IsSound g → AllLane script l g → (k : ℕ) → Tried k (ends g) (made g) (attempts g k)
tried script l [] sound all k = record { low = omega arith; unmade = λ h. refl; later = λ h. refl }
tried script l ((Made l' j a b, bytes) ∷ g) sound all k = let w = tried script l g sound.1 all.1 k in record { low = w.low; unmade = λ h. w.unmade (omega arith); later = w.later }
tried script l ((Landed l' j, bytes) ∷ g) sound all k = let w = tried script l g sound.1 all.1 k in record { low = w.low; unmade = w.unmade; later = λ h. w.later (omega arith) }
tried script l ((Failed l' j kind, bytes) ∷ g) sound all k = let w = tried script l g sound.1 all.1 k in record { low = w.low; unmade = w.unmade; later = λ h. w.later (omega arith) }
tried script l ((Cut l' j c, bytes) ∷ g) sound all k = let w = tried script l g sound.1 all.1 k in record { low = w.low; unmade = w.unmade; later = λ h. w.later (omega arith) }
tried script l ((Retried l' j n, bytes) ∷ g) sound all k =
    tried_more (j == k) j k (ends g) (made g) (attempts g k) (eqb-true j k) (flight_is g sound.1 (in_order g sound.1) j sound.0) (flying_made g sound.1 j sound.0)
    (λ t. subst (λ i. attempts g i < 3) (eqb-true j k t) (again_below (planned script l j) (attempts g j) all.0.rule.1)) (tried script l g sound.1 all.1 k)
tried script l (e ∷ g) sound all k = tried script l g sound.1 all.1 k

pub attempts_most : (script : Script) (l : Lane) (g : History) → IsSound g → AllLane script l g → (k : ℕ) → attempts g k ≤ 3
attempts_most script l g sound all k = (tried script l g sound all k).low

pub legal_attempts : (script : Script) (h : History) → Legal script h → (l : Lane) (k : ℕ) → attempts (past l h) k ≤ 3
legal_attempts script h legal l k = attempts_most script l (past l h) ((legal_good script h legal).sound l) (lane_ruled script (reverse h) (legal_ruled script h legal) l) k

-- a transfer that wasn't made, or that comes after the one that is next to end, wasn't tried
pub untried : (script : Script) (l : Lane) (g : History) → IsSound g → AllLane script l g → (k : ℕ) → ends g < k → attempts g k ≡ 0
untried script l g sound all k h = (tried script l g sound all k).later h

pub unmade_untried : (script : Script) (l : Lane) (g : History) → IsSound g → AllLane script l g → (k : ℕ) → made g ≤ k → attempts g k ≡ 0
unmade_untried script l g sound all k h = (tried script l g sound all k).unmade h

retries_ends : (script : Script) (l : Lane) (g : History) → IsSound g → AllLane script l g → retries g ≤ 3 * ends g + attempts g (ends g)
retries_ends script l [] sound all = omega arith
retries_ends script l ((Landed l' j, bytes) ∷ g) sound all = let e : retries g ≤ 3 * ends g + attempts g (ends g) = retries_ends script l g sound.1 all.1 in let a : attempts g (ends g) ≤ 3 = (tried script l g sound.1 all.1 (ends g)).low in omega arith
retries_ends script l ((Failed l' j kind, bytes) ∷ g) sound all = let e : retries g ≤ 3 * ends g + attempts g (ends g) = retries_ends script l g sound.1 all.1 in let a : attempts g (ends g) ≤ 3 = (tried script l g sound.1 all.1 (ends g)).low in omega arith
retries_ends script l ((Cut l' j c, bytes) ∷ g) sound all = let e : retries g ≤ 3 * ends g + attempts g (ends g) = retries_ends script l g sound.1 all.1 in let a : attempts g (ends g) ≤ 3 = (tried script l g sound.1 all.1 (ends g)).low in omega arith
retries_ends script l ((Retried l' j n, bytes) ∷ g) sound all =
    let e : retries g ≤ 3 * ends g + attempts g (ends g) = retries_ends script l g sound.1 all.1 in
    let je : j ≡ ends g = flight_is g sound.1 (in_order g sound.1) j sound.0 in
    rw (eq-eqb j (ends g) je) (omega arith)
retries_ends script l (e ∷ g) sound all = retries_ends script l g sound.1 all.1

pub retries_made : (script : Script) (l : Lane) (g : History) → IsSound g → AllLane script l g → retries g ≤ 3 * made g
retries_made script l g sound all =
    let e : retries g ≤ 3 * ends g + attempts g (ends g) = retries_ends script l g sound all in
    let w = tried script l g sound all (ends g) in
    let low : attempts g (ends g) ≤ 3 = w.low in
    let high : ends g + one_if (is_up g) ≤ made g = ends_made g sound in
    elim (cases_lt (ends g) (made g)) [ inl less ↦ omega arith | inr more ↦ let none : attempts g (ends g) ≡ 0 = w.unmade more in omega arith ]
