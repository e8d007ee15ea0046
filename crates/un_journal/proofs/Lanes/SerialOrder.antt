-- In a sound lane transfers end, are opened and are given in the order of their serials.
use Rattle.std.proofs.Common.{◌≡◌, ℕ, ◌+◌, ◌<◌, ◌≤◌, Bool, true, false, not, ◌&&◌, ◌||◌, ◌==◌, [], ◌∷◌, ◌⊎◌, inl, inr, refl, sym, ◌∙◌, subst, arith, if◌then◌else◌}
use Rattle.std.proofs.lemmas.Bool.{false≢true, eqb-true, eqb-false, eq-eqb, cases_lt, cases_Bool}
use Rattle.un_journal.specs.declared.lines.Line.TheVariants.{Flying, Landed, Failed, Retried, Cut}
use Rattle.un_journal.specs.History.{History, flies, waits, landed, failed, was_cut, ends}
use Rattle.un_journal.specs.Sound.{IsSound, IsNext}
use Rattle.un_journal.proofs.Lanes.Status.{Status, Quiet, Aloft, Arrived, Faulted, Severed, Reads, status, status_of, is_aloft, is_arrived, is_faulted, is_severed}

-- whether a transfer flies
abbrev pub is_up : History → Bool
is_up [] = false
is_up ((Flying l k, bytes) ∷ g) = true
is_up ((Landed l k, bytes) ∷ g) = false
is_up ((Failed l k kind, bytes) ∷ g) = false
is_up ((Retried l k n, bytes) ∷ g) = false
is_up ((Cut l k c, bytes) ∷ g) = false
is_up (e ∷ g) = is_up g

abbrev pub is_over : Status → Bool
is_over Arrived = true
is_over Faulted = true
is_over Severed = true
is_over _ = false

-- a transfer is over exactly where it is below the number of ends, and it flies exactly where it is that number and one flies
pub record InOrder (k e : ℕ) (up : Bool) (s : Status) : Type 0 where
  pub below : k < e → is_over s ≡ true
  pub above : e ≤ k → is_over s ≡ false
  pub aloft : is_aloft s ≡ true → (k ≡ e) × (up ≡ true)
  pub aloft_at : up ≡ true → k ≡ e → is_aloft s ≡ true

abbrev pub Ordered : History → Type 0
Ordered g = (k : ℕ) → InOrder k (ends g) (is_up g) (status g k)

-- one that flies becomes one that is over
end_flight : (b up : Bool) (k e : ℕ) (s t : Status) → is_over t ≡ true → is_aloft t ≡ false → (b ≡ true → k ≡ e) → (b ≡ false → k ≡ e → ⊥) → InOrder k e up s → (up ≡ true → k ≡ e → b ≡ true) → (is_aloft s ≡ true → b ≡ true) → InOrder k (e + 1) false (if b then t else s)
end_flight true up k e s t over flat same other w z y = record {
  below = λ h. over;
  above = λ h. absurd (let k≡e : k ≡ e = same refl in omega arith);
  aloft = λ h. absurd (false≢true (sym flat ∙ h));
  aloft_at = λ h i. absurd (false≢true h);
}
end_flight false up k e s t over flat same other w z y = record {
  below = λ h. w.below (let k≢e : k ≡ e → ⊥ = other refl in omega arith);
  above = λ h. w.above (omega arith);
  aloft = λ h. absurd (false≢true (y h));
  aloft_at = λ h i. absurd (false≢true h);
}

-- the one that waits first, where none flies, is the one after those that are over
quiet_one : (s : Status) → is_over s ≡ false → is_aloft s ≡ false → (not (is_aloft s) && not (is_arrived s || is_faulted s || is_severed s)) ≡ true
quiet_one Quiet o a = refl
quiet_one Aloft o a = absurd (false≢true (sym a))
quiet_one Arrived o a = absurd (false≢true (sym o))
quiet_one Faulted o a = absurd (false≢true (sym o))
quiet_one Severed o a = absurd (false≢true (sym o))

over_one : (s : Status) → (not (is_aloft s) && not (is_arrived s || is_faulted s || is_severed s)) ≡ true → is_over s ≡ false
over_one Quiet w = refl
over_one Aloft w = refl
over_one Arrived w = absurd (false≢true w)
over_one Faulted w = absurd (false≢true w)
over_one Severed w = absurd (false≢true w)

-- `waits` by the status
waits_is : (g : History) (k : ℕ) (s : Status) → Reads (flies g k) (landed g k) (failed g k) (was_cut g k) s → waits g k ≡ (not (is_aloft s) && not (is_arrived s || is_faulted s || is_severed s))
waits_is g k s r = rw (r.flies_is, r.landed_is, r.failed_is, r.cut_is) refl

pub next_is : (g : History) → IsSound g → Ordered g → (k : ℕ) → IsNext g k → k ≡ ends g
next_is g sound w k n =
    let not_over : is_over (status g k) ≡ false = over_one (status g k) (sym (waits_is g k (status g k) (status_of g sound k)) ∙ n.is_waiting) in
    let low : ends g ≤ k = elim (cases_lt k (ends g)) [ inl h ↦ absurd (false≢true (sym not_over ∙ (w k).below h)) | inr h ↦ h ] in
    elim (cases_lt (ends g) k) [
      | inl h ↦ absurd (false≢true (sym (n.is_least (ends g) h) ∙ (waits_is g (ends g) (status g (ends g)) (status_of g sound (ends g))
          ∙ quiet_one (status g (ends g)) ((w (ends g)).above (omega arith)) (sym (status_of g sound (ends g)).flies_is ∙ n.is_alone (ends g)))))
      | inr h ↦ omega arith
    ]

pub none_up : (g : History) → IsSound g → Ordered g → (k : ℕ) → IsNext g k → is_up g ≡ false
none_up g sound w k n =
    elim (cases_Bool (is_up g)) [
      | inl h ↦ absurd (false≢true (sym (n.is_alone (ends g)) ∙ ((status_of g sound (ends g)).flies_is ∙ (w (ends g)).aloft_at h refl)))
      | inr h ↦ h
    ]

pub flight_is : (g : History) → IsSound g → Ordered g → (k : ℕ) → flies g k ≡ true → k ≡ ends g
flight_is g sound w k f = ((w k).aloft (sym (status_of g sound k).flies_is ∙ f)).0

begin_flight : (b : Bool) (k e : ℕ) (s : Status) → (b ≡ true → k ≡ e) → (b ≡ false → k ≡ e → ⊥) → is_aloft s ≡ false → InOrder k e false s → InOrder k e true (if b then Aloft else s)
begin_flight true k e s same other flat w = record {
  below = λ h. absurd (let k≡e : k ≡ e = same refl in omega arith);
  above = λ h. refl;
  aloft = λ h. (same refl, refl);
  aloft_at = λ h i. refl;
}
begin_flight false k e s same other flat w = record {
  below = w.below;
  above = w.above;
  aloft = λ h. absurd (false≢true (sym flat ∙ h));
  aloft_at = λ h i. absurd (other refl i);
}

-- which of two numbers a test says is one: j is the number of ends
same_yes : (j k e : ℕ) → j ≡ e → (j == k) ≡ true → k ≡ e
same_yes j k e je t = sym (eqb-true j k t) ∙ je

same_no : (j k e : ℕ) → j ≡ e → (j == k) ≡ false → k ≡ e → ⊥
same_no j k e je t ke = eqb-false j k t (je ∙ sym ke)

end_at : (g : History) (j : ℕ) (t : Status) → is_over t ≡ true → is_aloft t ≡ false → j ≡ ends g → Ordered g → (k : ℕ) → InOrder k (ends g + 1) false (if j == k then t else status g k)
end_at g j t over flat je w k =
    end_flight (j == k) (is_up g) k (ends g) (status g k) t over flat (same_yes j k (ends g) je) (same_no j k (ends g) je) (w k)
    (λ u ke. eq-eqb j k (je ∙ sym ke)) (λ a. eq-eqb j k (je ∙ sym ((w k).aloft a).0))

-- one that flies waits again: it stays the one after those that are over
wait_at : (b up : Bool) (k e : ℕ) (s : Status) → (b ≡ true → k ≡ e) → InOrder k e up s → (is_aloft s ≡ true → b ≡ true) → InOrder k e false (if b then Quiet else s)
wait_at true up k e s same w y = record {
  below = λ h. absurd (let k≡e : k ≡ e = same refl in omega arith);
  above = λ h. refl;
  aloft = λ h. absurd (false≢true h);
  aloft_at = λ h i. absurd (false≢true h);
}
wait_at false up k e s same w y = record {
  below = w.below;
  above = w.above;
  aloft = λ h. absurd (false≢true (y h));
  aloft_at = λ h i. absurd (false≢true h);
}

begin_at : (g : History) (j : ℕ) → IsSound g → IsNext g j → Ordered g → (k : ℕ) → InOrder k (ends g) true (if j == k then Aloft else status g k)
begin_at g j sound n w k =
    let je : j ≡ ends g = next_is g sound w j n in
    begin_flight (j == k) k (ends g) (status g k) (same_yes j k (ends g) je) (same_no j k (ends g) je)
    (sym (status_of g sound k).flies_is ∙ n.is_alone k)
    (subst (λ u. InOrder k (ends g) u (status g k)) (none_up g sound w j n) (w k))

cut_is_at : (g : History) (j : ℕ) → IsSound g → Ordered g → (flies g j ≡ true) ⊎ IsNext g j → j ≡ ends g
cut_is_at g j sound w (inl f) = flight_is g sound w j f
cut_is_at g j sound w (inr n) = next_is g sound w j n

pub in_order : (g : History) → IsSound g → Ordered g
in_order [] sound k = record { below = λ h. absurd (omega arith); above = λ h. refl; aloft = λ h. absurd (false≢true h); aloft_at = λ h i. absurd (false≢true h) }
in_order ((Flying l j, bytes) ∷ g) sound k = begin_at g j sound.1 sound.0 (in_order g sound.1) k
in_order ((Landed l j, bytes) ∷ g) sound k = end_at g j Arrived refl refl (flight_is g sound.1 (in_order g sound.1) j sound.0) (in_order g sound.1) k
in_order ((Failed l j kind, bytes) ∷ g) sound k = end_at g j Faulted refl refl (flight_is g sound.1 (in_order g sound.1) j sound.0) (in_order g sound.1) k
in_order ((Retried l j n, bytes) ∷ g) sound k =
    let je : j ≡ ends g = flight_is g sound.1 (in_order g sound.1) j sound.0 in
    wait_at (j == k) (is_up g) k (ends g) (status g k) (same_yes j k (ends g) je) (in_order g sound.1 k)
    (λ a. eq-eqb j k (je ∙ sym ((in_order g sound.1 k).aloft a).0))
in_order ((Cut l j c, bytes) ∷ g) sound k = end_at g j Severed refl refl (cut_is_at g j sound.1 (in_order g sound.1) sound.0) (in_order g sound.1) k
in_order (e ∷ g) sound k = in_order g sound.1 k
