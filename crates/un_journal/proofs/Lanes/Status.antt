-- Each transfer of a sound lane has one status, and every look-up on it is read from that.
use Rattle.std.proofs.Common.{◌≡◌, ℕ, Bool, true, false, not, ◌&&◌, ◌||◌, ◌==◌, [], ◌∷◌, ◌⊎◌, inl, inr, refl, sym, ◌∙◌, subst, if◌then◌else◌}
use Rattle.std.proofs.lemmas.Bool.{false≢true, eqb-true}
use Rattle.un_journal.specs.declared.lines.Line.TheVariants.{Flying, Landed, Failed, Retried, Cut}
use Rattle.un_journal.specs.History.{History, flies, waits, landed, failed, was_cut}
use Rattle.un_journal.specs.Sound.{IsSound, IsNext}

pub data Status : Type 0 where
  Quiet : Status
  Aloft : Status
  Arrived : Status
  Faulted : Status
  Severed : Status

abbrev pub is_aloft : Status → Bool
is_aloft Aloft = true
is_aloft _ = false

abbrev pub is_arrived : Status → Bool
is_arrived Arrived = true
is_arrived _ = false

abbrev pub is_faulted : Status → Bool
is_faulted Faulted = true
is_faulted _ = false

abbrev pub is_severed : Status → Bool
is_severed Severed = true
is_severed _ = false

abbrev pub status : History → ℕ → Status
status [] k = Quiet
status ((Flying l j, bytes) ∷ g) k = if j == k then Aloft else status g k
status ((Landed l j, bytes) ∷ g) k = if j == k then Arrived else status g k
status ((Failed l j kind, bytes) ∷ g) k = if j == k then Faulted else status g k
status ((Retried l j n, bytes) ∷ g) k = if j == k then Quiet else status g k
status ((Cut l j c, bytes) ∷ g) k = if j == k then Severed else status g k
status (e ∷ g) k = status g k

-- the four look-ups on a transfer, read from its status. Over the values, so that a line that changes none of them needs no proof
pub record Reads (flies' landed' failed' cut' : Bool) (s : Status) : Type 0 where
  pub flies_is : flies' ≡ is_aloft s
  pub landed_is : landed' ≡ is_arrived s
  pub failed_is : failed' ≡ is_faulted s
  pub cut_is : cut' ≡ is_severed s

pub record NoneEnded (l x c : Bool) : Type 0 where
  pub not_landed : l ≡ false
  pub not_failed : x ≡ false
  pub not_cut : c ≡ false

pub aloft_only : (f l x c : Bool) (s : Status) → Reads f l x c s → f ≡ true → NoneEnded l x c
aloft_only f l x c Aloft r e = record { not_landed = r.landed_is; not_failed = r.failed_is; not_cut = r.cut_is }
aloft_only f l x c Quiet r e = absurd (false≢true (sym r.flies_is ∙ e))
aloft_only f l x c Arrived r e = absurd (false≢true (sym r.flies_is ∙ e))
aloft_only f l x c Faulted r e = absurd (false≢true (sym r.flies_is ∙ e))
aloft_only f l x c Severed r e = absurd (false≢true (sym r.flies_is ∙ e))

pub waits_only : (f l x c : Bool) → (not f && not (l || x || c)) ≡ true → (f ≡ false) × NoneEnded l x c
waits_only false false false false e = (refl, record { not_landed = refl; not_failed = refl; not_cut = refl })
waits_only false false false true e = absurd (false≢true e)
waits_only false false true c e = absurd (false≢true e)
waits_only false true x c e = absurd (false≢true e)
waits_only true l x c e = absurd (false≢true e)

fly : (b f l x c : Bool) (s : Status) → Reads f l x c s → (b ≡ true → NoneEnded l x c) → Reads (b || f) l x c (if b then Aloft else s)
fly true f l x c s r h =
    let n = h refl in record { flies_is = refl; landed_is = n.not_landed; failed_is = n.not_failed; cut_is = n.not_cut }
fly false f l x c s r h = r

land : (b f l x c : Bool) (s : Status) → Reads f l x c s → (b ≡ true → NoneEnded l x c) → Reads (not b && f) (b || l) x c (if b then Arrived else s)
land true f l x c s r h = let n = h refl in record { flies_is = refl; landed_is = refl; failed_is = n.not_failed; cut_is = n.not_cut }
land false f l x c s r h = r

fail : (b f l x c : Bool) (s : Status) → Reads f l x c s → (b ≡ true → NoneEnded l x c) → Reads (not b && f) l (b || x) c (if b then Faulted else s)
fail true f l x c s r h = let n = h refl in record { flies_is = refl; landed_is = n.not_landed; failed_is = refl; cut_is = n.not_cut }
fail false f l x c s r h = r

-- one that is tried again waits once more
wait_again : (b f l x c : Bool) (s : Status) → Reads f l x c s → (b ≡ true → NoneEnded l x c) → Reads (not b && f) l x c (if b then Quiet else s)
wait_again true f l x c s r h = let n = h refl in record { flies_is = refl; landed_is = n.not_landed; failed_is = n.not_failed; cut_is = n.not_cut }
wait_again false f l x c s r h = r

sever : (b f l x c : Bool) (s : Status) → Reads f l x c s → (b ≡ true → NoneEnded l x c) → Reads (not b && f) l x (b || c) (if b then Severed else s)
sever true f l x c s r h = let n = h refl in record { flies_is = refl; landed_is = n.not_landed; failed_is = n.not_failed; cut_is = refl }
sever false f l x c s r h = r

-- a fact of j is one of k, where their test for equality passes
pub at_same : (P : ℕ → Type 0) (j k : ℕ) → P j → (j == k) ≡ true → P k
at_same P j k p e = subst P (eqb-true j k e) p

abbrev pub OpenAt : History → ℕ → Type 0
OpenAt g k = NoneEnded (landed g k) (failed g k) (was_cut g k)

abbrev pub Read : History → ℕ → Type 0
Read g k = Reads (flies g k) (landed g k) (failed g k) (was_cut g k) (status g k)

pub flying_open : (g : History) (j k : ℕ) → Read g k → flies g j ≡ true → (j == k) ≡ true → OpenAt g k
flying_open g j k r f e = aloft_only (flies g k) _ _ _ (status g k) r (at_same (λ i. flies g i ≡ true) j k f e)

pub next_open : (g : History) (j k : ℕ) → IsNext g j → (j == k) ≡ true → OpenAt g k
next_open g j k n e = (waits_only (flies g k) (landed g k) (failed g k) (was_cut g k) (at_same (λ i. waits g i ≡ true) j k n.is_waiting e)).1

pub cut_open : (g : History) (j k : ℕ) → Read g k → (flies g j ≡ true) ⊎ IsNext g j → (j == k) ≡ true → OpenAt g k
cut_open g j k r (inl f) e = flying_open g j k r f e
cut_open g j k r (inr n) e = next_open g j k n e

-- every look-up on a transfer of a sound lane is read from its status
pub status_of : (g : History) → IsSound g → (k : ℕ) → Read g k
status_of [] sound k = record { flies_is = refl; landed_is = refl; failed_is = refl; cut_is = refl }
status_of ((Flying l j, bytes) ∷ g) sound k =
    fly (j == k) (flies g k) _ _ _ (status g k) (status_of g sound.1 k) (next_open g j k sound.0)
status_of ((Landed l j, bytes) ∷ g) sound k =
    let r = status_of g sound.1 k in land (j == k) (flies g k) _ _ _ (status g k) r (flying_open g j k r sound.0)
status_of ((Failed l j kind, bytes) ∷ g) sound k =
    let r = status_of g sound.1 k in fail (j == k) (flies g k) _ _ _ (status g k) r (flying_open g j k r sound.0)
status_of ((Retried l j n, bytes) ∷ g) sound k =
    let r = status_of g sound.1 k in wait_again (j == k) (flies g k) _ _ _ (status g k) r (flying_open g j k r sound.0)
status_of ((Cut l j c, bytes) ∷ g) sound k =
    let r = status_of g sound.1 k in sever (j == k) (flies g k) _ _ _ (status g k) r (cut_open g j k r sound.0)
status_of (e ∷ g) sound k = status_of g sound.1 k
