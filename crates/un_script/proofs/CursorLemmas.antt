-- Cursors and the lines that they are read from.
use Rattle.std.proofs.Common.{◌≡◌, ℕ, zero, suc, ◌+◌, ◌<◌, ◌≤◌, Bool, true, false, ◌==◌, List, [], ◌∷◌, length, slice_get, unwrap_or, Option, refl, sym, ap, ◌∙◌, subst, arith}
use Rattle.std.proofs.lemmas.Bool.{ne_eqb}
use Rattle.un_frame.specs.declared.params.Lane.{Lane}
use Rattle.un_frame.specs.declared.params.Lane.TheVariants.{Outward, Inward}
use Rattle.un_journal.specs.declared.lines.Line.TheVariants.{Took, Refused}
use Rattle.un_journal.specs.History.{History, consumed, more_if}
use Rattle.un_journal.specs.Lookup.{feed_head}
use Rattle.un_journal.specs.Script.{Script, Frame, Feeds, feed_list, frames_of}
use Rattle.un_script.specs.declared.cursors.Cursors.{Cursors}
use Rattle.un_script.specs.Cursors.{AreRead, advanced, cursor_at}

-- there are no senders but four
no_sender : (feeds : Feeds) (n : ℕ) → unwrap_or (slice_get (feed_list feeds) (suc (suc (suc (suc n))))) [] ≡ []
no_sender feeds n = refl

no_frames : (script : Script) (lane : Lane) (n : ℕ) → frames_of script lane (suc (suc (suc (suc n)))) ≡ []
no_frames script Outward n = no_sender script.outward n
no_frames script Inward n = no_sender script.inward n

nothing : (x y : ℕ) (frames : List Frame) → frames ≡ [] → slice_get frames x ≡ slice_get frames y
nothing x y frames e = rw e refl

-- a sender past the four is none of them
past_four : (n k : ℕ) → k < 4 → (suc (suc (suc (suc n))) == k) ≡ false
past_four n k low = ne_eqb (suc (suc (suc (suc n)))) k (λ e. absurd (omega (arith, e)))

none_at : (c : Cursors) (n : ℕ) → cursor_at c (suc (suc (suc (suc n)))) ≡ 0
none_at c n = rw (past_four n 0 (omega arith), past_four n 1 (omega arith), past_four n 2 (omega arith), past_four n 3 (omega arith)) refl

none_advances : (c : Cursors) (n : ℕ) → advanced (suc (suc (suc (suc n)))) c ≡ c
none_advances c n = rw (past_four n 0 (omega arith), past_four n 1 (omega arith), past_four n 2 (omega arith), past_four n 3 (omega arith)) refl

-- the head of a feed is where its cursor stands
pub head_is : (script : Script) (lane : Lane) (g : History) (c : Cursors) (s : ℕ) → AreRead c g → feed_head script lane g s ≡ slice_get (frames_of script lane s) (cursor_at c s)
head_is script lane g c zero r = ap (slice_get (frames_of script lane zero)) (sym r.first)
head_is script lane g c (suc zero) r = ap (slice_get (frames_of script lane (suc zero))) (sym r.second)
head_is script lane g c (suc (suc zero)) r = ap (slice_get (frames_of script lane (suc (suc zero)))) (sym r.third)
head_is script lane g c (suc (suc (suc zero))) r = ap (slice_get (frames_of script lane (suc (suc (suc zero))))) (sym r.fourth)
head_is script lane g c (suc (suc (suc (suc n)))) r = nothing _ _ (frames_of script lane (suc (suc (suc (suc n))))) (no_frames script lane n)

-- where the lane is known by another name, and the cursor was read
pub feed_is : (script : Script) (own lane : Lane) (g : History) (c : Cursors) (s at : ℕ) (o : Option Frame) → own ≡ lane → AreRead c g → at ≡ cursor_at c s → slice_get (frames_of script lane s) at ≡ o → feed_head script own g s ≡ o
feed_is script own lane g c s at o e r a f = head_is script own g c s r ∙ (ap (slice_get (frames_of script own s)) (sym a) ∙ subst (λ l. slice_get (frames_of script l s) at ≡ o) (sym e) f)

one_more : (b : Bool) (n : ℕ) → more_if b n ≤ n + 1
one_more true n = omega arith
one_more false n = omega arith

consumed_short : (g : History) (s : ℕ) → consumed g s ≤ length g
consumed_short [] s = omega arith
consumed_short ((Took l j, bytes) ∷ g) s = let w : consumed g s ≤ length g = consumed_short g s in let m : more_if (j == s) (consumed g s) ≤ consumed g s + 1 = one_more (j == s) (consumed g s) in omega arith
consumed_short ((Refused l j why, bytes) ∷ g) s = let w : consumed g s ≤ length g = consumed_short g s in let m : more_if (j == s) (consumed g s) ≤ consumed g s + 1 = one_more (j == s) (consumed g s) in omega arith
consumed_short (e ∷ g) s = let w : consumed g s ≤ length g = consumed_short g s in omega arith

-- no feed is read further than there are lines
pub cursor_low : (c : Cursors) (g : History) (s : ℕ) → AreRead c g → cursor_at c s ≤ length g
cursor_low c g zero r = rw r.first (consumed_short g 0)
cursor_low c g (suc zero) r = rw r.second (consumed_short g 1)
cursor_low c g (suc (suc zero)) r = rw r.third (consumed_short g 2)
cursor_low c g (suc (suc (suc zero))) r = rw r.fourth (consumed_short g 3)
cursor_low c g (suc (suc (suc (suc n)))) r = let e : cursor_at c (suc (suc (suc (suc n)))) ≡ 0 = none_at c n in omega arith

-- a line that consumes a frame of the sender moves its cursor
pub advanced_read : (c : Cursors) (g g' : History) (s : ℕ) → AreRead c g → ((j : ℕ) → consumed g' j ≡ more_if (s == j) (consumed g j)) → AreRead (advanced s c) g'
advanced_read c g g' zero r w = record { first = ap (λ n. n + 1) r.first ∙ sym (w 0); second = r.second ∙ sym (w 1); third = r.third ∙ sym (w 2); fourth = r.fourth ∙ sym (w 3) }
advanced_read c g g' (suc zero) r w = record { first = r.first ∙ sym (w 0); second = ap (λ n. n + 1) r.second ∙ sym (w 1); third = r.third ∙ sym (w 2); fourth = r.fourth ∙ sym (w 3) }
advanced_read c g g' (suc (suc zero)) r w = record { first = r.first ∙ sym (w 0); second = r.second ∙ sym (w 1); third = ap (λ n. n + 1) r.third ∙ sym (w 2); fourth = r.fourth ∙ sym (w 3) }
advanced_read c g g' (suc (suc (suc zero))) r w = record { first = r.first ∙ sym (w 0); second = r.second ∙ sym (w 1); third = r.third ∙ sym (w 2); fourth = ap (λ n. n + 1) r.fourth ∙ sym (w 3) }
advanced_read c g g' (suc (suc (suc (suc n)))) r w =
    subst (λ i. AreRead i g') (sym (none_advances c n)) (record {
      first = r.first ∙ sym (w 0 ∙ ap (λ b. more_if b (consumed g 0)) (past_four n 0 (omega arith)));
      second = r.second ∙ sym (w 1 ∙ ap (λ b. more_if b (consumed g 1)) (past_four n 1 (omega arith)));
      third = r.third ∙ sym (w 2 ∙ ap (λ b. more_if b (consumed g 2)) (past_four n 2 (omega arith)));
      fourth = r.fourth ∙ sym (w 3 ∙ ap (λ b. more_if b (consumed g 3)) (past_four n 3 (omega arith)));
    })

-- a line that consumes no frame leaves them
pub read_same : (c : Cursors) (g g' : History) → AreRead c g → ((s : ℕ) → consumed g' s ≡ consumed g s) → AreRead c g'
read_same c g g' r same = record { first = r.first ∙ sym (same 0); second = r.second ∙ sym (same 1); third = r.third ∙ sym (same 2); fourth = r.fourth ∙ sym (same 3) }
