-- The span that one more frame closes: where it begins and ends, and which frames stand in it.
use Rattle.std.proofs.Common.{◌≡◌, ℕ, ◌+◌, ◌-◌, ◌<◌, ◌≤◌, ◌⊎◌, inl, inr, Bool, true, false, not, ◌&&◌, nat_lt, List, [], ◌∷◌, length, take, Option, Some, None, refl, sym, ap, ◌∙◌, subst, arith, if◌then◌else◌}
use Rattle.std.proofs.Math.Seq.{take-append_seam}
use Rattle.std.proofs.lemmas.Bool.{false≢true, ltb-true}
use Rattle.std.proofs.lemmas.List.{length_push}
use Rattle.std.proofs.lemmas.Option.{same_Some}
use Rattle.un_frame.specs.Cut.{ends_at_limit}
use Rattle.un_frame.specs.Lanes.{packs, frames_fit}
use Rattle.un_journal.specs.Script.{Frame}
use Rattle.un_journal.proofs.ForReader.{take_whole}
use Rattle.un_check.specs.Building.{Building, end}
use Rattle.un_check.specs.BuildingLines.{IsSpan, took, closes, with_frame}

-- it begins with the first built frame, and ends before the new one or behind it
pub record Closed (b : Building) (span : ℕ × ℕ) : Type 0 where
  pub begins : span.0 ≡ b.cover
  pub is_some : span.0 < span.1
  pub last : (span.1 ≡ end b) ⊎ (span.1 ≡ end b + 1)

module _ (frame : Frame) (b : Building) (span : ℕ × ℕ) where
  this : (s : ℕ × ℕ) → ◌≡◌ {A = Option (ℕ × ℕ)} (Some s) (Some span) → Closed b s → Closed b span
  this s e c = subst (Closed b) (same_Some s span e) c

  by_tests : (packed less fit full : Bool) → (packed ≡ false → b.cover ≡ end b) → nat_lt b.cover (end b) ≡ less
      → (if not packed then Some (end b, end b + 1) else (if less && not fit then Some (b.cover, end b) else (if full then Some (b.cover, end b + 1) else None))) ≡ Some span → Closed b span
  by_tests false less fit full alone l e = this (end b, end b + 1) e (record { begins = sym (alone refl); is_some = omega arith; last = inr refl })
  by_tests true true false full alone l e = this (b.cover, end b) e (record { begins = refl; is_some = ltb-true b.cover (end b) l; last = inl refl })
  by_tests true true true true alone l e = this (b.cover, end b + 1) e (record { begins = refl; is_some = omega arith; last = inr refl })
  by_tests true false fit true alone l e = this (b.cover, end b + 1) e (record { begins = refl; is_some = omega arith; last = inr refl })
  by_tests true true true false alone l e = absurd (cc)
  by_tests true false fit false alone l e = absurd (cc)

  pub closed_at : (packs b.params.class b.lane ≡ false → b.cover ≡ end b) → closes frame b ≡ Some span → Closed b span
  closed_at alone e = by_tests (packs b.params.class b.lane) (nat_lt b.cover (end b)) (frames_fit b.params (with_frame frame b)) (ends_at_limit b.lane b.params (end b + 1 - b.cover)) alone refl e

-- so its line may follow
accepted_by : (b : Building) (frame : Frame) (to : ℕ) → (to ≡ end b) ⊎ (to ≡ end b + 1) → (to ≤ end (took frame b)) × (end (took frame b) ≤ to + 1)
accepted_by b frame to (inl e) = let n = length_push b.frames frame in (omega (arith, n), omega (arith, n))
accepted_by b frame to (inr e) = let n = length_push b.frames frame in (omega (arith, n), omega (arith, n))

pub closes_span : (frame : Frame) (b : Building) (span : ℕ × ℕ) → (packs b.params.class b.lane ≡ false → b.cover ≡ end b) → closes frame b ≡ Some span → IsSpan span.0 span.1 (took frame b)
closes_span frame b span alone e =
    let c : Closed b span = closed_at frame b span alone e in
    let by = accepted_by b frame span.1 c.last in
    record { begins = c.begins; is_some = c.is_some; is_accepted = by.0; leaves = λ o. by.1 }

-- WHAT IS MADE

-- where only lanes that pack have frames
none_built : (frames : List Frame) (cover : ℕ) (packed : Bool) → (0 < length frames → packed ≡ true) → packed ≡ false → cover ≡ cover + length frames
none_built [] cover packed only e = omega arith
none_built (x ∷ frames) cover packed only e = absurd (false≢true (sym e ∙ only (omega arith)))

pub closed_some : (frame : Frame) (b : Building) (span : ℕ × ℕ) → (0 < length b.frames → packs b.params.class b.lane ≡ true) → closes frame b ≡ Some span → Closed b span
closed_some frame b span only e = closed_at frame b span (none_built b.frames b.cover (packs b.params.class b.lane) only) e

-- the frames before the new one, or all
pub made_before : (frame : Frame) (b : Building) (span : ℕ × ℕ) → Closed b span → span.1 ≡ end b → take (span.1 - span.0) (with_frame frame b) ≡ b.frames
made_before frame b span c e =
    let first : span.0 ≡ b.cover = c.begins in let count : span.1 - span.0 ≡ length b.frames = omega arith in
    ap (λ n. take n (with_frame frame b)) count ∙ take-append_seam b.frames (frame ∷ [])

pub made_whole : (frame : Frame) (b : Building) (span : ℕ × ℕ) → Closed b span → (span.1 ≡ end b → ⊥) → take (span.1 - span.0) (with_frame frame b) ≡ with_frame frame b
made_whole frame b span c apart = take_whole (span.1 - span.0) (with_frame frame b) (count c.last)
  where
    count : (span.1 ≡ end b) ⊎ (span.1 ≡ end b + 1) → span.1 - span.0 ≡ length (with_frame frame b)
    count (inl e) = absurd (apart e)
    count (inr e) = let first : span.0 ≡ b.cover = c.begins in let n = length_push b.frames frame in omega (arith, n)
