-- An array of spans, filled place by place.
use Rattle.std.proofs.Common.{◌≡◌, ℕ, zero, suc, ◌+◌, ◌<◌, ◌≤◌, List, [], ◌∷◌, length, set, refl, sym, ap, ◌∙◌, subst, arith}
use Rattle.un_frame.specs.declared.params.Class.{Class}
use Rattle.un_frame.specs.declared.span.Span.{Span}
use Rattle.un_frame.specs.Bytes.{AreBytes, Place}
use Rattle.un_frame.specs.Parts.{places_as}
use Rattle.un_frame.specs.Spans.{place_of}
use Rattle.un_frame.specs.Wire.{Reads, ReadsAt}
use Rattle.un_frame.proofs.AllLaws.{laws_of}
use Rattle.un_wire.specs.Spans.{filled, put_at}

-- the places from an element on
abbrev pub filled_from : ℕ → List Place → List Span → List Span
filled_from zero places spans = filled places spans
filled_from (suc index) places [] = []
filled_from (suc index) places (span ∷ spans) = span ∷ filled_from index places spans

pub filled_none : (index : ℕ) (spans : List Span) → filled_from index [] spans ≡ spans
filled_none zero spans = refl
filled_none (suc index) [] = refl
filled_none (suc index) (span ∷ spans) = ap (λ (rest : List Span). span ∷ rest) (filled_none index spans)

filled_step : (index : ℕ) (span : Span) (rest : List Place) (spans : List Span) → filled_from (suc index) rest (put_at index span spans) ≡ filled_from index (place_of span ∷ rest) spans
filled_step zero span rest [] = refl
filled_step zero span rest (x ∷ xs) = refl
filled_step (suc index) span rest [] = refl
filled_step (suc index) span rest (x ∷ xs) = ap (λ (ys : List Span). x ∷ ys) (filled_step index span rest xs)

pub filled_on : (index next : ℕ) (span : Span) (places rest : List Place) (spans : List Span) → next ≡ index + 1 → places ≡ place_of span ∷ rest → filled_from next rest (put_at index span spans) ≡ filled_from index places spans
filled_on index next span places rest spans more here =
    let one : next ≡ suc index = more ∙ omega arith in
    ap (λ (n : ℕ). filled_from n rest (put_at index span spans)) one ∙ filled_step index span rest spans ∙ ap (λ (ps : List Place). filled_from index ps spans) (sym here)

pub put_inside : (index : ℕ) (span : Span) (spans : List Span) → index < length spans → set spans index span ≡ put_at index span spans
put_inside index span [] inside = absurd (omega arith)
put_inside zero span (x ∷ xs) inside = refl
put_inside (suc index) span (x ∷ xs) inside = ap (λ (ys : List Span). x ∷ ys) (put_inside index span xs (omega arith))

pub put_outside : (index : ℕ) (span : Span) (spans : List Span) → length spans ≤ index → spans ≡ put_at index span spans
put_outside index span [] outside = refl
put_outside zero span (x ∷ xs) outside = absurd (omega arith)
put_outside (suc index) span (x ∷ xs) outside = ap (λ (ys : List Span). x ∷ ys) (put_outside index span xs (omega arith))

-- the grammar's places
pub reads_there : (class : Class) (bytes : List ℕ) (frames : List (List ℕ)) (commands : ℕ) → Reads class bytes frames commands → ReadsAt class bytes (places_as class bytes) commands
reads_there class bytes frames commands r =
    subst (λ (places : List Place). ReadsAt class bytes places commands) (sym ((laws_of class).parts bytes r.places commands r.found)) r.found

-- a number of 64 bits counts them
pub places_few : (class : Class) (bytes : List ℕ) → AreBytes bytes → length bytes < 18446744073709551616 → length (places_as class bytes) < 18446744073709551616
places_few class bytes small size =
    let few = (laws_of class).few bytes small in
    let below = (laws_of class).countable (length bytes) size in
    omega (arith, few, below)
