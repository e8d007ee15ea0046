-- The laws of ECM.
use Rattle.std.proofs.Common.{◌≡◌, ℕ, ◌+◌, ◌≤◌, List, [], ◌∷◌, ◌++◌, length, map, flat_map, refl, sym, ap, ◌∙◌, subst, arith, append-nil, length-append, take_all}
use Rattle.std.proofs.lemmas.Bool.{false≢true}
use Rattle.std.proofs.lemmas.Bool.Decides.{nat_tests}
use Rattle.std.proofs.lemmas.List.Sums.{sum_by-cons}
use Rattle.std.specs.List.{concat, sum_by}
use Rattle.un_frame.specs.declared.params.Params.{Params}
use Rattle.un_frame.specs.Bytes.{Place, slice_at}
use Rattle.un_frame.specs.Classes.{ecm, fits_alone}
use Rattle.un_frame.specs.Places.{spaced_places}
use Rattle.un_frame.specs.Wire.{InTurn}
use Rattle.un_frame.proofs.ClassLaws.{AreLong, AreParts, ClassLaws, IsReadBack}
use Rattle.un_frame.proofs.FrameSizes.{slices-spaced, weight}

concat-short : (frames : List (List ℕ)) → length (concat frames) ≤ sum_by weight frames
concat-short [] = omega arith
concat-short (x ∷ xs) =
    let ih = concat-short xs in
    let sum : sum_by weight (x ∷ xs) ≡ length x + 192 + sum_by weight xs = sum_by-cons weight x xs in
    let long = length-append x (concat xs) in
    omega (arith, ih, sum, long)

concat-spaced : (frames : List (List ℕ)) → concat frames ≡ flat_map (λ x. ([] ++ x) ++ []) frames
concat-spaced [] = refl
concat-spaced (x ∷ xs) = rw (append-nil x, concat-spaced xs) refl

-- a frame is read as itself
frame_read : (frame : List ℕ) (most : ℕ) → 14 ≤ length frame → length frame ≤ most → IsReadBack ecm (concat (frame ∷ [])) (frame ∷ []) most
frame_read frame most least within = rw (append-nil frame) (record {
  places = record { at = 0; size = length frame } ∷ [];
  found = (record { whole = refl; least = least }, refl);
  sliced = ap (λ (x : List ℕ). x ∷ []) (sym (take_all (length frame) frame (omega arith)));
  within = within;
})

-- where one frame fits a transfer, frames that fit one after the other are one
pub one_alone : (p : Params) (frames : List (List ℕ)) → 1 ≤ length frames → InTurn (fits_alone p) [] (map length frames) → (frame : List ℕ) × (frames ≡ frame ∷ []) × (length frame ≤ p.segment)
one_alone p [] some h = absurd (omega (arith, some))
one_alone p (x ∷ []) some h = (x, refl, grind (arith, nat_tests, h.0))
one_alone p (x ∷ y ∷ rest) some h = absurd (false≢true h.1.0)

frames_read : (p : Params) (frames : List (List ℕ)) → 1 ≤ length frames → AreLong frames → InTurn (ecm.fits p) [] (map length frames) → IsReadBack ecm (concat frames) frames p.segment
frames_read p frames some long fits =
    let one = one_alone p frames some fits in
    subst (λ (fs : List (List ℕ)). IsReadBack ecm (concat fs) fs p.segment) (sym one.1) (frame_read one.0 p.segment (subst AreLong one.1 long).0 one.2)

pub ecm_laws : ClassLaws ecm
ecm_laws = record {
  exact = λ bytes small. (λ h. (record { at = 0; size = length bytes } ∷ [], 0, (record { whole = refl; least = grind (arith, nat_tests) }, refl)), λ r. let least = r.2.0.least in grind (arith, nat_tests, least));
  one = λ bytes ps qs m n p q. (p.0.whole ∙ sym q.0.whole, p.1 ∙ sym q.1);
  parts = λ bytes places commands r. sym r.0.whole;
  inside = λ bytes places commands r. subst (λ (ps : List Place). AreParts (length bytes) ps) (sym r.0.whole) (record { least = r.0.least; inside = omega arith }, tt);
  few = λ bytes small. omega arith;
  countable = λ size below. omega arith;
  read = λ p serial frames block segment some long fits. frames_read p frames some long fits;
  short = λ p serial frames range some. concat-short frames;
  some = λ p serial frame rest long. let whole = length-append frame (concat rest) in omega (arith, whole, long);
  found = λ p frames. ap (λ (xs : List ℕ). map (slice_at xs) (spaced_places 0 0 0 (map length frames))) (concat-spaced frames) ∙ slices-spaced 0 0 (λ x. []) [] (λ x. refl) refl frames;
  segment = λ p size some agree low. grind (arith, nat_tests);
  within = λ p size t. grind (arith, nat_tests);
  together = λ lane p sizes size packed alone. absurd (false≢true packed);
}
