-- Sizes and places of frames that several classes' laws share.
use Rattle.std.proofs.Common.{◌≡◌, ℕ, suc, ◌+◌, ◌≤◌, Bool, true, false, if◌then◌else◌, List, [], ◌∷◌, ◌++◌, length, take, drop, map, flat_map, refl, sym, ap, ◌∙◌, IsTrue, subst, arith, append-nil, append_assoc, length-append, take_at, drop_at}
use Rattle.un_frame.specs.Bytes.{Place, slice_at}
use Rattle.un_frame.specs.Places.{spaced_places}
use Rattle.un_frame.specs.Wire.{InTurn}

-- what a frame may take in a transfer
abbrev pub weight : List ℕ → ℕ
weight frame = length frame + 192

-- one frame more that fits behind the others
pub turn_last : (fits : List ℕ → ℕ → Bool) (before sizes : List ℕ) (size : ℕ) → InTurn fits before sizes → IsTrue (fits (before ++ sizes) size) → InTurn fits before (sizes ++ size ∷ [])
turn_last fits before [] size f t = (subst (λ (ns : List ℕ). IsTrue (fits ns size)) (append-nil before) t, tt)
turn_last fits before (x ∷ xs) size f t = (f.0, turn_last fits (before ++ x ∷ []) xs size f.1 (subst (λ (ns : List ℕ). IsTrue (fits ns size)) (sym (append_assoc before (x ∷ []) xs)) t))

-- the last of frames that fit in turn fits after the others
last_fits : (fits : List ℕ → ℕ → Bool) (before sizes : List ℕ) (size : ℕ) → InTurn fits before (sizes ++ size ∷ []) → IsTrue (fits (before ++ sizes) size)
last_fits fits before [] size h = rw (append-nil before) h.0
last_fits fits before (s ∷ rest) size h = rw (← (append_assoc before (s ∷ []) rest)) (last_fits fits (before ++ s ∷ []) rest size h.1)

-- a list with an element has a last one
split_last : (x : ℕ) (xs : List ℕ) → (front : List ℕ) × (last : ℕ) × (x ∷ xs ≡ front ++ last ∷ [])
split_last x [] = ([], x, refl)
split_last x (y ∷ ys) = let s = split_last y ys in (x ∷ s.0, s.1, ap (λ (zs : List ℕ). x ∷ zs) s.2)

-- frames that fit in turn fit together
pub fit_together : (fits : List ℕ → ℕ → Bool) (sizes : List ℕ) → 1 ≤ length sizes → InTurn fits [] sizes → (front : List ℕ) × (last : ℕ) × (sizes ≡ front ++ last ∷ []) × IsTrue (fits front last)
fit_together fits [] some h = absurd (omega (arith, some))
fit_together fits (x ∷ xs) some h =
    let s = split_last x xs in
    (s.0, s.1, s.2, last_fits fits [] s.0 s.1 (subst (λ (zs : List ℕ). InTurn fits [] zs) s.2 h))

-- places with one more before them, or none at all
pub one_more : (b : Bool) (place : Place) (rest : List Place) (n : ℕ) → length rest ≤ n → length ((if b then place ∷ [] else []) ++ rest) ≤ suc n
one_more true place rest n few = omega (arith, few)
one_more false place rest n few = omega (arith, few)

pub none_or : (b : Bool) (rest : List Place) (n : ℕ) → length rest ≤ n → length (if b then [] else rest) ≤ n
none_or true rest n few = omega arith
none_or false rest n few = few

-- frames that are put one after the other with something before and after each stand at the spaced places, whatever follows
pub slices-between : (before after : ℕ) (head : List ℕ → List ℕ) (tail : List ℕ) → ((x : List ℕ) → length (head x) ≡ before) → length tail ≡ after → (frames : List (List ℕ)) (front back : List ℕ) → map (slice_at (front ++ (flat_map (λ x. (head x ++ x) ++ tail) frames ++ back))) (spaced_places before after (length front) (map length frames)) ≡ frames
slices-between before after head tail heads tails [] front back = refl
slices-between before after head tail heads tails (x ∷ xs) front back =
    let piece = (head x ++ x) ++ tail in
    let rest = flat_map (λ y. (head y ++ y) ++ tail) xs in
    let block = front ++ ((piece ++ rest) ++ back) in
    let parted : block ≡ (front ++ head x) ++ (x ++ (tail ++ (rest ++ back))) = simp append_assoc in
    let at : length (front ++ head x) ≡ length front + before = length-append front (head x) ∙ ap (λ (n : ℕ). length front + n) (heads x) in
    let first : take (length x) (drop (length front + before) block) ≡ x = ap (λ (ys : List ℕ). take (length x) (drop (length front + before) ys)) parted ∙ ap (take (length x)) (drop_at (front ++ head x) (x ++ (tail ++ (rest ++ back))) (length front + before) at) ∙ take_at x (tail ++ (rest ++ back)) (length x) refl in
    let regrouped : block ≡ (front ++ piece) ++ (rest ++ back) = simp append_assoc in
    let long : length front + before + length x + after ≡ length (front ++ piece) = sym (simp length-append (let h = heads x in omega (arith, h, tails))) in
    let ih = slices-between before after head tail heads tails xs (front ++ piece) back in
    rw first (ap (λ (fs : List (List ℕ)). x ∷ fs) (ap (λ (ys : List ℕ). map (slice_at ys) (spaced_places before after (length front + before + length x + after) (map length xs))) regrouped ∙ ap (λ (n : ℕ). map (slice_at ((front ++ piece) ++ (rest ++ back))) (spaced_places before after n (map length xs))) long ∙ ih))

pub slices-spaced : (before after : ℕ) (head : List ℕ → List ℕ) (tail : List ℕ) → ((x : List ℕ) → length (head x) ≡ before) → length tail ≡ after → (frames : List (List ℕ)) → map (slice_at (flat_map (λ x. (head x ++ x) ++ tail) frames)) (spaced_places before after 0 (map length frames)) ≡ frames
slices-spaced before after head tail heads tails frames =
    let whole = flat_map (λ x. (head x ++ x) ++ tail) frames in
    ap (λ (ys : List ℕ). map (slice_at ys) (spaced_places before after 0 (map length frames))) (sym (append-nil whole)) ∙ slices-between before after head tail heads tails frames [] []
