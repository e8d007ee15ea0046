-- Lines on top of older ones, the newest first, and the lines of one lane among them.
use Rattle.std.proofs.Common.{◌≡◌, Bool, true, false, [], ◌∷◌, ◌++◌, refl, sym, ap, ◌∙◌, if◌then◌else◌, filter, reverse, append_assoc, append-nil}
use Rattle.std.proofs.lemmas.List.{reverse-append}
use Rattle.un_frame.specs.declared.params.Lane.{Lane}
use Rattle.un_frame.specs.Lanes.{same_lane}
use Rattle.un_journal.specs.History.{Entry, History, past, concerns}
use Rattle.un_journal.specs.Sound.{IsSound}
use Rattle.std.proofs.lemmas.Bool.{false≢true}
use Rattle.un_frame.proofs.LaneLemmas.{same_lane-refl}

abbrev pub onto : History → History → History
onto [] g = g
onto (e ∷ es) g = onto es (e ∷ g)

pub onto_append : (xs ys g : History) → onto (xs ++ ys) g ≡ onto ys (onto xs g)
onto_append [] ys g = refl
onto_append (x ∷ xs) ys g = onto_append xs ys (x ∷ g)

pub newest : (h : History) (e : Entry) → reverse (h ++ e ∷ []) ≡ e ∷ reverse h
newest h e = rw reverse-append refl

pub reverse_onto : (lines h : History) → reverse (h ++ lines) ≡ onto lines (reverse h)
reverse_onto [] h = rw append-nil refl
reverse_onto (e ∷ es) h =
    ap reverse (sym (append_assoc h (e ∷ []) es)) ∙ reverse_onto es (h ++ e ∷ []) ∙ ap (onto es) (newest h e)

pub filter_onto : (p : Entry → Bool) (lines older : History) → filter p (onto lines older) ≡ onto (filter p lines) (filter p older)
filter_onto p [] older = refl
filter_onto p (e ∷ es) older = filter_onto p es (e ∷ older) ∙ go (p e)
  where
    go : (b : Bool) → onto (filter p es) (if b then (e ∷ filter p older) else filter p older) ≡ onto (if b then (e ∷ filter p es) else filter p es) (filter p older)
    go true = refl
    go false = refl

pub past_onto : (lane : Lane) (h lines : History) → past lane (h ++ lines) ≡ onto (filter (concerns lane) lines) (past lane h)
past_onto lane h lines = ap (filter (concerns lane)) (reverse_onto lines h) ∙ filter_onto (concerns lane) lines (reverse h)

split_more : (b : Bool) (x : Entry) (zs xs ys : History) → zs ≡ xs ++ ys → (if b then (x ∷ zs) else zs) ≡ (if b then (x ∷ xs) else xs) ++ ys
split_more true x zs xs ys e = ap (λ i. x ∷ i) e
split_more false x zs xs ys e = e

pub filter_append : (p : Entry → Bool) (xs ys : History) → filter p (xs ++ ys) ≡ filter p xs ++ filter p ys
filter_append p [] ys = refl
filter_append p (x ∷ xs) ys = split_more (p x) x _ (filter p xs) (filter p ys) (filter_append p xs ys)

-- lines of one lane
abbrev pub AllOf : Lane → History → Type 0
AllOf lane [] = Unit {0}
AllOf lane (e ∷ es) = ((l : Lane) → concerns l e ≡ same_lane l lane) × AllOf lane es

pub filter_of : (lane l : Lane) (lines : History) → AllOf lane lines → filter (concerns l) lines ≡ (if same_lane l lane then lines else [])
filter_of lane l [] a = go (same_lane l lane)
  where
    none : History
    none = []

    go : (b : Bool) → none ≡ (if b then none else none)
    go true = refl
    go false = refl
filter_of lane l (e ∷ es) a = rw (a.0 l, filter_of lane l es a.1) (go (same_lane l lane))
  where
    go : (b : Bool) → (if b then (e ∷ (if b then es else [])) else (if b then es else [])) ≡ (if b then (e ∷ es) else [])
    go true = refl
    go false = refl

-- what lies below sound lines is sound
pub sound_under : (b : Bool) (e : Entry) (g : History) → IsSound (if b then (e ∷ g) else g) → IsSound g
sound_under true e g s = s.1
sound_under false e g s = s

pub sound_below : (lines g : History) → IsSound (onto lines g) → IsSound g
sound_below [] g s = s
sound_below (e ∷ lines) g s = (sound_below lines (e ∷ g) s).1

pub past_more : (lane : Lane) (h : History) (e : Entry) → past lane (h ++ e ∷ []) ≡ (if concerns lane e then (e ∷ past lane h) else past lane h)
past_more lane h e = rw reverse-append refl

pub past_own : (lane : Lane) (h lines : History) → AllOf lane lines → past lane (h ++ lines) ≡ onto lines (past lane h)
past_own lane h lines a = past_onto lane h lines ∙ ap (λ xs. onto xs (past lane h)) (filter_of lane lane lines a ∙ go (same_lane lane lane) (same_lane-refl lane))
  where
    go : (b : Bool) → b ≡ true → (if b then lines else []) ≡ lines
    go true e = refl
    go false e = absurd (false≢true e)

pub past_other : (lane l : Lane) (h lines : History) → AllOf lane lines → same_lane l lane ≡ false → past l (h ++ lines) ≡ past l h
past_other lane l h lines a apart = past_onto l h lines ∙ ap (λ xs. onto xs (past l h)) (filter_of lane l lines a ∙ go (same_lane l lane) apart)
  where
    go : (b : Bool) → b ≡ false → (if b then lines else []) ≡ []
    go true e = absurd (false≢true (sym e))
    go false e = refl
