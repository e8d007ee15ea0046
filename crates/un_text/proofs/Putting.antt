-- Texts that are put one after another.
use Rattle.std.proofs.Common.{zero, suc, ◌+◌, ◌∷◌, Some, slice_get, take, length, add-one, Result, Ok, Err, is_err, ℕ, ◌≤◌, ◌≡◌, Bool, true, false, List, [], ◌++◌, Option, refl, sym, ap, subst, ◌∙◌, append_assoc, append-nil, arith}
use Rattle.std.specs.Io.KnownBytes.{Appends}
use Rattle.un_io.specs.Io.{Rose, Stopped}
use Rattle.un_io.proofs.Known.{Appends-none, Appends-then, Stopped-then, Stopped-more}
use Rattle.un_text.specs.declared.page.Page.{Page}
use Rattle.un_io.specs.declared.whole.WriteFault.{WriteFault}
use Rattle.std.specs.Prelude.{OnOk, OnErr}
use Rattle.std.specs.List.{flat_map}
use Rattle.std.proofs.lemmas.List.{take_all}
use Rattle.un_text.specs.Puts.{Went, Became, Puts, blank}

went_then : (g h i : Option (List ℕ)) (p q r x y : List ℕ) → Went g p h q x → Went h q i r y → Went g p i r (x ++ y)
went_then g h i p q r x y u v = (
  u.0 ++ v.0,
  Appends-then g h i u.0 v.0 u.1 v.1,
  sym (append_assoc p x y) ∙ ap (λ t. t ++ y) u.2 ∙ append_assoc u.0 q y ∙ ap (λ t. u.0 ++ t) v.2 ∙ sym (append_assoc u.0 v.0 r),
)

went_stopped : (g h i : Option (List ℕ)) (p q x y : List ℕ) → Went g p h q x → Stopped h i (q ++ y) → Stopped g i (p ++ (x ++ y))
went_stopped g h i p q x y u s =
    let whole : u.0 ++ (q ++ y) ≡ p ++ (x ++ y) = sym (append_assoc u.0 q y) ∙ ap (λ t. t ++ y) (sym u.2) ∙ append_assoc p x y in
    let P : List ℕ → Type 0 = λ t. Stopped g i t in
    subst P whole (Stopped-then g h i u.0 (q ++ y) u.1 s)

stopped_longer : (g h : Option (List ℕ)) (p x y : List ℕ) → Stopped g h (p ++ x) → Stopped g h (p ++ (x ++ y))
stopped_longer g h p x y s =
    let P : List ℕ → Type 0 = λ t. Stopped g h t in
    subst P (append_assoc p x y) (Stopped-more g h (p ++ x) y s)

rose_before : (a b c : ℕ) → a ≤ b → Rose b c → Rose a c
rose_before a b c first rose small = let more = rose small in omega (arith, first, more)

rose_after : (a b c : ℕ) → Rose a b → b ≤ c → Rose a c
rose_after a b c rose last small = let more = rose (omega (arith, last, small)) in omega (arith, more, last)

became_then : (f g h : Bool) (i j k : Option (List ℕ)) (a b c : ℕ) (p q r x y : List ℕ) → a ≤ b → b ≤ c
    → Became f g i a p j b q x → Became g h j b q k c r y → Became f h i a p k c r (x ++ y)
became_then false false false i j k a b c p q r x y first last u v = went_then i j k p q r x y u v
became_then false false true i j k a b c p q r x y first last u v = (went_stopped i j k p q x y u v.0, rose_before a b c first v.1)
became_then false true true i j k a b c p q r x y first last u v =
    let P : Option (List ℕ) → Type 0 = λ t. Stopped i t (p ++ (x ++ y)) in
    (subst P (sym v) (stopped_longer i j p x y u.0), rose_after a b c u.1 last)
became_then false true false i j k a b c p q r x y first last u v = absurd v
became_then true true true i j k a b c p q r x y first last u v = v ∙ u
became_then true true false i j k a b c p q r x y first last u v = absurd v
became_then true false h i j k a b c p q r x y first last u v = absurd u

pub puts_then : (i j k : Option (List ℕ)) (a b c : ℕ) (p q r : Page) (x y : List ℕ)
    → Puts i a p j b q x → Puts j b q k c r y → Puts i a p k c r (x ++ y)
puts_then i j k a b c p q r x y u v = record {
  never_falls = let m = u.never_falls in let n = v.never_falls in omega (arith, m, n);
  became = became_then p.failed q.failed r.failed i j k a b c p.pending q.pending r.pending x y u.never_falls v.never_falls u.became v.became;
}

-- three and four texts
pub puts_three : (i j k l : Option (List ℕ)) (a b c d : ℕ) (p q r s : Page) (x y z : List ℕ)
    → Puts i a p j b q x → Puts j b q k c r y → Puts k c r l d s z → Puts i a p l d s (x ++ (y ++ z))
puts_three i j k l a b c d p q r s x y z u v w = puts_then i j l a b d p q s x (y ++ z) u (puts_then j k l b c d q r s y z v w)

-- the same text, said otherwise
pub puts_as : (i j : Option (List ℕ)) (a b : ℕ) (p q : Page) (x y : List ℕ) → y ≡ x → Puts i a p j b q x → Puts i a p j b q y
puts_as i j a b p q x y e u = let P : List ℕ → Type 0 = λ t. Puts i a p j b q t in subst P (sym e) u

-- with nothing behind it
pub puts_end : (i j k : Option (List ℕ)) (a b c : ℕ) (p q r : Page) (x : List ℕ) → Puts i a p j b q x → Puts j b q k c r [] → Puts i a p k c r x
puts_end i j k a b c p q r x u v = puts_as i k a c p r (x ++ []) x (sym (append-nil x)) (puts_then i j k a b c p q r x [] u v)

became_none : (f : Bool) (i : Option (List ℕ)) (a : ℕ) (p : List ℕ) → Became f f i a p i a p []
became_none false i a p = ([], Appends-none i, append-nil p)
became_none true i a p = refl

pub puts_none : (i : Option (List ℕ)) (a : ℕ) (p : Page) → Puts i a p i a p []
puts_none i a p = record { never_falls = omega arith; became = became_none p.failed i a p.pending }

became_pending : (f g : Bool) (i j : Option (List ℕ)) (a b : ℕ) (p q r x : List ℕ) → r ≡ q ++ x → Became f g i a p j b q [] → Became f g i a p j b r x
became_pending false false i j a b p q r x e u = (u.0, u.1, ap (λ t. t ++ x) (sym (append-nil p) ∙ u.2) ∙ append_assoc u.0 q x ∙ ap (λ t. u.0 ++ t) (sym e))
became_pending false true i j a b p q r x e u = (stopped_longer i j p [] x u.0, u.1)
became_pending true true i j a b p q r x e u = u
became_pending true false i j a b p q r x e u = absurd u

-- what is added to what is pending once there is room
pub puts_pending : (i j : Option (List ℕ)) (a b : ℕ) (p q r : Page) (x : List ℕ) → r.failed ≡ q.failed → r.pending ≡ q.pending ++ x
    → Puts i a p j b q [] → Puts i a p j b r x
puts_pending i j a b p q r x same e u = record {
  never_falls = u.never_falls;
  became = rw same (became_pending p.failed q.failed i j a b p.pending q.pending r.pending x e u.became);
}

-- LINE AFTER LINE

more_lines : {X : Type 0} (f : X → List ℕ) (xs : List X) (i : ℕ) (x : X) → slice_get xs i ≡ Some x → flat_map f (take (suc i) xs) ≡ flat_map f (take i xs) ++ f x
more_lines f [] i x h = absurd (cc)
more_lines f (y ∷ xs) zero x h = let same : y ≡ x = cc in ap (λ t. f t ++ []) same ∙ append-nil (f x)
more_lines f (y ∷ xs) (suc i) x h = ap (λ t. f y ++ t) (more_lines f xs i x h) ∙ sym (append_assoc (f y) (flat_map f (take i xs)) (f x))

pub puts_line : {X : Type 0} (f : X → List ℕ) (xs : List X) (n : ℕ) (x : X) (i j k : Option (List ℕ)) (a b c : ℕ) (p q r : Page) → slice_get xs n ≡ Some x
    → Puts i a p j b q (flat_map f (take n xs)) → Puts j b q k c r (f x) → Puts i a p k c r (flat_map f (take (n + 1) xs))
puts_line f xs n x i j k a b c p q r got u v = rw add-one (puts_as i k a c p r _ _ (more_lines f xs n x got) (puts_then i j k a b c p q r _ _ u v))

pub puts_lines : {X : Type 0} (f : X → List ℕ) (xs : List X) (n : ℕ) (i j : Option (List ℕ)) (a b : ℕ) (p q : Page) → length xs ≤ n → Puts i a p j b q (flat_map f (take n xs)) → Puts i a p j b q (flat_map f xs)
puts_lines {X} f xs n i j a b p q all u =
    let P : List X → Type 0 = λ ys. Puts i a p j b q (flat_map f ys) in
    subst P (take_all n xs all) u

-- THE WHOLE TEXT, from a blank page to one on which nothing is pending, and the answer for it

all_written : (i j : Option (List ℕ)) (a b : ℕ) (q : Page) (text : List ℕ) → q.pending ≡ [] → q.failed ≡ false → Puts i a blank j b q text → Appends i j text
all_written i j a b q text done holds u =
    let k : Became false false i a [] j b [] text = rw (done, holds) at u.became in
    let P : List ℕ → Type 0 = λ t. Appends i j t in
    subst P (sym (k.2 ∙ append-nil k.0)) k.1

all_stopped : (i j : Option (List ℕ)) (a b : ℕ) (q : Page) (text : List ℕ) → q.failed ≡ true → Puts i a blank j b q text → Stopped i j text × Rose a b
all_stopped i j a b q text fails u = let k : Became false true i a [] j b q.pending text = rw fails at u.became in k

pub whole_written : (r : Result (Unit {0}) WriteFault) (i j : Option (List ℕ)) (a b : ℕ) (q : Page) (text : List ℕ) → q.pending ≡ [] → is_err r ≡ q.failed → Puts i a blank j b q text → OnOk r (Appends i j text)
whole_written (Ok x) i j a b q text done e u = all_written i j a b q text done (sym e) u
whole_written (Err w) i j a b q text done e u = tt

pub whole_stopped : (r : Result (Unit {0}) WriteFault) (i j : Option (List ℕ)) (a b : ℕ) (q : Page) (text : List ℕ) → is_err r ≡ q.failed → Puts i a blank j b q text → OnErr r (Stopped i j text)
whole_stopped (Ok x) i j a b q text e u = tt
whole_stopped (Err w) i j a b q text e u = (all_stopped i j a b q text (sym e) u).0

pub whole_cause : (r : Result (Unit {0}) WriteFault) (i j : Option (List ℕ)) (a b : ℕ) (q : Page) (text : List ℕ) → is_err r ≡ q.failed → Puts i a blank j b q text → OnErr r (Rose a b)
whole_cause (Ok x) i j a b q text e u = tt
whole_cause (Err w) i j a b q text e u = (all_stopped i j a b q text (sym e) u).1
