-- The walk over descriptors, one step after the other.
use Rattle.std.proofs.Common.{◌≡◌, ℕ, zero, suc, ◌+◌, ◌<◌, ◌≤◌, Bool, true, false, if◌then◌else◌, nat_le, ◌==◌, List, [], ◌∷◌, ◌++◌, length, drop, slice_index, slice_get, Option, Some, None, Result, Ok, Err, refl, sym, ap, ◌∙◌, append_assoc, arith, length-drop}
use Rattle.std.proofs.lemmas.Bool.Decides.{nat_tests}
use Rattle.un_desc.specs.declared.function.DescFault.{DescFault}
use Rattle.un_desc.specs.declared.function.DescFault.TheVariants.{Truncated, BadLength}
use Rattle.un_desc.specs.declared.descriptor.Descriptor.{Descriptor}
use Rattle.un_desc.specs.Walk.{◌>>=◌, needs, CONFIGURATION, INTERFACE, ENDPOINT, FUNCTIONAL, HEADER, UNION, ETHERNET, NCM, least_functional, least_length, descriptor_of, length_at, onto, walk_most, walk_from, descriptors_of, IsWalked, IsWalk}

-- three tests that all passed, and the value behind them
three_tests : (a b c : Bool) (e f g : DescFault) (x size : ℕ) → (needs e a >>= λ _. (needs f b >>= λ _. (needs g c >>= λ _. Ok x))) ≡ Ok size → (a ≡ true) × (b ≡ true) × (c ≡ true) × (x ≡ size)
three_tests true true true e f g x size h = (refl, refl, refl, cc)
three_tests true true false e f g x size h = cc
three_tests true false c e f g x size h = cc
three_tests false b c e f g x size h = cc

-- a chain that gives a value had one to go on with
bind_ok : {X Y : Type 0} (r : Result X DescFault) (f : X → Result Y DescFault) (y : Y) → (r >>= f) ≡ Ok y → (x : X) × (r ≡ Ok x) × (f x ≡ Ok y)
bind_ok (Ok x) f y h = (x, refl, h)
bind_ok (Err e) f y h = cc

if_least : (n x y : ℕ) (b : Bool) → n ≤ x → n ≤ y → n ≤ (if b then x else y)
if_least n x y true h k = h
if_least n x y false h k = k

-- each descriptor has its length and its type
functional_two : (subtype : Option ℕ) → 2 ≤ least_functional subtype
functional_two (Some subtype) =
    let three : 2 ≤ 3 = omega arith in
    let five : 2 ≤ 5 = omega arith in
    let six : 2 ≤ 6 = omega arith in
    let thirteen : 2 ≤ 13 = omega arith in
    if_least _ _ _ (subtype == HEADER) five (if_least _ _ _ (subtype == UNION) five (if_least _ _ _ (subtype == ETHERNET) thirteen (if_least _ _ _ (subtype == NCM) six three)))
functional_two None = omega arith

pub least_two : (bytes : List ℕ) → 2 ≤ least_length bytes
unfolding least_length
least_two bytes =
    let two : 2 ≤ 2 = omega arith in
    let seven : 2 ≤ 7 = omega arith in
    let nine : 2 ≤ 9 = omega arith in
    let of : ℕ → Bool = λ type. slice_index bytes 1 == type in
    if_least _ _ _ (of CONFIGURATION) nine (if_least _ _ _ (of INTERFACE) nine (if_least _ _ _ (of ENDPOINT) seven (if_least _ _ _ (of FUNCTIONAL) (functional_two (slice_get bytes 2)) two)))

-- what a length is
pub record IsLength (bytes : List ℕ) (size : ℕ) : Type 0 where
  pub first : size ≡ slice_index bytes 0
  pub two : 2 ≤ length bytes
  pub least : least_length bytes ≤ size
  pub inside : size ≤ length bytes

pub length_found : (at : ℕ) (bytes : List ℕ) (size : ℕ) → length_at at bytes ≡ Ok size → IsLength bytes size
unfolding length_at
length_found at bytes size h =
    let t = three_tests (nat_le 2 (length bytes)) (nat_le (least_length bytes) (slice_index bytes 0)) (nat_le (slice_index bytes 0) (length bytes)) (Truncated at) (BadLength at) (Truncated at) (slice_index bytes 0) size h in
    let two : nat_le 2 (length bytes) ≡ true = t.0 in
    let least : nat_le (least_length bytes) (slice_index bytes 0) ≡ true = t.1 in
    let inside : nat_le (slice_index bytes 0) (length bytes) ≡ true = t.2 in
    let value : slice_index bytes 0 ≡ size = t.3 in
    record { first = sym value; two = grind (arith, nat_tests); least = grind (arith, nat_tests); inside = grind (arith, nat_tests) }

-- a length doesn't depend on the place
length_moved : (a b : ℕ) (bytes : List ℕ) (size : ℕ) → length_at a bytes ≡ Ok size → length_at b bytes ≡ Ok size
unfolding length_at
length_moved a b bytes size h =
    let t = three_tests (nat_le 2 (length bytes)) (nat_le (least_length bytes) (slice_index bytes 0)) (nat_le (slice_index bytes 0) (length bytes)) (Truncated a) (BadLength a) (Truncated a) (slice_index bytes 0) size h in
    rw (t.0, t.1, t.2) (ap Ok t.3)

nothing : (most at : ℕ) → walk_most most at [] ≡ Ok []
unfolding walk_most
nothing zero at = refl
nothing (suc most) at = refl

-- a walk goes on as it does with another bound
bounded : (d : Descriptor) (at : ℕ) (bytes : List ℕ) (m n : ℕ) (r : Result ℕ DescFault) → length_at at bytes ≡ r
    → ((size : ℕ) → IsLength bytes size → walk_most m (at + size) (drop size bytes) ≡ walk_most n (at + size) (drop size bytes))
    → (r >>= λ size. onto d (walk_most m (at + size) (drop size bytes))) ≡ (r >>= λ size. onto d (walk_most n (at + size) (drop size bytes)))
bounded d at bytes m n (Ok size) h same = ap (onto d) (same size (length_found at bytes size h))
bounded d at bytes m n (Err e) h same = refl

-- any bound of at least as many as there are bytes is as good
enough : (m n at : ℕ) (bytes : List ℕ) → length bytes ≤ m → length bytes ≤ n → walk_most m at bytes ≡ walk_most n at bytes
unfolding walk_most
enough m n at [] h k = nothing m at ∙ sym (nothing n at)
enough zero n at (b ∷ bs) h k = absurd (omega arith)
enough (suc m) zero at (b ∷ bs) h k = absurd (omega arith)
enough (suc m) (suc n) at (b ∷ bs) h k =
    bounded (descriptor_of (b ∷ bs)) at (b ∷ bs) m n (length_at at (b ∷ bs)) refl
    (λ size is. enough m n (at + size) (drop size (b ∷ bs))
    (let two = least_two (b ∷ bs) in omega (arith, length-drop size (b ∷ bs), is.least, is.inside))
    (let two = least_two (b ∷ bs) in omega (arith, length-drop size (b ∷ bs), is.least, is.inside)))

-- ONE STEP

pub walk_end : (at : ℕ) → walk_from at [] ≡ Ok []
unfolding walk_from
walk_end at = nothing 0 at

pub walk_bad : (at : ℕ) (bytes : List ℕ) (e : DescFault) → 0 < length bytes → length_at at bytes ≡ Err e → walk_from at bytes ≡ Err e
unfolding walk_from walk_most
walk_bad at [] e some h = absurd (omega arith)
walk_bad at (b ∷ bs) e some h = rw h refl

pub walk_good : (at : ℕ) (bytes : List ℕ) (size : ℕ) → length_at at bytes ≡ Ok size → walk_from at bytes ≡ onto (descriptor_of bytes) (walk_from (at + size) (drop size bytes))
unfolding walk_from walk_most
walk_good at [] size h = let is = length_found at [] size h in absurd (omega (arith, is.two))
walk_good at (b ∷ bs) size h =
    let is = length_found at (b ∷ bs) size h in
    let two = least_two (b ∷ bs) in
    rw h (ap (onto (descriptor_of (b ∷ bs))) (enough (length bs) (length (drop size (b ∷ bs))) (at + size) (drop size (b ∷ bs)) (omega (arith, length-drop size (b ∷ bs), is.least, is.inside)) (omega arith)))

-- A WALK FROM ANOTHER PLACE

moved_on : (d : Descriptor) (a b : ℕ) (bytes : List ℕ) (m : ℕ) (ds : List Descriptor) (size : ℕ) (more : List Descriptor) → length_at a bytes ≡ Ok size
    → walk_most m (b + size) (drop size bytes) ≡ Ok more → d ∷ more ≡ ds
    → (length_at b bytes >>= λ size. onto d (walk_most m (b + size) (drop size bytes))) ≡ Ok ds
moved_on d a b bytes m ds size more h w e = rw (length_moved a b bytes size h, w) (ap Ok e)

-- the descriptors don't depend on the place
moved : (m a b : ℕ) (bytes : List ℕ) (ds : List Descriptor) → walk_most m a bytes ≡ Ok ds → walk_most m b bytes ≡ Ok ds
unfolding walk_most
moved zero a b [] ds h = h
moved (suc m) a b [] ds h = h
moved zero a b (x ∷ xs) ds h = h
moved (suc m) a b (x ∷ xs) ds h =
    let one = bind_ok (length_at a (x ∷ xs)) _ ds h in
    let two = bind_ok (walk_most m (a + one.0) (drop one.0 (x ∷ xs))) _ ds one.2 in
    let more = moved m (a + one.0) (b + one.0) (drop one.0 (x ∷ xs)) two.0 two.1 in
    let e : descriptor_of (x ∷ xs) ∷ two.0 ≡ ds = cc (two.2) in
    moved_on (descriptor_of (x ∷ xs)) a b (x ∷ xs) m ds one.0 two.0 one.1 more e

from_moved : (a b : ℕ) (bytes : List ℕ) (ds : List Descriptor) → walk_from a bytes ≡ Ok ds → walk_from b bytes ≡ Ok ds
unfolding walk_from
from_moved a b bytes ds h = moved (length bytes) a b bytes ds h

-- THE FRONT OF BYTES WITHOUT A FAULT

pub record IsFront (bytes rest : List ℕ) : Type 0 where
  pub two : 2 ≤ length bytes
  pub least : least_length bytes ≤ length bytes
  pub inside : slice_index bytes 0 ≤ length bytes
  pub walked : IsWalked rest
  pub all : descriptors_of bytes ≡ descriptor_of bytes ∷ descriptors_of rest

walked_as : (bytes : List ℕ) (ds : List Descriptor) → walk_from 0 bytes ≡ Ok ds → descriptors_of bytes ≡ ds
walked_as bytes ds h = rw h refl

front_of : (bytes : List ℕ) (r : Result ℕ DescFault) → length_at 0 bytes ≡ r → IsWalked bytes → 0 < length bytes → IsFront bytes (drop (slice_index bytes 0) bytes)
front_of bytes (Err e) h walked some = let bad = walk_bad 0 bytes e some h in cc
front_of bytes (Ok size) h walked some =
    let is = length_found 0 bytes size h in
    let good : onto (descriptor_of bytes) (walk_from (0 + size) (drop size bytes)) ≡ Ok (descriptors_of bytes) = sym (walk_good 0 bytes size h) ∙ walked in
    let more = bind_ok (walk_from (0 + size) (drop size bytes)) _ (descriptors_of bytes) good in
    let here : walk_from 0 (drop size bytes) ≡ Ok more.0 = from_moved (0 + size) 0 (drop size bytes) more.0 more.1 in
    let same : descriptors_of (drop size bytes) ≡ more.0 = walked_as (drop size bytes) more.0 here in
    let all : descriptor_of bytes ∷ more.0 ≡ descriptors_of bytes = cc (more.2) in
    rw (← is.first) record {
      two = is.two;
      least = omega (arith, is.least, is.inside);
      inside = omega (arith, is.first, is.inside);
      walked = here ∙ ap Ok (sym same);
      all = sym all ∙ ap (λ (ds : List Descriptor). descriptor_of bytes ∷ ds) (sym same);
    }

pub front : (bytes rest : List ℕ) → rest ≡ drop (slice_index bytes 0) bytes → IsWalked bytes → 0 < length bytes → IsFront bytes rest
front bytes rest e walked some = rw e (front_of bytes (length_at 0 bytes) refl walked some)

pub none_left : (bytes : List ℕ) → length bytes ≡ 0 → descriptors_of bytes ≡ []
none_left [] h = walked_as [] [] (walk_end 0)
none_left (b ∷ bs) h = absurd (omega arith)

-- A CHECK OVER ALL

-- the descriptors before, and then those of a walk
abbrev pub after : List Descriptor → Result (List Descriptor) DescFault → Result (List Descriptor) DescFault
after seen walked = walked >>= λ ds. Ok (seen ++ ds)

-- a check at a place has found no fault before it
pub record HasChecked (bytes : List ℕ) (at : ℕ) (rest : List ℕ) : Type 0 where
  pub placed : at + length rest ≡ length bytes
  pub seen : List Descriptor
  pub walked : walk_from 0 bytes ≡ after seen (walk_from at rest)

after_none : (r : Result (List Descriptor) DescFault) → after [] r ≡ r
after_none (Ok ds) = refl
after_none (Err e) = refl

after_one : (seen : List Descriptor) (d : Descriptor) (r : Result (List Descriptor) DescFault) → after seen (onto d r) ≡ after (seen ++ d ∷ []) r
after_one seen d (Ok ds) = ap Ok (sym (append_assoc seen (d ∷ []) ds))
after_one seen d (Err e) = refl

pub checked_none : (bytes : List ℕ) → HasChecked bytes 0 bytes
checked_none bytes = record { placed = omega arith; seen = []; walked = sym (after_none (walk_from 0 bytes)) }

pub checked_more : (bytes : List ℕ) (at : ℕ) (rest : List ℕ) (size next : ℕ) (more : List ℕ) → HasChecked bytes at rest → length_at at rest ≡ Ok size → next ≡ at + size → more ≡ drop size rest → HasChecked bytes next more
checked_more bytes at rest size next more before h e k =
    let is = length_found at rest size h in
    rw (e, k) record {
      placed = omega (arith, length-drop size rest, is.inside, before.placed);
      seen = before.seen ++ descriptor_of rest ∷ [];
      walked = before.walked ∙ ap (after before.seen) (walk_good at rest size h) ∙ after_one before.seen (descriptor_of rest) (walk_from (at + size) (drop size rest));
    }

is_walk : (r : Result (List Descriptor) DescFault) (ds : List Descriptor) → r ≡ Ok ds → IsWalk (Ok tt) r
is_walk (Ok xs) ds h = refl
is_walk (Err e) ds h = cc

pub checked_all : (bytes : List ℕ) (at : ℕ) (rest : List ℕ) → HasChecked bytes at rest → length rest ≡ 0 → IsWalk (Ok tt) (walk_from 0 bytes)
checked_all bytes at [] before h = is_walk (walk_from 0 bytes) (before.seen ++ []) (before.walked ∙ ap (after before.seen) (walk_end at))
checked_all bytes at (b ∷ bs) before h = absurd (omega arith)

pub checked_bad : (bytes : List ℕ) (at : ℕ) (rest : List ℕ) (e : DescFault) → HasChecked bytes at rest → 0 < length rest → length_at at rest ≡ Err e → walk_from 0 bytes ≡ Err e
checked_bad bytes at rest e before some h = before.walked ∙ ap (after before.seen) (walk_bad at rest e some h)
