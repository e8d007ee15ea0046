-- The parts of a transfer are the grammar's frames, and a cursor stands at the one of its index.
use Rattle.std.proofs.Common.{◌≡◌, ◌↔◌, ℕ, ◌+◌, ◌<◌, true, false, IsTrue, List, [], ◌∷◌, ◌++◌, length, map, drop, Option, Some, None, Result, Ok, Err, IfOk, IfSome, IfNone, slice_get, unwrap_or, get_or, refl, sym, ap, ◌∙◌, arith, append_assoc, length-append}
use Rattle.std.proofs.Math.Seq.{get_or-append_seam}
use Rattle.std.proofs.lemmas.Bool.{false≢true}
use Rattle.std.proofs.lemmas.Option.{slice_get_read, slice_get-get_or}
use Rattle.un_frame.specs.declared.params.Class.{Class}
use Rattle.un_frame.specs.Bytes.{slice_at}
use Rattle.un_frame.specs.Parts.{datagram_of}
use Rattle.un_frame.specs.Wire.{Reads}
use Rattle.un_frame.proofs.PartLemmas.{parts_are_frames as class_parts}
use Rattle.un_frame.proofs.WireLemmas.{reading_is_one}
use Rattle.un_wire.specs.declared.cursor.Cursor.{Cursor}
use Rattle.un_wire.specs.Cursors.{IsAt, parts_of, part_count, part_index}
use Rattle.un_wire.specs.Laws.{PartsAreFrames, CountsAreParts, ReadingsAreOne}
use Rattle.un_wire.specs.Places.{IsFirst, IsSoundAt, class_at, commands_in, parts_at}

-- the parts are the frames that are read
pub parts_read : (class : Class) (bytes : List ℕ) (frames : List (List ℕ)) (commands : ℕ) → Reads class bytes frames commands → parts_of class bytes ≡ frames
unfolding parts_of
parts_read class bytes frames commands r = ap (map (slice_at bytes)) (class_parts class bytes r.places commands r.found) ∙ sym r.sliced

pub readings_are_one : ReadingsAreOne
readings_are_one class bytes frames others commands more r s =
    (sym (parts_read class bytes frames commands r) ∙ parts_read class bytes others more s, (reading_is_one class bytes r.places s.places commands more r.found s.found).1)

count_read : (class : Class) (bytes : List ℕ) (frames : List (List ℕ)) (commands : ℕ) → Reads class bytes frames commands → part_count class bytes ≡ length frames
unfolding part_count
count_read class bytes frames commands r = ap (λ (fs : List (List ℕ)). length fs) (parts_read class bytes frames commands r)

-- a part by its index
part_of : (class : Class) (bytes : List ℕ) (frames : List (List ℕ)) (index : ℕ) → parts_of class bytes ≡ frames → datagram_of class bytes index ≡ unwrap_or (slice_get frames index) []
unfolding datagram_of parts_of
part_of class bytes frames index same = ap (λ (fs : List (List ℕ)). unwrap_or (slice_get fs index) []) same

get_value : (frames : List (List ℕ)) (index : ℕ) (part : List ℕ) → slice_get frames index ≡ Some part → unwrap_or (slice_get frames index) [] ≡ part
get_value frames index part e = ap (λ (o : Option (List ℕ)). unwrap_or o []) e

pub parts_are_frames : PartsAreFrames
parts_are_frames class bytes frames commands r = record {
  count = count_read class bytes frames commands r;
  each = λ index inside.
      let found = slice_get-get_or frames index [] inside in
      found ∙ ap (λ (x : List ℕ). Some x) (sym (part_of class bytes frames index (parts_read class bytes frames commands r) ∙ get_value frames index (get_or frames index []) found));
}

pub counts_are_parts : CountsAreParts
counts_are_parts class bytes count r = count_read class bytes r.frames r.commands r.reads ∙ r.counted

-- the element behind a front
seam : (front : List (List ℕ)) (part : List ℕ) (rest : List (List ℕ)) → slice_get (front ++ part ∷ rest) (length front) ≡ Some part
seam front part rest =
    let long = length-append front (part ∷ rest) in
    slice_get_read (front ++ part ∷ rest) (length (front ++ part ∷ rest)) (length front) part refl (omega (arith, long)) (sym (get_or-append_seam front part rest part))

-- a cursor at the first part
pub at_first : (class : Class) (bytes : List ℕ) (cursor : Cursor) → IsFirst class bytes cursor → IsAt class bytes cursor
at_first class bytes cursor f =
    record { of_class = f.of_class; sound = f.sound; passed = []; split = parts_read class bytes (parts_at bytes cursor.place) (commands_in class bytes) f.found }

pub first_index : (class : Class) (bytes : List ℕ) (cursor : Cursor) → IsFirst class bytes cursor → part_index class bytes cursor ≡ 0
unfolding part_index
first_index class bytes cursor f = let same = count_read class bytes (parts_at bytes cursor.place) (commands_in class bytes) f.found in omega (arith, same)

-- what holds of an answer holds by what follows from it
pub if_ok : {A B : Type 0} (r : Result A B) (P Q : A → Type 0) → ((x : A) → P x → Q x) → IfOk r P → IfOk r Q
if_ok (Ok x) P Q f h = f x h
if_ok (Err e) P Q f h = h

pub if_some : {A : Type 0} (o : Option A) (P Q : A → Type 0) → ((x : A) → P x → Q x) → IfSome o P → IfSome o Q
if_some (Some x) P Q f h = f x h
if_some None P Q f h = h

pub if_none : {A : Type 0} (o : Option A) (P Q : Type 0) → (P → Q) → IfNone o P → IfNone o Q
if_none (Some x) P Q f h = h
if_none None P Q f h = f h

-- how many parts there are: those that a cursor has passed, and those from it on
count_is : (class : Class) (bytes : List ℕ) (cursor : Cursor) (a : IsAt class bytes cursor) → part_count class bytes ≡ length a.passed + length (parts_at bytes cursor.place)
unfolding part_count
count_is class bytes cursor a = ap (λ (fs : List (List ℕ)). length fs) a.split ∙ length-append a.passed (parts_at bytes cursor.place)

index_is : (class : Class) (bytes : List ℕ) (cursor : Cursor) (a : IsAt class bytes cursor) → part_index class bytes cursor ≡ length a.passed
unfolding part_index
index_is class bytes cursor a = let whole = count_is class bytes cursor a in omega (arith, whole)

module _ (class : Class) (bytes : List ℕ) (cursor : Cursor) (a : IsAt class bytes cursor) where
  -- where a part is left
  pub lent : (part : List ℕ) (rest : List (List ℕ)) → parts_at bytes cursor.place ≡ part ∷ rest → part ≡ datagram_of class bytes (part_index class bytes cursor)
  lent part rest here =
      let split : parts_of class bytes ≡ a.passed ++ (part ∷ rest) = a.split ∙ ap (λ (fs : List (List ℕ)). a.passed ++ fs) here in
      sym (ap (datagram_of class bytes) (index_is class bytes cursor a) ∙ part_of class bytes (a.passed ++ (part ∷ rest)) (length a.passed) split ∙ get_value (a.passed ++ (part ∷ rest)) (length a.passed) part (seam a.passed part rest))

  pub inside : (part : List ℕ) (rest : List (List ℕ)) → parts_at bytes cursor.place ≡ part ∷ rest → part_index class bytes cursor < part_count class bytes
  inside part rest here =
      let whole = count_is class bytes cursor a in
      let index = index_is class bytes cursor a in
      let left = ap (λ (fs : List (List ℕ)). length fs) here in
      omega (arith, whole, index, left)

  -- where none is
  pub ended : parts_at bytes cursor.place ≡ [] → part_index class bytes cursor ≡ part_count class bytes
  ended none =
      let whole = count_is class bytes cursor a in
      let index = index_is class bytes cursor a in
      let left = ap (λ (fs : List (List ℕ)). length fs) none in
      omega (arith, whole, index, left)

  pub says_left : (part : List ℕ) (rest : List (List ℕ)) → parts_at bytes cursor.place ≡ part ∷ rest → IsTrue false ↔ (part_index class bytes cursor ≡ part_count class bytes)
  says_left part rest here = (λ told. absurd (false≢true told), λ same. let less = inside part rest here in absurd (omega (arith, less, same)))

  pub says_ended : parts_at bytes cursor.place ≡ [] → IsTrue true ↔ (part_index class bytes cursor ≡ part_count class bytes)
  says_ended none = (λ told. ended none, λ same. refl)

-- a cursor that moves on by one part
module _ (class : Class) (bytes : List ℕ) (cursor next : Cursor) (a : IsAt class bytes cursor) (one : parts_at bytes next.place ≡ drop 1 (parts_at bytes cursor.place)) (of : class_at next.place ≡ class_at cursor.place) (sound : IsSoundAt bytes next.place) (more : part_index class bytes cursor < part_count class bytes) where
  moved : (left : List (List ℕ)) → parts_at bytes cursor.place ≡ left → IsAt class bytes next × (part_index class bytes next ≡ part_index class bytes cursor + 1)
  moved [] none = absurd (let same = ended class bytes cursor a none in omega (arith, same, more))
  moved (part ∷ rest) here =
      let after : parts_at bytes next.place ≡ rest = one ∙ ap (λ (fs : List (List ℕ)). drop 1 fs) here in
      let split : parts_of class bytes ≡ (a.passed ++ part ∷ []) ++ parts_at bytes next.place =
      a.split ∙ ap (λ (fs : List (List ℕ)). a.passed ++ fs) here ∙ sym (append_assoc a.passed (part ∷ []) rest) ∙ ap (λ (fs : List (List ℕ)). (a.passed ++ part ∷ []) ++ fs) (sym after) in
      let at : IsAt class bytes next = record { of_class = of ∙ a.of_class; sound = sound; passed = a.passed ++ part ∷ []; split = split } in
      let long = length-append a.passed (part ∷ []) in
      let index = index_is class bytes next at in
      let before = index_is class bytes cursor a in
      (at, omega (arith, long, index, before))

  pub moved_at : IsAt class bytes next
  moved_at = (moved (parts_at bytes cursor.place) refl).0

  pub moved_one : part_index class bytes next ≡ part_index class bytes cursor + 1
  moved_one = (moved (parts_at bytes cursor.place) refl).1
