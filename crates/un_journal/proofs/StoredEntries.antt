-- The entries that a journal keeps.
use Rattle.std.proofs.Common.{ℕ, zero, suc, ◌+◌, ◌-◌, ◌≤◌, ◌<◌, ◌≡◌, List, [], ◌∷◌, ◌++◌, length, take, drop, Some, slice_get, slice_index_or, refl, sym, ap, arith, length-drop}
use Rattle.std.proofs.lemmas.List.{take-append-le, drop-append-le, drop_at, take_all}
use Rattle.std.specs.List.{AllByRecursion}
use Rattle.un_journal.specs.declared.lines.Line.{Line}
use Rattle.un_journal.specs.History.{Entry, History}
use Rattle.un_journal.specs.declared.journal.Stored.{Stored}
use Rattle.un_journal.specs.Log.{entry_of, entries_of, AreEntries, IsEntry, IsStored}

pub entries_length : (bytes : List ℕ) (xs : List Stored) → length (entries_of bytes xs) ≡ length xs
unfolding entries_of
entries_length bytes [] = refl
entries_length bytes (x ∷ xs) = ap suc (entries_length bytes xs)

one_grows : (bytes more : List ℕ) (from to : ℕ) → from ≤ to → to ≤ length bytes → take (to - from) (drop from (bytes ++ more)) ≡ take (to - from) (drop from bytes)
one_grows bytes more from to a b =
    let size = length-drop from bytes in
    rw (drop-append-le from bytes more (omega arith)) (take-append-le (to - from) (drop from bytes) more (omega arith))

pub entries_grow : (bytes more : List ℕ) (xs : List Stored) → AllByRecursion (IsStored (length bytes)) xs → entries_of (bytes ++ more) xs ≡ entries_of bytes xs
unfolding entries_of
entries_grow bytes more [] h = refl
entries_grow bytes more (x ∷ xs) h = rw (one_grows bytes more x.from x.to h.0.0 h.0.1, entries_grow bytes more xs h.1) refl

entries_more : (bytes : List ℕ) (xs : List Stored) (s : Stored) → entries_of bytes (xs ++ s ∷ []) ≡ entries_of bytes xs ++ entry_of bytes s ∷ []
unfolding entries_of
entries_more bytes [] s = refl
entries_more bytes (x ∷ xs) s = ap (λ es. entry_of bytes x ∷ es) (entries_more bytes xs s)

-- a line more, with its bytes at the end
pub entries_push : (bytes more : List ℕ) (xs : List Stored) (line : Line) (from to : ℕ) → AllByRecursion (IsStored (length bytes)) xs
    → from ≡ length bytes → to ≡ length bytes + length more
    → entries_of (bytes ++ more) (xs ++ record { line = line; from = from; to = to } ∷ []) ≡ entries_of bytes xs ++ (line, more) ∷ []
entries_push bytes more xs line from to h f t =
    let end : drop from (bytes ++ more) ≡ more = drop_at bytes more from (sym f) in
    let all : take (to - from) more ≡ more = take_all (to - from) more (omega arith) in
    rw (entries_more (bytes ++ more) xs (record { line = line; from = from; to = to }), end, all, entries_grow bytes more xs h) refl

pub entries_get : (bytes : List ℕ) (xs : List Stored) (i : ℕ) (s : Stored) → slice_get xs i ≡ Some s → slice_get (entries_of bytes xs) i ≡ Some (entry_of bytes s)
unfolding entries_of
entries_get bytes [] i s h = absurd (cc)
entries_get bytes (x ∷ xs) zero s h = ap (λ (t : Stored). Some (entry_of bytes t)) (let same : x ≡ s = cc in same)
entries_get bytes (x ∷ xs) (suc i) s h = entries_get bytes xs i s h

pub got : (xs : List Stored) (i : ℕ) (d : Stored) → i < length xs → slice_get xs i ≡ Some (slice_index_or xs i d)
got [] i d h = absurd (omega arith)
got (x ∷ xs) zero d h = refl
got (x ∷ xs) (suc i) d h = got xs i d (omega arith)

-- one entry more
pub are_more : (es : History) (e : Entry) → AreEntries es → IsEntry e → AreEntries (es ++ e ∷ [])
are_more [] e h is = (is, tt)
are_more (x ∷ xs) e h is = (h.0, are_more xs e h.1 is)
