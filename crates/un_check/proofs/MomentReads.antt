-- Lines that are read in a history from an index on: one line, lines that follow others, and where they differ.
use Rattle.std.proofs.Common.{◌≡◌, ℕ, zero, suc, ◌+◌, ◌-◌, ◌<◌, ◌≤◌, List, [], ◌∷◌, ◌++◌, length, take, drop, Some, slice_get, refl, sym, ap, ◌∙◌, subst, arith, length-append}
use Rattle.std.proofs.Math.Seq.{take-add, take-append-add}
use Rattle.std.proofs.lemmas.List.{drop-drop, take-append-le}
use Rattle.std.proofs.lemmas.Option.{same_Some, none-some, slice_get_within}
use Rattle.un_journal.specs.History.{Entry, History}
use Rattle.un_check.specs.Moments.{Reads, Differs}
use Rattle.un_check.specs.MomentLaws.{NoLineReads, LineReads, OtherDiffers, ReadsJoin, DiffersAfter, DiffersBefore}

-- LISTS

one_at : {X : Type 0} (h : List X) (k : ℕ) (e : X) → slice_get h k ≡ Some e → take 1 (drop k h) ≡ e ∷ []
one_at [] k e q = absurd (none-some e q)
one_at (x ∷ h) zero e q = ap (λ i. i ∷ []) (same_Some x e q)
one_at (x ∷ h) (suc k) e q = one_at h k e q

-- an element of a list is that of the list with more behind it
get_front : {X : Type 0} (xs ys : List X) (k : ℕ) (e : X) → k < length xs → slice_get (xs ++ ys) k ≡ Some e → slice_get xs k ≡ Some e
get_front [] ys k e low q = absurd (omega arith)
get_front (x ∷ xs) ys zero e low q = q
get_front (x ∷ xs) ys (suc k) e low q = get_front xs ys k e (omega arith) q

get_behind : {X : Type 0} (xs ys : List X) (k : ℕ) → slice_get (xs ++ ys) (length xs + k) ≡ slice_get ys k
get_behind [] ys k = ap (slice_get ys) (let none : 0 + k ≡ k = omega arith in none)
get_behind (x ∷ xs) ys k = ap (slice_get (x ∷ (xs ++ ys))) next ∙ get_behind xs ys k
  where
    next : length (x ∷ xs) + k ≡ suc (length xs + k)
    next = omega arith

-- what is read behind lines that were read
read_behind : (h : History) (at : ℕ) (xs : History) (middle n : ℕ) → Reads h at xs middle → take (length xs + n) (drop at h) ≡ xs ++ take n (drop middle h)
read_behind h at xs middle n r =
    take-add (length xs) n (drop at h) ∙ (ap (λ i. i ++ take n (drop (length xs) (drop at h))) r.are_lines ∙ ap (λ i. xs ++ take n i) rest)
  where
    rest : drop (length xs) (drop at h) ≡ drop middle h
    rest = drop-drop (length xs) at h ∙ ap (λ i. drop i h) (sym r.is_next)

-- LAWS

pub no_line_reads : NoLineReads
no_line_reads h at within = record { is_next = omega arith; within = within; are_lines = refl }

pub line_reads : LineReads
line_reads h at e q = record { is_next = refl; within = inside; are_lines = one_at h at e q }
  where
    inside : at + 1 ≤ length h
    inside = let low : at < length h = slice_get_within h at e q in omega arith

pub other_differs : OtherDiffers
other_differs h at e within other = record {
  from = omega arith;
  before = omega arith;
  within = within;
  are_lines = subst (λ i. take i (drop at h) ≡ take i (e ∷ [])) none refl;
  is_other = λ f q p. other (q ∙ sym (first f p));
}
  where
    none : 0 ≡ at - at
    none = omega arith

    first : (f : Entry) → slice_get (e ∷ []) (at - at) ≡ Some f → Some e ≡ Some f
    first f p = subst (λ i. slice_get (e ∷ []) i ≡ Some f) (sym none) p

pub reads_join : ReadsJoin
reads_join h at xs middle ys next r s = record {
  is_next = omega (arith, all, r.is_next, s.is_next);
  within = s.within;
  are_lines = subst (λ i. take i (drop at h) ≡ xs ++ ys) (sym all) (read_behind h at xs middle (length ys) r ∙ ap (λ i. xs ++ i) s.are_lines);
}
  where
    all : length (xs ++ ys) ≡ length xs + length ys
    all = length-append xs ys

pub differs_after : DiffersAfter
differs_after h at xs middle ys k r d = record {
  from = omega (arith, r.is_next, d.from);
  before = omega (arith, length-append xs ys, r.is_next, d.before);
  within = d.within;
  are_lines = subst (λ i. take i (drop at h) ≡ take i (xs ++ ys)) (sym place)
      (read_behind h at xs middle (k - middle) r ∙ (ap (λ i. xs ++ i) d.are_lines ∙ sym (take-append-add xs ys (k - middle))));
  is_other = λ e q p. d.is_other e q (sym (get_behind xs ys (k - middle)) ∙ subst (λ i. slice_get (xs ++ ys) i ≡ Some e) place p);
}
  where
    place : k - at ≡ length xs + (k - middle)
    place = omega (arith, r.is_next, d.from)

pub differs_before : DiffersBefore
differs_before h at xs ys k d = record {
  from = d.from;
  before = omega (arith, length-append xs ys, d.before);
  within = d.within;
  are_lines = d.are_lines ∙ sym (take-append-le (k - at) xs ys (omega (arith, low)));
  is_other = λ e q p. d.is_other e q (get_front xs ys (k - at) e low p);
}
  where
    low : k - at < length xs
    low = omega (arith, d.from, d.before)

-- WHAT A HISTORY BEGINS WITH

-- up to the end of what is read
pub read_front : (h : History) (at : ℕ) (lines : History) (next : ℕ) → Reads h at lines next → take next h ≡ take at h ++ lines
read_front h at lines next r = ap (λ i. take i h) r.is_next ∙ (take-add at (length lines) h ∙ ap (λ i. take at h ++ i) r.are_lines)

-- up to where it differs
pub differs_front : (h : History) (at : ℕ) (lines : History) (k : ℕ) → Differs h at lines k → take k h ≡ take at h ++ take (k - at) lines
differs_front h at lines k d = ap (λ i. take i h) place ∙ (take-add at (k - at) h ∙ ap (λ i. take at h ++ i) d.are_lines)
  where
    place : k ≡ at + (k - at)
    place = omega (arith, d.from)

-- a line behind the front of a list, which goes on as the list does, is the list's
pub next_of : {X : Type 0} (xs more rest : List X) (e : X) (k : ℕ) → k < length xs → take k xs ++ e ∷ rest ≡ xs ++ more → slice_get xs k ≡ Some e
next_of [] more rest e k low q = absurd (omega arith)
next_of (x ∷ xs) more rest e zero low q = ap Some (let same : x ≡ e = cc in same)
next_of (x ∷ xs) more rest e (suc k) low q = next_of xs more rest e k (omega arith) (let same : take k xs ++ e ∷ rest ≡ xs ++ more = cc in same)
