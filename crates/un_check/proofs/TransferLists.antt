-- Lists of transfers: one more at the end, and one of them marked.
use Rattle.std.proofs.Common.{◌≡◌, ℕ, zero, suc, ◌<◌, List, [], ◌∷◌, ◌++◌, length, Some, slice_get, slice_set, refl, ap, arith}
use Rattle.std.proofs.Math.ListN.{get_or}
use Rattle.un_check.specs.declared.transfers.Transfer.{Transfer}
use Rattle.un_check.specs.Transfers.{span_in, mark_in}
use Rattle.un_check.specs.TransferLines.{marked_at, with_mark}

pub get_last : {X : Type 0} (xs : List X) (x : X) → slice_get (xs ++ x ∷ []) (length xs) ≡ Some x
get_last [] x = refl
get_last (y ∷ ys) x = get_last ys x

pub get_other : {X : Type 0} (xs : List X) (x : X) (k : ℕ) → (length xs ≡ k → ⊥) → slice_get (xs ++ x ∷ []) k ≡ slice_get xs k
get_other [] x zero apart = absurd (apart refl)
get_other [] x (suc k) apart = refl
get_other (y ∷ ys) x zero apart = refl
get_other (y ∷ ys) x (suc k) apart = get_other ys x k (λ e. apart (ap suc e))

pub marked_length : (k cause : ℕ) (all : List Transfer) → length (marked_at k cause all) ≡ length all
marked_length k cause [] = refl
marked_length zero cause (x ∷ xs) = refl
marked_length (suc k) cause (x ∷ xs) = ap suc (marked_length k cause xs)

pub marked_spans : (k cause : ℕ) (all : List Transfer) (j : ℕ) → span_in (slice_get (marked_at k cause all) j) ≡ span_in (slice_get all j)
marked_spans k cause [] j = refl
marked_spans zero cause (x ∷ xs) zero = refl
marked_spans zero cause (x ∷ xs) (suc j) = refl
marked_spans (suc k) cause (x ∷ xs) zero = refl
marked_spans (suc k) cause (x ∷ xs) (suc j) = marked_spans k cause xs j

pub marked_here : (k cause : ℕ) (all : List Transfer) → k < length all → mark_in (slice_get (marked_at k cause all) k) ≡ Some cause
marked_here k cause [] h = absurd (omega arith)
marked_here zero cause (x ∷ xs) h = refl
marked_here (suc k) cause (x ∷ xs) h = marked_here k cause xs (omega arith)

pub marked_other : (k cause : ℕ) (all : List Transfer) (j : ℕ) → (k ≡ j → ⊥) → mark_in (slice_get (marked_at k cause all) j) ≡ mark_in (slice_get all j)
marked_other k cause [] j apart = refl
marked_other zero cause (x ∷ xs) zero apart = absurd (apart refl)
marked_other zero cause (x ∷ xs) (suc j) apart = refl
marked_other (suc k) cause (x ∷ xs) zero apart = refl
marked_other (suc k) cause (x ∷ xs) (suc j) apart = marked_other k cause xs j (λ e. apart (ap suc e))

-- to mark is to set the element of a serial
pub set_marks : (k cause : ℕ) (x : Transfer) (all : List Transfer) → k < length all → x ≡ get_or all k x → slice_set all k (with_mark cause x) ≡ marked_at k cause all
set_marks k cause x [] h e = absurd (omega arith)
set_marks zero cause x (y ∷ ys) h e = ap (λ z. with_mark cause z ∷ ys) e
set_marks (suc k) cause x (y ∷ ys) h e = ap (λ zs. y ∷ zs) (set_marks k cause x ys (omega arith) e)
