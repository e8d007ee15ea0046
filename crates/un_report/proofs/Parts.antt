-- An item of a slice.
use Rattle.std.proofs.Common.{ℕ, zero, suc, ◌<◌, ◌≡◌, List, [], ◌∷◌, length, Some, slice_get, slice_index_or, refl, sym, ap, ◌∙◌, arith}

pub item_at : {X : Type 0} (xs : List X) (i : ℕ) (x : X) → i < length xs → x ≡ slice_index_or xs i x → slice_get xs i ≡ Some x
item_at xs i x low e = got xs i x low ∙ ap Some (sym e)
  where
    got : {X : Type 0} (ys : List X) (j : ℕ) (d : X) → j < length ys → slice_get ys j ≡ Some (slice_index_or ys j d)
    got [] j d h = absurd (omega arith)
    got (y ∷ ys) zero d h = refl
    got (y ∷ ys) (suc j) d h = got ys j d (omega arith)
