-- Bytes in hexadecimal digits, piece after piece.
use Rattle.std.proofs.Common.{ℕ, List, [], ◌∷◌, ◌++◌, ◌+◌, ◌/◌, ◌%◌, ◌≡◌, Option, take, drop, refl, ap}
use Rattle.std.proofs.Math.Seq.{take-add}
use Rattle.std.specs.Prelude.{slice_index}
use Rattle.hex.specs.Hex.{encode_lower, encode_with}
use Rattle.un_text.specs.declared.page.Page.{Page}
use Rattle.un_text.specs.Puts.{Puts}
use Rattle.un_text.proofs.Putting.{puts_then, puts_pending}

encode_append : (t xs ys : List ℕ) → encode_with t (xs ++ ys) ≡ encode_with t xs ++ encode_with t ys
unfolding encode_with
encode_append t [] ys = refl
encode_append t (x ∷ xs) ys = ap (λ (zs : List ℕ). slice_index t (x / 16) ∷ slice_index t (x % 16) ∷ zs) (encode_append t xs ys)

pub encode_none : encode_lower [] ≡ []
unfolding encode_with
encode_none = refl

pub more_hex : (i j k : Option (List ℕ)) (a b c : ℕ) (p q r s : Page) (bytes : List ℕ) (at n : ℕ) → Puts i a p j b q (encode_lower (take at bytes)) → Puts j b q k c r []
    → s.failed ≡ r.failed → s.pending ≡ r.pending ++ encode_lower (take n (drop at bytes)) → Puts i a p k c s (encode_lower (take (at + n) bytes))
more_hex i j k a b c p q r s bytes at n u v same e =
    rw (take-add at n bytes, encode_append) (puts_then i j k a b c p q s _ _ u (puts_pending j k b c q r s _ same e v))
