-- Tests joined, beyond what std's lemmas on Bool say.
use Rattle.std.proofs.Common.{◌≡◌, Bool, true, false, not, ◌&&◌, refl, sym}
use Rattle.std.proofs.lemmas.Bool.{and_parts, false≢true}

pub and_first : (a b : Bool) → (a && b) ≡ true → a ≡ true
and_first a b e = (and_parts a b e).0

pub and_second : (a b : Bool) → (a && b) ≡ true → b ≡ true
and_second a b e = (and_parts a b e).1

pub and_false : (b : Bool) → (b && false) ≡ false
and_false true = refl
and_false false = refl

pub and_not : (l o : Bool) → (l && not o) ≡ false → l ≡ true → o ≡ true
and_not true true e h = refl
and_not true false e h = absurd (false≢true (sym e))
and_not false o e h = absurd (false≢true h)
