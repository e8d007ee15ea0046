-- How often a number stands in the spans of the first queued transfers.
use Rattle.std.proofs.Common.{◌≡◌, ℕ, zero, suc, ◌+◌, ◌≤◌, Bool, true, false, List, [], ◌∷◌, length, take, Some, slice_get, sym, ap, ◌∙◌, arith}
use Rattle.std.proofs.lemmas.Option.{same_Some}
use Rattle.un_facts.proofs.Numbers.{one_most}
use Rattle.un_facts.specs.Numbers.{one_if, within}
use Rattle.un_req.specs.Request.{Buffer}
use Rattle.un_endpoint.specs.Bus.{queued_count}

-- one more transfer
after : (number : ℕ) (xs : List Buffer) (i : ℕ) (x : Buffer) → slice_get xs i ≡ Some x → queued_count number (take (suc i) xs) ≡ queued_count number (take i xs) + one_if (within x.from x.to number)
unfolding queued_count
after number [] i x e = absurd (cc)
after number (y ∷ ys) zero x e = rw (same_Some y x e) (omega arith)
after number (y ∷ ys) (suc i) x e = let rest = after number ys i x e in omega (arith, rest)

pub counted_more : (number : ℕ) (xs : List Buffer) (i : ℕ) (x : Buffer) → slice_get xs i ≡ Some x → within x.from x.to number ≡ true → queued_count number (take i xs) + 1 ≡ queued_count number (take (i + 1) xs)
counted_more number xs i x e b =
    let next : i + 1 ≡ suc i = omega arith in
    let more = after number xs i x e ∙ ap (λ (t : Bool). queued_count number (take i xs) + one_if t) b in rw next (sym more)

pub counted_less : (number : ℕ) (xs : List Buffer) (i : ℕ) (x : Buffer) → slice_get xs i ≡ Some x → within x.from x.to number ≡ false → queued_count number (take i xs) ≡ queued_count number (take (i + 1) xs)
counted_less number xs i x e b =
    let next : i + 1 ≡ suc i = omega arith in
    let more = after number xs i x e ∙ ap (λ (t : Bool). queued_count number (take i xs) + one_if t) b in rw next (omega (arith, more))

pub counted_least : (number : ℕ) (xs : List Buffer) → queued_count number xs ≤ length xs
unfolding queued_count
counted_least number [] = omega arith
counted_least number (x ∷ xs) = let rest = counted_least number xs in let one = one_most (within x.from x.to number) in omega (arith, rest, one)
