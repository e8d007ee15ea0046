-- Sums of numbers and of tests.
use Rattle.std.proofs.Common.{◌≡◌, ℕ, ◌+◌, ◌≤◌, Bool, true, false, eqb, refl, arith}
use Rattle.std.proofs.lemmas.Bool.{eq-eqb}
use Rattle.un_facts.specs.Numbers.{one_if}

pub one_most : (b : Bool) → one_if b ≤ 1
one_most true = omega arith
one_most false = omega arith

pub one_here : (n : ℕ) → one_if (eqb n n) ≡ 1
one_here n = rw (eq-eqb n n refl) refl

pub middle_zero : (a b c : ℕ) → a + b + c ≡ 0 → b ≡ 0
middle_zero a b c e = omega arith
