-- Tests on numbers, and a test as a number.
use Rattle.std.specs.Prelude.{ℕ, Bool, true, false, ◌&&◌, nat_le, nat_lt}

-- 1 where a test holds, for sums
abbrev pub one_if : Bool → ℕ
one_if true = 1
one_if false = 0

-- whether a number stands in the span from a (inclusive) to b (exclusive)
abbrev pub within : ℕ → ℕ → ℕ → Bool
within a b n = nat_le a n && nat_lt n b

-- whether a number is neither below the one nor above the other
abbrev pub is_between : ℕ → ℕ → ℕ → Bool
is_between low high n = nat_le low n && nat_le n high
