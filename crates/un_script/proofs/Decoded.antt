-- A text of some digits is some bytes.
use Rattle.std.proofs.Common.{◌≡◌, ℕ, ◌+◌, ◌<◌, ◌%◌, Bool, true, false, ◌==◌, if◌then◌else◌, List, [], ◌∷◌, Result, Ok, Err, length, subst, arith}
use Rattle.hex.specs.declared.error.FromHexError.{FromHexError}
use Rattle.hex.specs.declared.error.FromHexError.TheVariants.{OddLength}
use Rattle.hex.specs.Hex.{decode_of, decode_pairs, pair_value, ◌>>=◌}

first_of : (byte : Result ℕ FromHexError) (others : Result (List ℕ) FromHexError) (bytes : List ℕ)
    → (byte >>= λ b. others >>= λ bs. Ok (b ∷ bs)) ≡ Ok bytes → 0 < length bytes
first_of (Ok b) (Ok bs) bytes h = let e : (b ∷ bs) ≡ bytes = cc in subst (λ (xs : List ℕ). 0 < length xs) e (omega arith)
first_of (Ok b) (Err e) bytes h = absurd (cc)
first_of (Err e) others bytes h = absurd (cc)

where_even : (odd : Bool) (r : Result (List ℕ) FromHexError) (bytes : List ℕ) → (if odd then Err OddLength else r) ≡ Ok bytes → r ≡ Ok bytes
where_even true r bytes h = absurd (cc)
where_even false r bytes h = h

pairs_some : (word bytes : List ℕ) → 0 < length word → decode_pairs 0 word ≡ Ok bytes → 0 < length bytes
unfolding decode_pairs
pairs_some [] bytes some h = absurd (omega (arith, some))
pairs_some (c ∷ []) bytes some h = absurd (cc)
pairs_some (high ∷ low ∷ rest) bytes some h = first_of (pair_value high low 0) (decode_pairs (0 + 2) rest) bytes h

pub decoded_some : (word bytes : List ℕ) → 0 < length word → decode_of word ≡ Ok bytes → 0 < length bytes
decoded_some word bytes some h = pairs_some word bytes some (where_even (length word % 2 == 1) (decode_pairs 0 word) bytes h)
