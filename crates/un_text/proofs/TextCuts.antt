-- Words behind spaces, and how a line is cut into them again.
use Rattle.std.proofs.Common.{ℕ, zero, suc, ◌+◌, ◌/◌, ◌%◌, ◌<◌, ◌≤◌, ◌^◌, ◌≡◌, Bool, true, ◌&&◌, nat_lt, List, [], ◌∷◌, ◌++◌, length, decimal, slice_index, refl, sym, ap, ◌∙◌, arith, append_assoc}
use Rattle.std.specs.List.{list_all}
use Rattle.std.proofs.lemmas.Bool.{ltb-true, lt-ltb, and_from}
use Rattle.std.proofs.lemmas.List.Folds.{list_all-append}
use Rattle.std.proofs.lemmas.Fmt.{decimal_by_steps}
use Rattle.un_facts.proofs.Booleans.{and_first, and_second}
use Rattle.hex.specs.Hex.{encode_lower, encode_with, lower_digits}
use Rattle.un_frame.specs.Bytes.{AreBytes}
use Rattle.un_text.specs.Words.{spaced}

-- a byte that is no space and no line feed, nor below
abbrev pub is_glyph : ℕ → Bool
is_glyph c = nat_lt 32 c

abbrev pub is_plain : List ℕ → Bool
is_plain word = list_all is_glyph word

abbrev pub are_plain : List (List ℕ) → Bool
are_plain words = list_all is_plain words

head_same : (c d : ℕ) (x y : List ℕ) → c ∷ x ≡ d ∷ y → c ≡ d
head_same c d x y e = cc

rest_same : (c d : ℕ) (x y : List ℕ) → c ∷ x ≡ d ∷ y → x ≡ y
rest_same c d x y e = cc

no_glyph : (b c : ℕ) → is_glyph b ≡ true → c ≤ 32 → c ≡ b → ⊥
no_glyph b c above low same = let over = ltb-true 32 b above in absurd (omega arith)

-- a word ends where something follows that is no part of a word
pub cut : (u v : List ℕ) (c d : ℕ) (x y : List ℕ) → is_plain u ≡ true → is_plain v ≡ true → c ≤ 32 → d ≤ 32
    → u ++ c ∷ x ≡ v ++ d ∷ y → (u ≡ v) × (c ∷ x ≡ d ∷ y)
cut [] [] c d x y p q s t e = (refl, e)
cut [] (b ∷ v) c d x y p q s t e = absurd (no_glyph b c (and_first (is_glyph b) (is_plain v) q) s (head_same c b x (v ++ d ∷ y) e))
cut (a ∷ u) [] c d x y p q s t e = absurd (no_glyph a d (and_first (is_glyph a) (is_plain u) p) t (sym (head_same a d (u ++ c ∷ x) y e)))
cut (a ∷ u) (b ∷ v) c d x y p q s t e =
    let same = head_same a b (u ++ c ∷ x) (v ++ d ∷ y) e in
    let more = cut u v c d x y (and_second (is_glyph a) (is_plain u) p) (and_second (is_glyph b) (is_plain v) q) s t (rest_same a b (u ++ c ∷ x) (v ++ d ∷ y) e) in
    (ap (λ k. k ∷ u) same ∙ ap (λ w. b ∷ w) more.0, more.1)

-- what follows a word: a space, or the line feed
abbrev pub tail_of : List (List ℕ) → List ℕ → List ℕ
tail_of ws x = spaced ws ++ 10 ∷ x

abbrev pub Begun : List ℕ → Type 0
Begun text = (c : ℕ) × (rest : List ℕ) × (text ≡ c ∷ rest) × (c ≤ 32)

pub begun : (ws : List (List ℕ)) (x : List ℕ) → Begun (tail_of ws x)
begun [] x = (10, x, refl, omega arith)
begun (w ∷ ws) x = (32, (w ++ spaced ws) ++ 10 ∷ x, refl, omega arith)

-- a word and what follows it
pub cut_tail : (u v : List ℕ) (us vs : List (List ℕ)) (x y : List ℕ) → is_plain u ≡ true → is_plain v ≡ true
    → u ++ tail_of us x ≡ v ++ tail_of vs y → (u ≡ v) × (tail_of us x ≡ tail_of vs y)
cut_tail u v us vs x y p q e =
    let a = begun us x in
    let b = begun vs y in
    let m = cut u v a.0 b.0 a.1 b.1 p q a.3 b.3 (ap (λ t. u ++ t) (sym a.2) ∙ e ∙ ap (λ t. v ++ t) b.2) in
    (m.0, a.2 ∙ m.1 ∙ sym b.2)

-- all words of a line and what comes after it
pub cut_words : (us vs : List (List ℕ)) (x y : List ℕ) → are_plain us ≡ true → are_plain vs ≡ true
    → tail_of us x ≡ tail_of vs y → (us ≡ vs) × (x ≡ y)
cut_words [] [] x y p q e = (refl, rest_same 10 10 x y e)
cut_words [] (v ∷ vs) x y p q e = let no = head_same 10 32 x ((v ++ spaced vs) ++ 10 ∷ y) e in absurd (omega (arith, no))
cut_words (u ∷ us) [] x y p q e = let no = head_same 32 10 ((u ++ spaced us) ++ 10 ∷ x) y e in absurd (omega (arith, no))
cut_words (u ∷ us) (v ∷ vs) x y p q e =
    let inner = rest_same 32 32 ((u ++ spaced us) ++ 10 ∷ x) ((v ++ spaced vs) ++ 10 ∷ y) e in
    let m = cut_tail u v us vs x y (and_first (is_plain u) (are_plain us) p) (and_first (is_plain v) (are_plain vs) q)
    (sym (append_assoc u (spaced us) (10 ∷ x)) ∙ inner ∙ append_assoc v (spaced vs) (10 ∷ y)) in
    let n = cut_words us vs x y (and_second (is_plain u) (are_plain us) p) (and_second (is_plain v) (are_plain vs) q) m.1 in
    (ap (λ w. w ∷ us) m.0 ∙ ap (λ ws. v ∷ ws) n.0, n.1)

pub spaced_append : (us vs : List (List ℕ)) → spaced (us ++ vs) ≡ spaced us ++ spaced vs
spaced_append [] vs = refl
spaced_append (u ∷ us) vs = ap (λ t. (32 ∷ u) ++ t) (spaced_append us vs) ∙ sym (append_assoc (32 ∷ u) (spaced us) (spaced vs))

-- numbers and bytes are plain words
pub decimal_plain : (n : ℕ) → n < 2 ^ 64 → is_plain (decimal n) ≡ true
decimal_plain n h = decimal_by_steps (λ n ds. is_plain ds ≡ true)
    (λ n small. and_from (is_glyph (48 + n)) true (lt-ltb 32 (48 + n) (omega arith)) refl)
    (λ n ds more plain. list_all-append is_glyph ds ((48 + n % 10) ∷ []) ∙ and_from (is_plain ds) (is_plain ((48 + n % 10) ∷ [])) plain
    (and_from (is_glyph (48 + n % 10)) true (lt-ltb 32 (48 + n % 10) (omega arith)) refl)) n h

digit_plain : (n : ℕ) → n < 16 → is_glyph (slice_index lower_digits n) ≡ true
digit_plain n h = among lower_digits n h refl
  where
    among : (ds : List ℕ) (n : ℕ) → n < length ds → is_plain ds ≡ true → is_glyph (slice_index ds n) ≡ true
    among [] n h p = absurd (omega arith)
    among (d ∷ ds) zero h p = and_first (is_glyph d) (is_plain ds) p
    among (d ∷ ds) (suc n) h p = among ds n (omega arith) (and_second (is_glyph d) (is_plain ds) p)

pub hex_plain : (bytes : List ℕ) → AreBytes bytes → is_plain (encode_lower bytes) ≡ true
unfolding encode_with
hex_plain [] h = refl
hex_plain (b ∷ bytes) h =
    let fits = h 0 in
    and_from (is_glyph (slice_index lower_digits (b / 16))) (is_glyph (slice_index lower_digits (b % 16)) && is_plain (encode_lower bytes)) (digit_plain (b / 16) (omega (arith, fits)))
    (and_from (is_glyph (slice_index lower_digits (b % 16))) (is_plain (encode_lower bytes)) (digit_plain (b % 16) (omega arith)) (hex_plain bytes (λ i. h (suc i))))
