-- The words of a line, cut at its spaces, and put together again; the first line of a text.
use Rattle.std.proofs.Common.{ℕ, zero, suc, ◌<◌, ◌≡◌, Bool, true, false, ◌==◌, ◌++◌, if◌then◌else◌, List, [], ◌∷◌, length, take, drop, slice_index, refl, sym, ap, ◌∙◌, arith}
use Rattle.std.proofs.lemmas.Bool.{eqb-true, ltb-true, false_from_ne_true}
use Rattle.std.proofs.lemmas.Bool.Decides.{nat_tests}
use Rattle.un_facts.proofs.Booleans.{and_first, and_second}
use Rattle.un_text.specs.Words.{spaced, words_in, onto_first, feeds}
use Rattle.un_text.proofs.TextCuts.{is_glyph, is_plain, are_plain}

pub words_cut : (xs : List ℕ) (i : ℕ) → i < length xs → ((k : ℕ) → k < i → (slice_index xs k == 32) ≡ true → ⊥) → (slice_index xs i == 32) ≡ true
    → words_in xs ≡ take i xs ∷ words_in (drop (suc i) xs)
unfolding words_in
words_cut [] i within before here = absurd (omega arith)
words_cut (c ∷ cs) zero within before here = rw here refl
words_cut (c ∷ cs) (suc i) within before here =
    let other = false_from_ne_true (c == 32) (before 0 (omega arith)) in
    let next = words_cut cs i (omega arith) (λ k h. before (suc k) (omega arith)) here in
    rw (other, next) refl

pub words_whole : (xs : List ℕ) → ((k : ℕ) → k < length xs → (slice_index xs k == 32) ≡ true → ⊥) → words_in xs ≡ xs ∷ []
unfolding words_in
words_whole [] none = refl
words_whole (c ∷ cs) none =
    let other = false_from_ne_true (c == 32) (none 0 (omega arith)) in
    let next = words_whole cs (λ k h. none (suc k) (omega arith)) in
    rw (other, next) refl

pub onto_some : (c : ℕ) (ps : List (List ℕ)) → (w : List ℕ) × (ws : List (List ℕ)) × (onto_first c ps ≡ w ∷ ws)
onto_some c [] = (c ∷ [], [], refl)
onto_some c (p ∷ ps) = (c ∷ p, ps, refl)

-- each line has a word, even if it is empty
pub words_some : (line : List ℕ) → (w : List ℕ) × (ws : List (List ℕ)) × (words_in line ≡ w ∷ ws)
unfolding words_in
words_some [] = ([], [], refl)
words_some (c ∷ cs) = pick (c == 32) c cs where
  pick : (b : Bool) (c : ℕ) (cs : List ℕ) → (w : List ℕ) × (ws : List (List ℕ)) × ((if b then [] ∷ words_in cs else onto_first c (words_in cs)) ≡ w ∷ ws)
  pick true c cs = ([], words_in cs, refl)
  pick false c cs = onto_some c (words_in cs)

-- TOGETHER AGAIN

head_same : (v w : List ℕ) (vs ws : List (List ℕ)) → v ∷ vs ≡ w ∷ ws → v ≡ w
head_same v w vs ws e = cc

rest_same : (v w : List ℕ) (vs ws : List (List ℕ)) → v ∷ vs ≡ w ∷ ws → vs ≡ ws
rest_same v w vs ws e = cc

pub joined : (text w : List ℕ) (ws : List (List ℕ)) → words_in text ≡ w ∷ ws → w ++ spaced ws ≡ text
unfolding words_in
joined [] w ws h = let a = head_same [] w [] ws h in let b = rest_same [] w [] ws h in rw (← a, ← b) refl
joined (c ∷ cs) w ws h = pick (c == 32) refl h (joined cs)
  where
    put : (v : List ℕ) (vs : List (List ℕ)) (rest : List (List ℕ)) → words_in cs ≡ v ∷ vs → rest ≡ onto_first c (words_in cs) → rest ≡ (c ∷ v) ∷ vs
    put v vs rest e f = rw e at f

    pick : (b : Bool) → (c == 32) ≡ b → (if b then [] ∷ words_in cs else onto_first c (words_in cs)) ≡ w ∷ ws → ((v : List ℕ) (vs : List (List ℕ)) → words_in cs ≡ v ∷ vs → v ++ spaced vs ≡ cs) → w ++ spaced ws ≡ c ∷ cs
    pick true is e rec =
        let some = words_some cs in
        let a = head_same [] w (words_in cs) ws e in
        let b = sym some.2 ∙ rest_same [] w (words_in cs) ws e in
        let inner = rec some.0 some.1 some.2 in
        let space : c ≡ 32 = eqb-true c 32 is in
        rw (← a, ← b, space) (ap (λ t. 32 ∷ t) inner)
    pick false is e rec =
        let some = words_some cs in
        let whole = put some.0 some.1 (w ∷ ws) some.2 (sym e) in
        let a = head_same w (c ∷ some.0) ws some.1 whole in
        let b = rest_same w (c ∷ some.0) ws some.1 whole in
        rw (a, b) (ap (λ t. c ∷ t) (rec some.0 some.1 some.2))

no_space : (c : ℕ) → is_glyph c ≡ true → (c == 32) ≡ false
no_space c above = let over = ltb-true 32 c above in grind (arith, nat_tests)

word_then : (w tail : List ℕ) (ws : List (List ℕ)) → is_plain w ≡ true → words_in tail ≡ [] ∷ ws → words_in (w ++ tail) ≡ w ∷ ws
unfolding words_in
word_then [] tail ws p e = e
word_then (c ∷ w) tail ws p e = rw (no_space c (and_first (is_glyph c) (is_plain w) p), word_then w tail ws (and_second (is_glyph c) (is_plain w) p) e) refl

spaced_words : (ws : List (List ℕ)) → are_plain ws ≡ true → words_in (spaced ws) ≡ [] ∷ ws
unfolding words_in
spaced_words [] p = refl
spaced_words (w ∷ ws) p = ap (λ vs. [] ∷ vs) (word_then w (spaced ws) ws (and_first (is_plain w) (are_plain ws) p) (spaced_words ws (and_second (is_plain w) (are_plain ws) p)))

pub parted : (w : List ℕ) (ws : List (List ℕ)) → is_plain w ≡ true → are_plain ws ≡ true → words_in (w ++ spaced ws) ≡ w ∷ ws
parted w ws p q = word_then w (spaced ws) ws p (spaced_words ws q)

-- CUTTING A LINE

pub line_cut : (xs : List ℕ) (i : ℕ) → i < length xs → ((k : ℕ) → k < i → (slice_index xs k == 10) ≡ true → ⊥) → (slice_index xs i == 10) ≡ true
    → (feeds (take i xs) ≡ 0) × (xs ≡ take i xs ++ 10 ∷ drop (suc i) xs)
line_cut [] i within before here = absurd (omega arith)
line_cut (c ∷ cs) zero within before here = (refl, ap (λ d. d ∷ cs) (eqb-true c 10 here))
line_cut (c ∷ cs) (suc i) within before here =
    let other = false_from_ne_true (c == 10) (before 0 (omega arith)) in
    let next = line_cut cs i (omega arith) (λ k h. before (suc k) (omega arith)) here in
    (rw other next.0, ap (λ t. c ∷ t) next.1)

pub line_none : (xs : List ℕ) → ((k : ℕ) → k < length xs → (slice_index xs k == 10) ≡ true → ⊥) → feeds xs ≡ 0
line_none [] none = refl
line_none (c ∷ cs) none =
    let other = false_from_ne_true (c == 10) (none 0 (omega arith)) in
    rw other (line_none cs (λ k h. none (suc k) (omega arith)))
