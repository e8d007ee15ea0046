-- The parts of a line and of a trace.
use Rattle.std.proofs.Common.{ℕ, zero, suc, ◌<◌, ◌≤◌, ◌≡◌, List, [], ◌∷◌, ◌++◌, length, take, drop, codes, Some, slice_get, refl, sym, ap, ◌∙◌, arith, append_assoc, append-nil}
use Rattle.std.specs.List.{flat_map}
use Rattle.std.proofs.lemmas.List.{take_all, take-append-drop}
use Rattle.hex.specs.Hex.{encode_lower}
use Rattle.un_journal.specs.declared.lines.Line.{Line}
use Rattle.un_journal.specs.History.{Entry, History}
use Rattle.un_journal.specs.Text.{entry_text, trace, name_of, words_of, bytes_words}
use Rattle.un_text.specs.Words.{spaced}

pub bytes_text : (bytes : List ℕ) → 0 < length bytes → spaced (bytes_words bytes) ≡ (32 ∷ []) ++ encode_lower bytes
bytes_text [] h = absurd (omega arith)
bytes_text (b ∷ bytes) h = append-nil (32 ∷ encode_lower (b ∷ bytes))

pub line_text : (line : Line) (bytes : List ℕ) → entry_text (line, bytes) ≡ (name_of line ++ spaced (words_of line)) ++ (spaced (bytes_words bytes) ++ 10 ∷ [])
unfolding entry_text
line_text line bytes = append_assoc (name_of line ++ spaced (words_of line)) (spaced (bytes_words bytes)) (10 ∷ [])

pub one_more : (f : Entry → List ℕ) (xs : History) (i : ℕ) (e : Entry) → slice_get xs i ≡ Some e → flat_map f (take (suc i) xs) ≡ flat_map f (take i xs) ++ f e
one_more f [] i e h = absurd (cc)
one_more f (x ∷ xs) zero e h = let same : x ≡ e = cc in ap (λ t. f t ++ []) same ∙ append-nil (f e)
one_more f (x ∷ xs) (suc i) e h = ap (λ t. f x ++ t) (one_more f xs i e h) ∙ sym (append_assoc (f x) (flat_map f (take i xs)) (f e))

-- the lines of the entries so far
abbrev pub so_far : History → ℕ → List ℕ
so_far history i = codes "trace\n" ++ flat_map entry_text (take i history)

pub so_far_more : (history : History) (i : ℕ) (e : Entry) → slice_get history i ≡ Some e → so_far history (suc i) ≡ so_far history i ++ entry_text e
so_far_more history i e h = ap (λ t. codes "trace\n" ++ t) (one_more entry_text history i e h) ∙ sym (append_assoc (codes "trace\n") (flat_map entry_text (take i history)) (entry_text e))

pub so_far_all : (history : History) (i : ℕ) → length history ≤ i → trace history ≡ so_far history i ++ codes "end\n"
unfolding trace
so_far_all history i h = ap (λ (t : History). codes "trace\n" ++ flat_map entry_text t ++ codes "end\n") (sym (take_all i history h))

flat_append : (f : Entry → List ℕ) (xs ys : History) → flat_map f (xs ++ ys) ≡ flat_map f xs ++ flat_map f ys
flat_append f [] ys = refl
flat_append f (x ∷ xs) ys = ap (λ t. f x ++ t) (flat_append f xs ys) ∙ sym (append_assoc (f x) (flat_map f xs) (flat_map f ys))

-- what comes after the lines so far
pub so_far_rest : (history : History) (i : ℕ) → trace history ≡ so_far history i ++ (flat_map entry_text (drop i history) ++ codes "end\n")
unfolding trace
so_far_rest history i =
    let parts : flat_map entry_text history ≡ flat_map entry_text (take i history) ++ flat_map entry_text (drop i history) =
    ap (flat_map entry_text) (sym (take-append-drop i history)) ∙ flat_append entry_text (take i history) (drop i history) in
    ap (λ t. codes "trace\n" ++ t ++ codes "end\n") parts ∙ simp append_assoc

-- the lines so far, one entry's, and what comes after it
pub at_entry : (history : History) (i : ℕ) (e : Entry) → slice_get history i ≡ Some e
    → trace history ≡ (so_far history i ++ entry_text e) ++ (flat_map entry_text (drop (suc i) history) ++ codes "end\n")
at_entry history i e h = so_far_rest history (suc i) ∙ ap (λ t. t ++ (flat_map entry_text (drop (suc i) history) ++ codes "end\n")) (so_far_more history i e h)
