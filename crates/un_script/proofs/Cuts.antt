-- The first line of a text, cut at its line feed.
use Rattle.std.proofs.Common.{ℕ, ◌<◌, ◌≡◌, Bool, true, false, ◌==◌, if◌then◌else◌, List, [], ◌∷◌, ◌++◌, length, filter, refl, arith}
use Rattle.un_text.specs.Words.{feeds}
use Rattle.un_script.specs.Words.{lines_of}

-- no line feed first, and none later
no_feed : (c : ℕ) (cs : List ℕ) → feeds (c ∷ cs) ≡ 0 → ((c == 10) ≡ false) × (feeds cs ≡ 0)
no_feed c cs none = pick (c == 10) none
  where
    pick : (b : Bool) → length (if b then c ∷ filter (λ d. d == 10) cs else filter (λ d. d == 10) cs) ≡ 0 → (b ≡ false) × (feeds cs ≡ 0)
    pick true e = absurd (omega (arith, e))
    pick false e = (refl, e)

line_cut : (line rest : List ℕ) → feeds line ≡ 0 → lines_of (line ++ 10 ∷ rest) ≡ line ∷ lines_of rest
unfolding lines_of
line_cut [] rest none = refl
line_cut (c ∷ line) rest none =
    let parts = no_feed c line none in
    rw (parts.0, line_cut line rest parts.1) refl

pub lines_cut : (text line rest : List ℕ) → feeds line ≡ 0 → text ≡ line ++ 10 ∷ rest → lines_of text ≡ line ∷ lines_of rest
lines_cut text line rest none e = rw e (line_cut line rest none)

pub lines_whole : (text : List ℕ) → 0 < length text → feeds text ≡ 0 → lines_of text ≡ text ∷ lines_of []
unfolding lines_of
lines_whole [] some none = absurd (omega arith)
lines_whole (c ∷ []) some none = let parts = no_feed c [] none in rw parts.0 refl
lines_whole (c ∷ d ∷ ds) some none =
    let parts = no_feed c (d ∷ ds) none in
    rw (parts.0, lines_whole (d ∷ ds) (omega arith) parts.1) refl
