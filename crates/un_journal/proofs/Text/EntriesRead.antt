-- A line is read as an entry exactly where it is that entry's text without its line feed.
use Rattle.std.proofs.Common.{ℕ, ◌+◌, ◌*◌, ◌≡◌, Bool, true, false, ◌==◌, if◌then◌else◌, List, [], ◌∷◌, ◌++◌, length, filter, Some, refl, sym, ap, ◌∙◌, subst, arith, append_assoc, append-nil}
use Rattle.std.specs.List.{flat_map}
use Rattle.std.proofs.lemmas.Bool.{ltb-true}
use Rattle.std.proofs.lemmas.Bool.Decides.{nat_tests}
use Rattle.std.proofs.lemmas.Option.{same_Some}
use Rattle.un_facts.proofs.Booleans.{and_first, and_second}
use Rattle.hex.specs.Hex.{encode_lower, encode_with, lower_digits}
use Rattle.hex.proofs.HexLemmas.{length-encode_with}
use Rattle.un_journal.specs.declared.lines.Line.{Line}
use Rattle.un_journal.specs.declared.lines.Line.TheVariants.{Made, Gave}
use Rattle.un_journal.specs.History.{Entry, History}
use Rattle.un_journal.specs.Log.{IsEntry, AreEntries, CarriesItsBytes}
use Rattle.un_journal.specs.Text.{name_of, words_of, bytes_words, entry_text}
use Rattle.un_text.specs.Words.{feeds, spaced, words_in, bytes_in}
use Rattle.un_journal.specs.TraceLines.{line_of, line_in, entry_with, entry_in}
use Rattle.un_text.proofs.TextCuts.{is_glyph, is_plain, are_plain}
use Rattle.un_journal.proofs.Text.WordCuts.{all_words, name_plain, entry_plain, shape}
use Rattle.un_text.proofs.ReadWords.{joined, parted}
use Rattle.un_text.proofs.ReadFields.{bytes_sound, bytes_back}
use Rattle.un_journal.proofs.Text.LinesRead.{heard, through, digit_words, line_sound, line_back}

digits_same : (bytes : List ℕ) → digit_words (encode_lower bytes) ≡ bytes_words bytes
unfolding encode_with
digits_same [] = refl
digits_same (b ∷ bytes) = refl

carry : (line : Line) (digits bytes : List ℕ) → length digits ≡ 2 * length bytes → CarriesItsBytes line digits → CarriesItsBytes line bytes
carry (Made l k a b) digits bytes e h = omega (arith, e, h)
carry (Gave l n) digits bytes e h = omega (arith, e, h)
carry line digits bytes e h = omega (arith, e, h)

carry_back : (line : Line) (digits bytes : List ℕ) → length digits ≡ 2 * length bytes → CarriesItsBytes line bytes → CarriesItsBytes line digits
carry_back (Made l k a b) digits bytes e h = omega (arith, e, h)
carry_back (Gave l n) digits bytes e h = omega (arith, e, h)
carry_back line digits bytes e h = omega (arith, e, h)

-- a line without its line feed
abbrev pub line_text_of : Entry → List ℕ
line_text_of e = name_of e.0 ++ spaced (all_words e)

abbrev Reads : List ℕ → Entry → Type 0
Reads text e = IsEntry e × (line_text_of e ≡ text)

written_reads : (text : List ℕ) (w : Entry) (e : Entry) → line_in text ≡ Some w → entry_with w ≡ Some e → Reads text e
written_reads text (line, digits) e lh eh =
    through (Reads text e) (bytes_in digits) _ e (λ bytes bh same.
    let b = bytes_sound digits bytes bh in
    let s = line_sound (words_in text) (line, digits) (sym (heard text (words_in text) refl) ∙ lh) in
    let long : length digits ≡ 2 * length bytes = ap length (sym b.0) ∙ length-encode_with lower_digits bytes in
    let words : digit_words digits ≡ bytes_words bytes = ap digit_words (sym b.0) ∙ digits_same bytes in
    let whole : name_of line ++ spaced (words_of line ++ bytes_words bytes) ≡ text = ap (λ ws. name_of line ++ spaced (words_of line ++ ws)) (sym words) ∙ joined text (name_of line) (words_of line ++ digit_words digits) s.0 in
    subst (Reads text) (same_Some (line, bytes) e same) ((s.1, s.2, carry line digits bytes long s.3, b.1), whole)) eh

pub entry_sound : (text : List ℕ) (e : Entry) → entry_in text ≡ Some e → Reads text e
entry_sound text e h = through (Reads text e) (line_in text) entry_with e (λ w lh eh. written_reads text w e lh eh) h

pub entry_complete : (e : Entry) (text : List ℕ) → IsEntry e → line_text_of e ≡ text → entry_in text ≡ Some e
entry_complete (line, bytes) text is same =
    let words : words_in text ≡ name_of line ∷ all_words (line, bytes) = ap words_in (sym same) ∙ parted (name_of line) (all_words (line, bytes)) (name_plain line) (entry_plain (line, bytes) is) in
    let long : length (encode_lower bytes) ≡ 2 * length bytes = length-encode_with lower_digits bytes in
    let read : line_in text ≡ Some (line, encode_lower bytes) =
    heard text _ words ∙ ap (λ ws. line_of (name_of line ∷ (words_of line ++ ws))) (sym (digits_same bytes))
    ∙ line_back line (encode_lower bytes) is.0 is.1 (carry_back line (encode_lower bytes) bytes long is.2) in
    rw (read, bytes_back bytes is.3) refl

-- LINE FEEDS

feed_first : (b : Bool) (c : ℕ) (cs : List ℕ) → length (if b then c ∷ cs else cs) ≡ (if b then 1 else 0) + length cs
feed_first true c cs = omega arith
feed_first false c cs = omega arith

pub feeds_append : (x y : List ℕ) → feeds (x ++ y) ≡ feeds x + feeds y
feeds_append [] y = omega arith
feeds_append (c ∷ x) y =
    let a = feed_first (c == 10) c (filter (λ d. d == 10) (x ++ y)) in
    let b = feed_first (c == 10) c (filter (λ d. d == 10) x) in
    let rest = feeds_append x y in
    omega (arith, a, b, rest)

no_feed : (c : ℕ) → is_glyph c ≡ true → (c == 10) ≡ false
no_feed c above = let over = ltb-true 32 c above in grind (arith, nat_tests)

pub plain_feeds : (w : List ℕ) → is_plain w ≡ true → feeds w ≡ 0
plain_feeds [] p = refl
plain_feeds (c ∷ w) p = rw (no_feed c (and_first (is_glyph c) (is_plain w) p)) (plain_feeds w (and_second (is_glyph c) (is_plain w) p))

spaced_feeds : (ws : List (List ℕ)) → are_plain ws ≡ true → feeds (spaced ws) ≡ 0
spaced_feeds [] p = refl
spaced_feeds (w ∷ ws) p =
    feeds_append (32 ∷ w) (spaced ws) ∙ (let a = plain_feeds w (and_first (is_plain w) (are_plain ws) p) in let b = spaced_feeds ws (and_second (is_plain w) (are_plain ws) p) in omega (arith, a, b))

pub line_feeds : (e : Entry) → IsEntry e → feeds (line_text_of e) ≡ 0
line_feeds e is = feeds_append (name_of e.0) (spaced (all_words e)) ∙ (let a = plain_feeds (name_of e.0) (name_plain e.0) in let b = spaced_feeds (all_words e) (entry_plain e is) in omega (arith, a, b))

-- an entry's text, and what follows it
pub entry_line : (e : Entry) (x : List ℕ) → entry_text e ++ x ≡ line_text_of e ++ 10 ∷ x
entry_line e x = shape e x ∙ sym (append_assoc (name_of e.0) (spaced (all_words e)) (10 ∷ x))

pub entry_feeds : (e : Entry) → IsEntry e → feeds (entry_text e) ≡ 1
entry_feeds e is =
    ap feeds (sym (append-nil (entry_text e)) ∙ entry_line e []) ∙ feeds_append (line_text_of e) (10 ∷ []) ∙ (let a = line_feeds e is in omega (arith, a))

pub history_feeds : (h : History) → AreEntries h → feeds (flat_map entry_text h) ≡ length h
history_feeds [] a = refl
history_feeds (e ∷ h) a =
    feeds_append (entry_text e) (flat_map entry_text h) ∙ (let x = entry_feeds e a.0 in let y = history_feeds h a.1 in omega (arith, x, y))

starts : (c : ℕ) (cs : List ℕ) → c ≡ 10 → feeds (c ∷ cs) ≡ 0 → ⊥
starts c cs e none = let p = subst (λ d. feeds (d ∷ cs) ≡ 0) e none in omega (arith, p)

later : (c : ℕ) (cs : List ℕ) → feeds (c ∷ cs) ≡ 0 → feeds cs ≡ 0
later c cs none = let a = feed_first (c == 10) c (filter (λ d. d == 10) cs) in omega (arith, a, none)

-- two texts that go on with a line feed are the same up to it, where they have none before
pub cut_feed : (u v x y : List ℕ) → feeds u ≡ 0 → feeds v ≡ 0 → u ++ 10 ∷ x ≡ v ++ 10 ∷ y → (u ≡ v) × (x ≡ y)
cut_feed [] [] x y p q e = (refl, let same : x ≡ y = cc in same)
cut_feed [] (b ∷ v) x y p q e = let same : 10 ≡ b = cc in absurd (starts b v (sym same) q)
cut_feed (a ∷ u) [] x y p q e = let same : a ≡ 10 = cc in absurd (starts a u same p)
cut_feed (a ∷ u) (b ∷ v) x y p q e =
    let same : a ≡ b = cc in
    let inner : u ++ 10 ∷ x ≡ v ++ 10 ∷ y = cc in
    let more = cut_feed u v x y (later a u p) (later b v q) inner in
    (ap (λ k. k ∷ u) same ∙ ap (λ w. b ∷ w) more.0, more.1)

pub entry_as : (text digits bytes : List ℕ) (line : Line) → line_in text ≡ Some (line, digits) → bytes_in digits ≡ Some bytes → entry_in text ≡ Some (line, bytes)
entry_as text digits bytes line e f = rw (e, f) refl
