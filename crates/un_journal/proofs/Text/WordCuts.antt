-- The words of each kind of line are plain, so its text is cut into them again.
use Rattle.std.proofs.Common.{ℕ, ◌≡◌, true, false, List, [], ◌∷◌, ◌++◌, map, refl, sym, ap, ◌∙◌, arith, append_assoc}
use Rattle.std.proofs.lemmas.Bool.{and_from}
use Rattle.std.specs.List.{AllByRecursion}
use Rattle.hex.specs.Hex.{encode_lower}
use Rattle.un_frame.specs.Bytes.{AreBytes}
use Rattle.un_frame.specs.declared.params.Lane.TheVariants.{Outward, Inward}
use Rattle.un_frame.specs.declared.kinds.FaultKind.TheVariants.{Proto, Halt}
use Rattle.un_frame.specs.declared.kinds.Verdict.TheVariants.{Take, Short, Long, Filtered}
use Rattle.un_journal.specs.declared.lines.Line.{Line}
use Rattle.un_journal.specs.declared.lines.Line.TheVariants.{Took, Refused, Made, Waited, Posted, Flying, Landed, Failed, Retried, Marked, Cut, Dropped, TxHome, Opened, Gave, Recalled, Cleared, Control, Settled}
use Rattle.un_journal.specs.History.{Entry}
use Rattle.un_journal.specs.Lines.{Field, lane, short, long, reason, fault, flag, row, spelled, IsOfItsType}
use Rattle.un_journal.specs.Log.{IsEntry}
use Rattle.un_journal.specs.Text.{name_of, words_of, bytes_words, entry_text}
use Rattle.un_text.specs.Words.{spaced}
use Rattle.un_text.proofs.TextCuts.{is_plain, are_plain, tail_of, spaced_append, decimal_plain, hex_plain}

-- THE WORDS ARE PLAIN

field_plain : (field : Field) → IsOfItsType field → is_plain (spelled field) ≡ true
field_plain (lane Outward) is = refl
field_plain (lane Inward) is = refl
field_plain (short n) is = decimal_plain n (omega (arith, is))
field_plain (long n) is = decimal_plain n is
field_plain (reason Take) is = refl
field_plain (reason Short) is = refl
field_plain (reason Long) is = refl
field_plain (reason Filtered) is = refl
field_plain (fault Proto) is = refl
field_plain (fault Halt) is = refl
field_plain (flag true) is = refl
field_plain (flag false) is = refl

pub name_plain : (line : Line) → is_plain (name_of line) ≡ true
name_plain (Took l s) = refl
name_plain (Refused l s why) = refl
name_plain (Made l k a b) = refl
name_plain (Waited l) = refl
name_plain (Posted l) = refl
name_plain (Flying l k) = refl
name_plain (Landed l k) = refl
name_plain (Failed l k kind) = refl
name_plain (Retried l k n) = refl
name_plain (Marked l k c) = refl
name_plain (Cut l k c) = refl
name_plain (Dropped l a b c) = refl
name_plain (TxHome l k) = refl
name_plain (Opened l k) = refl
name_plain (Gave l n) = refl
name_plain (Recalled l) = refl
name_plain (Cleared l) = refl
name_plain (Control c f) = refl
name_plain (Settled t1 r1 t2 r2) = refl

-- a plain word before plain words
onto : (w : List ℕ) (ws : List (List ℕ)) → is_plain w ≡ true → are_plain ws ≡ true → are_plain (w ∷ ws) ≡ true
onto w ws h k = and_from (is_plain w) (are_plain ws) h k

fields_plain : (fields : List Field) (ws : List (List ℕ)) → AllByRecursion IsOfItsType fields → are_plain ws ≡ true → are_plain (map spelled fields ++ ws) ≡ true
fields_plain [] ws fits p = p
fields_plain (field ∷ fields) ws fits p = onto (spelled field) (map spelled fields ++ ws) (field_plain field fits.0) (fields_plain fields ws fits.1 p)

bytes_plain : (bytes : List ℕ) → AreBytes bytes → are_plain (bytes_words bytes) ≡ true
bytes_plain [] h = refl
bytes_plain (b ∷ bytes) h = onto (encode_lower (b ∷ bytes)) [] (hex_plain (b ∷ bytes) h) refl

-- ENTRIES

abbrev pub all_words : Entry → List (List ℕ)
all_words (line, bytes) = words_of line ++ bytes_words bytes

pub entry_plain : (e : Entry) → IsEntry e → are_plain (all_words e) ≡ true
entry_plain (line, bytes) is = fields_plain (row line).fields (bytes_words bytes) is.0 (bytes_plain bytes is.3)

pub shape : (e : Entry) (x : List ℕ) → entry_text e ++ x ≡ name_of e.0 ++ tail_of (all_words e) x
unfolding entry_text
shape (line, bytes) x =
    let n = name_of line in
    let a = spaced (words_of line) in
    let b = spaced (bytes_words bytes) in
    append_assoc (n ++ a ++ b) (10 ∷ []) x ∙ append_assoc (n ++ a) b (10 ∷ x) ∙ append_assoc n a (b ++ 10 ∷ x)
    ∙ ap (λ t. n ++ t) (sym (append_assoc a b (10 ∷ x))) ∙ ap (λ t. n ++ (t ++ 10 ∷ x)) (sym (spaced_append (words_of line) (bytes_words bytes)))
