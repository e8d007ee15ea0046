-- The words of each kind of line: what is read is the writer's words of the line, and the writer's words of a line are read as it.
use Rattle.std.proofs.Common.{ℕ, ◌<◌, ◌≡◌, Bool, true, false, ◌==◌, if◌then◌else◌, List, [], ◌∷◌, ◌++◌, length, codes, map, Option, Some, None, refl, sym, ap, ◌∙◌, subst, arith}
use Rattle.std.specs.List.{AllByRecursion}
use Rattle.std.specs.Str.{bytes_eq}
use Rattle.std.proofs.lemmas.Bool.Decides.{nat_tests}
use Rattle.std.proofs.lemmas.List.{nil_from_length}
use Rattle.std.proofs.lemmas.Option.{same_Some}
use Rattle.un_journal.specs.History.{Entry}
use Rattle.un_frame.specs.Spelling.{lane_named}
use Rattle.un_facts.proofs.Lists.{same_bytes}
use Rattle.un_journal.specs.declared.lines.Line.{Line}
use Rattle.un_journal.specs.declared.lines.Line.TheVariants.{Took, Refused, Made, Waited, Posted, Flying, Landed, Failed, Retried, Marked, Cut, Dropped, TxHome, Opened, Gave, Recalled, Cleared, Control, Settled}
use Rattle.un_journal.specs.Lines.{Field, Row, lane, short, long, reason, fault, flag, row, spelled, IsOfItsType}
use Rattle.un_journal.specs.Log.{FitsTypes, HasReason, CarriesItsBytes}
use Rattle.un_journal.specs.Text.{name_of, words_of}
use Rattle.un_text.specs.Words.{words_in, why_in, flag_in, short_in, long_in, kind_named}
use Rattle.un_journal.specs.TraceLines.{◌>>=◌, Parsed, first_read, only_word, no_word, digits_left, one, two, three, four, one_named, two_named, three_named, four_named, or, line_named, with_digits, line_of, line_in}
use Rattle.un_text.proofs.ReadWords.{words_some}
use Rattle.un_text.proofs.ReadFields.{never, lane_sound, lane_back, why_sound, why_back, kind_sound, kind_back, flag_sound, flag_back, short_sound, short_back, long_sound, long_back}

pub heard : (text : List ℕ) (words : List (List ℕ)) → words_in text ≡ words → line_in text ≡ line_of words
unfolding line_in
heard text words e = rw e refl

-- What a type of field reads is spelled as it stands there, and is of that type.
record Reads {A : Type 0} (read : List ℕ → Option A) (field : A → Field) : Type 0 where
  says : (w : List ℕ) (x : A) → read w ≡ Some x → (spelled (field x) ≡ w) × IsOfItsType (field x)

lanes : Reads lane_named lane
lanes = record { says = λ w x h. (lane_sound w x h, tt) }

shorts : Reads short_in short
shorts = record { says = short_sound }

longs : Reads long_in long
longs = record { says = long_sound }

reasons : Reads why_in reason
reasons = record { says = λ w x h. ((why_sound w x h).0, tt) }

faults : Reads kind_named fault
faults = record { says = λ w x h. (kind_sound w x h, tt) }

flags : Reads flag_in flag
flags = record { says = λ w x h. (flag_sound w x h, tt) }

-- what a line that is read has: its name and words, before those that are left, and what each entry has
abbrev Says : List ℕ → List (List ℕ) → Parsed → Type 0
Says name words found = (name_of found.0 ≡ name) × (words ≡ words_of found.0 ++ found.1) × FitsTypes found.0 × HasReason found.0

-- what passes a test goes on
pub through : {A B : Type 0} (P : Type 0) (r : Option A) (f : A → Option B) (b : B) → ((a : A) → r ≡ Some a → f a ≡ Some b → P) → (r >>= f) ≡ Some b → P
through P (Some a) f b step h = step a refl h
through P None f b step h = absurd (cc)

-- a choice that gave something
chosen : {B : Type 0} (P : Type 0) (c : Bool) (x y : Option B) (b : B) → (c ≡ true → x ≡ Some b → P) → (y ≡ Some b → P) → (if c then x else y) ≡ Some b → P
chosen P true x y b here there h = here refl h
chosen P false x y b here there h = there h

-- LINES OF SO MANY FIELDS

-- fields that spell the first of these words, each of its type, and the words behind them
record Spell (fields : List Field) (words rest : List (List ℕ)) : Type 0 where
  same : words ≡ map spelled fields ++ rest
  fit : AllByRecursion IsOfItsType fields

nothing : (rest : List (List ℕ)) → Spell [] rest rest
nothing rest = record { same = refl; fit = tt }

spell : {A : Type 0} {read : List ℕ → Option A} {field : A → Field} → Reads read field → (words : List (List ℕ)) (x : A × List (List ℕ)) → first_read read words ≡ Some x → {fields : List Field} {rest : List (List ℕ)} → Spell fields x.1 rest → Spell (field x.0 ∷ fields) words rest
spell {A} {read} {field} r [] x h {fields} {rest} s = absurd (cc)
spell {A} {read} {field} r (w ∷ ws) x h {fields} {rest} s =
    through (Spell (field x.0 ∷ fields) (w ∷ ws) rest) (read w) _ x (λ y e same.
    subst (λ (z : A × List (List ℕ)). Spell fields z.1 rest → Spell (field z.0 ∷ fields) (w ∷ ws) rest) (same_Some (y, ws) x same) (λ t.
    let m = r.says w y e in record { same = ap (λ v. v ∷ ws) (sym m.0) ∙ ap (λ vs. spelled (field y) ∷ vs) t.same; fit = (m.1, t.fit) }) s) h

-- the word that was read
word_read : {A : Type 0} (read : List ℕ → Option A) (words : List (List ℕ)) (x : A × List (List ℕ)) → first_read read words ≡ Some x → (w : List ℕ) × (read w ≡ Some x.0)
word_read {A} read [] x h = absurd (cc)
word_read {A} read (w ∷ ws) x h =
    through ((v : List ℕ) × (read v ≡ Some x.0)) (read w) _ x (λ y e same. (w, e ∙ ap (λ (z : A × List (List ℕ)). Some z.0) (same_Some (y, ws) x same))) h

-- the row of a line: its name, and these fields
abbrev HasRow : Line → List ℕ → List Field → Type 0
HasRow line name fields = row line ≡ record { name = name; fields = fields }

says : (line : Line) (name : List ℕ) (words rest : List (List ℕ)) (fields : List Field) → HasRow line name fields → Spell fields words rest → HasReason line → Says name words (line, rest)
says line name words rest fields e s more =
    (ap (λ (r : Row). r.name) e, s.same ∙ ap (λ (r : Row). map spelled r.fields ++ rest) (sym e), subst (λ (r : Row). AllByRecursion IsOfItsType r.fields) (sym e) s.fit, more)

one_says : {A : Type 0} {r : List ℕ → Option A} {f : A → Field} → Reads r f → (make : A → Line) (name : List ℕ) (words : List (List ℕ)) (found : Parsed)
    → ((x : A) → HasRow (make x) name (f x ∷ [])) → ((x : A) → HasReason (make x)) → one r make words ≡ Some found → Says name words found
one_says {A} {r} {f} fr make name words found is more h =
    through (Says name words found) (first_read r words) _ found (λ x xe xh.
    subst (Says name words) (same_Some (make x.0, x.1) found xh) (says (make x.0) name words x.1 (f x.0 ∷ []) (is x.0) (spell fr words x xe (nothing x.1)) (more x.0))) h

two_says : {A B : Type 0} {r : List ℕ → Option A} {s : List ℕ → Option B} {f : A → Field} {g : B → Field} → Reads r f → Reads s g → (make : A → B → Line) (name : List ℕ) (words : List (List ℕ)) (found : Parsed)
    → ((x : A) (y : B) → HasRow (make x y) name (f x ∷ g y ∷ [])) → ((x : A) (y : B) → HasReason (make x y)) → two r s make words ≡ Some found → Says name words found
two_says {A} {B} {r} {s} {f} {g} fr gs make name words found is more h =
    through (Says name words found) (first_read r words) _ found (λ x xe xh.
    through (Says name words found) (first_read s x.1) _ found (λ y ye yh.
    subst (Says name words) (same_Some (make x.0 y.0, y.1) found yh) (says (make x.0 y.0) name words y.1 (f x.0 ∷ g y.0 ∷ []) (is x.0 y.0) (spell fr words x xe (spell gs x.1 y ye (nothing y.1))) (more x.0 y.0))) xh) h

three_says : {A B C : Type 0} {r : List ℕ → Option A} {s : List ℕ → Option B} {t : List ℕ → Option C} {f : A → Field} {g : B → Field} {i : C → Field} → Reads r f → Reads s g → Reads t i → (make : A → B → C → Line) (name : List ℕ) (words : List (List ℕ)) (found : Parsed)
    → ((x : A) (y : B) (z : C) → HasRow (make x y z) name (f x ∷ g y ∷ i z ∷ [])) → ((x : A) (y : B) (z : C) (w : List ℕ) → t w ≡ Some z → HasReason (make x y z)) → three r s t make words ≡ Some found → Says name words found
three_says {A} {B} {C} {r} {s} {t} {f} {g} {i} fr gs it make name words found is more h =
    through (Says name words found) (first_read r words) _ found (λ x xe xh.
    through (Says name words found) (first_read s x.1) _ found (λ y ye yh.
    through (Says name words found) (first_read t y.1) _ found (λ z ze zh.
    subst (Says name words) (same_Some (make x.0 y.0 z.0, z.1) found zh) (says (make x.0 y.0 z.0) name words z.1 (f x.0 ∷ g y.0 ∷ i z.0 ∷ []) (is x.0 y.0 z.0) (spell fr words x xe (spell gs x.1 y ye (spell it y.1 z ze (nothing z.1)))) (let word = word_read t y.1 z ze in more x.0 y.0 z.0 word.0 word.1))) yh) xh) h

four_says : {A B C D : Type 0} {r : List ℕ → Option A} {s : List ℕ → Option B} {t : List ℕ → Option C} {u : List ℕ → Option D} {f : A → Field} {g : B → Field} {i : C → Field} {j : D → Field} → Reads r f → Reads s g → Reads t i → Reads u j → (make : A → B → C → D → Line) (name : List ℕ) (words : List (List ℕ)) (found : Parsed)
    → ((x : A) (y : B) (z : C) (v : D) → HasRow (make x y z v) name (f x ∷ g y ∷ i z ∷ j v ∷ [])) → ((x : A) (y : B) (z : C) (v : D) → HasReason (make x y z v)) → four r s t u make words ≡ Some found → Says name words found
four_says {A} {B} {C} {D} {r} {s} {t} {u} {f} {g} {i} {j} fr gs it ju make name words found is more h =
    through (Says name words found) (first_read r words) _ found (λ x xe xh.
    through (Says name words found) (first_read s x.1) _ found (λ y ye yh.
    through (Says name words found) (first_read t y.1) _ found (λ z ze zh.
    through (Says name words found) (first_read u z.1) _ found (λ v ve vh.
    subst (Says name words) (same_Some (make x.0 y.0 z.0 v.0, v.1) found vh) (says (make x.0 y.0 z.0 v.0) name words v.1 (f x.0 ∷ g y.0 ∷ i z.0 ∷ j v.0 ∷ []) (is x.0 y.0 z.0 v.0) (spell fr words x xe (spell gs x.1 y ye (spell it y.1 z ze (spell ju z.1 v ve (nothing v.1))))) (more x.0 y.0 z.0 v.0))) zh) yh) xh) h

-- a line of this name, or another
named : (name word : List ℕ) (words : List (List ℕ)) (found : Parsed) (here there : Option Parsed) → (here ≡ Some found → Says word words found) → (there ≡ Some found → Says name words found)
    → (if bytes_eq name word then here else there) ≡ Some found → Says name words found
named name word words found here there is other h =
    chosen (Says name words found) (bytes_eq name word) here there found (λ e k. let s = is k in (s.0 ∙ sym (same_bytes name word e), s.1, s.2, s.3)) other h

-- THE TABLE

one_sound : (name : List ℕ) (words : List (List ℕ)) (found : Parsed) → one_named name words ≡ Some found → Says name words found
one_sound name words found h =
    named name (codes "waited") words found _ _ (one_says lanes Waited (codes "waited") words found (λ x. refl) (λ x. tt))
    (named name (codes "posted") words found _ _ (one_says lanes Posted (codes "posted") words found (λ x. refl) (λ x. tt))
    (named name (codes "recalled") words found _ _ (one_says lanes Recalled (codes "recalled") words found (λ x. refl) (λ x. tt))
    (named name (codes "cleared") words found _ None (one_says lanes Cleared (codes "cleared") words found (λ x. refl) (λ x. tt))
    (never (Says name words found) found)))) h

two_sound : (name : List ℕ) (words : List (List ℕ)) (found : Parsed) → two_named name words ≡ Some found → Says name words found
two_sound name words found h =
    named name (codes "took") words found _ _ (two_says lanes shorts Took (codes "took") words found (λ x y. refl) (λ x y. tt))
    (named name (codes "flying") words found _ _ (two_says lanes longs Flying (codes "flying") words found (λ x y. refl) (λ x y. tt))
    (named name (codes "landed") words found _ _ (two_says lanes longs Landed (codes "landed") words found (λ x y. refl) (λ x y. tt))
    (named name (codes "txhome") words found _ _ (two_says lanes longs TxHome (codes "txhome") words found (λ x y. refl) (λ x y. tt))
    (named name (codes "opened") words found _ _ (two_says lanes longs Opened (codes "opened") words found (λ x y. refl) (λ x y. tt))
    (named name (codes "gave") words found _ _ (two_says lanes longs Gave (codes "gave") words found (λ x y. refl) (λ x y. tt))
    (named name (codes "did") words found _ None (two_says shorts flags Control (codes "did") words found (λ x y. refl) (λ x y. tt))
    (never (Says name words found) found))))))) h

three_sound : (name : List ℕ) (words : List (List ℕ)) (found : Parsed) → three_named name words ≡ Some found → Says name words found
three_sound name words found h =
    named name (codes "refused") words found _ _ (three_says lanes shorts reasons Refused (codes "refused") words found (λ x y z. refl) (λ x y z w e. (why_sound w z e).1))
    (named name (codes "failed") words found _ _ (three_says lanes longs faults Failed (codes "failed") words found (λ x y z. refl) (λ x y z w e. tt))
    (named name (codes "retried") words found _ _ (three_says lanes longs shorts Retried (codes "retried") words found (λ x y z. refl) (λ x y z w e. tt))
    (named name (codes "marked") words found _ _ (three_says lanes longs shorts Marked (codes "marked") words found (λ x y z. refl) (λ x y z w e. tt))
    (named name (codes "cut") words found _ None (three_says lanes longs shorts Cut (codes "cut") words found (λ x y z. refl) (λ x y z w e. tt))
    (never (Says name words found) found))))) h

four_sound : (name : List ℕ) (words : List (List ℕ)) (found : Parsed) → four_named name words ≡ Some found → Says name words found
four_sound name words found h =
    named name (codes "made") words found _ _ (four_says lanes longs longs longs Made (codes "made") words found (λ x y z v. refl) (λ x y z v. tt))
    (named name (codes "dropped") words found _ _ (four_says lanes longs longs shorts Dropped (codes "dropped") words found (λ x y z v. refl) (λ x y z v. tt))
    (named name (codes "settled") words found _ None (four_says shorts shorts shorts shorts Settled (codes "settled") words found (λ x y z v. refl) (λ x y z v. tt))
    (never (Says name words found) found))) h

either : (P : Type 0) (here there : Option Parsed) (found : Parsed) → (here ≡ Some found → P) → (there ≡ Some found → P) → or here there ≡ Some found → P
either P (Some x) there found first second h = first h
either P None there found first second h = second h

named_sound : (name : List ℕ) (words : List (List ℕ)) (found : Parsed) → line_named name words ≡ Some found → Says name words found
named_sound name words found h =
    let P : Type 0 = Says name words found in
    either P (one_named name words) _ found (one_sound name words found)
    (either P (two_named name words) _ found (two_sound name words found)
    (either P (three_named name words) (four_named name words) found (three_sound name words found) (four_sound name words found))) h

-- the words of a line's digits, where it carries some
abbrev pub digit_words : List ℕ → List (List ℕ)
digit_words [] = []
digit_words (d ∷ ds) = (d ∷ ds) ∷ []

-- some digits aren't none
some_length : (d : ℕ) (ds : List ℕ) → (length (d ∷ ds) == 0) ≡ false
some_length d ds = grind (arith, nat_tests)

-- a line has a word, so none is no word, and two are not the only one
pub some_left : (text : List ℕ) → no_word (words_in text) ≡ None
some_left text = let some = words_some text in rw some.2 refl

pub more_left : (digits text : List ℕ) → only_word (digits ∷ words_in text) ≡ None
more_left digits text = let some = words_some text in rw some.2 refl

only_sound : (rest : List (List ℕ)) (ds : List ℕ) → only_word rest ≡ Some ds → (rest ≡ digit_words ds) × (0 < length ds)
only_sound [] ds h = absurd (cc)
only_sound ([] ∷ []) ds h = absurd (cc)
only_sound ((d ∷ ds) ∷ []) es h = rw (← same_Some (d ∷ ds) es (rw (some_length d ds) at h)) (refl, omega arith)
only_sound (w ∷ v ∷ ws) ds h = absurd (cc)

none_sound : (rest : List (List ℕ)) (ds : List ℕ) → no_word rest ≡ Some ds → (rest ≡ digit_words ds) × (length ds ≡ 0)
none_sound [] ds h = rw (← same_Some [] ds h) (refl, refl)
none_sound (w ∷ ws) ds h = absurd (cc)

digits_sound : (line : Line) (rest : List (List ℕ)) (ds : List ℕ) → digits_left line rest ≡ Some ds → (rest ≡ digit_words ds) × CarriesItsBytes line ds
digits_sound (Made l k a b) rest ds h = only_sound rest ds h
digits_sound (Gave l n) rest ds h = only_sound rest ds h
digits_sound line rest ds h = none_sound rest ds h

-- all words of a line that is read
abbrev pub SpellsAs : List (List ℕ) → Entry → Type 0
SpellsAs words (line, digits) = (words ≡ name_of line ∷ (words_of line ++ digit_words digits)) × FitsTypes line × HasReason line × CarriesItsBytes line digits

pub line_sound : (words : List (List ℕ)) (e : Entry) → line_of words ≡ Some e → SpellsAs words e
line_sound [] e h = absurd (cc)
line_sound (name ∷ words) e h =
    through (SpellsAs (name ∷ words) e) (line_named name words) with_digits e (λ found fe fh.
    through (SpellsAs (name ∷ words) e) (digits_left found.0 found.1) _ e (λ ds de same.
    let s = named_sound name words found fe in
    let r = digits_sound found.0 found.1 ds de in
    let all : SpellsAs (name ∷ words) (found.0, ds) =
    (ap (λ n. n ∷ words) (sym s.0) ∙ ap (λ ws. name_of found.0 ∷ ws) (s.1 ∙ ap (λ ws. words_of found.0 ++ ws) r.0), s.2, s.3, r.1) in
    subst (SpellsAs (name ∷ words)) (same_Some (found.0, ds) e same) all) fh) h

-- WHAT IS WRITTEN

pub line_back : (line : Line) (ds : List ℕ) → FitsTypes line → HasReason line → CarriesItsBytes line ds → line_of (name_of line ∷ (words_of line ++ digit_words ds)) ≡ Some (line, ds)
line_back (Took l s) ds fits refuses carried = rw (nil_from_length ds carried, lane_back l, short_back s fits.1.0) refl
line_back (Refused l s why) ds fits refuses carried = rw (nil_from_length ds carried, lane_back l, short_back s fits.1.0, why_back why refuses) refl
line_back (Made l k a b) (d ∷ ds) fits refuses carried = rw (lane_back l, long_back k fits.1.0, long_back a fits.1.1.0, long_back b fits.1.1.1.0, some_length d ds) refl
line_back (Made l k a b) [] fits refuses carried = absurd (omega (arith, carried))
line_back (Waited l) ds fits refuses carried = rw (nil_from_length ds carried, lane_back l) refl
line_back (Posted l) ds fits refuses carried = rw (nil_from_length ds carried, lane_back l) refl
line_back (Flying l k) ds fits refuses carried = rw (nil_from_length ds carried, lane_back l, long_back k fits.1.0) refl
line_back (Landed l k) ds fits refuses carried = rw (nil_from_length ds carried, lane_back l, long_back k fits.1.0) refl
line_back (Failed l k kind) ds fits refuses carried = rw (nil_from_length ds carried, lane_back l, long_back k fits.1.0, kind_back kind) refl
line_back (Retried l k n) ds fits refuses carried = rw (nil_from_length ds carried, lane_back l, long_back k fits.1.0, short_back n fits.1.1.0) refl
line_back (Marked l k c) ds fits refuses carried = rw (nil_from_length ds carried, lane_back l, long_back k fits.1.0, short_back c fits.1.1.0) refl
line_back (Cut l k c) ds fits refuses carried = rw (nil_from_length ds carried, lane_back l, long_back k fits.1.0, short_back c fits.1.1.0) refl
line_back (Dropped l a b c) ds fits refuses carried = rw (nil_from_length ds carried, lane_back l, long_back a fits.1.0, long_back b fits.1.1.0, short_back c fits.1.1.1.0) refl
line_back (TxHome l k) ds fits refuses carried = rw (nil_from_length ds carried, lane_back l, long_back k fits.1.0) refl
line_back (Opened l k) ds fits refuses carried = rw (nil_from_length ds carried, lane_back l, long_back k fits.1.0) refl
line_back (Gave l n) (d ∷ ds) fits refuses carried = rw (lane_back l, long_back n fits.1.0, some_length d ds) refl
line_back (Gave l n) [] fits refuses carried = absurd (omega (arith, carried))
line_back (Recalled l) ds fits refuses carried = rw (nil_from_length ds carried, lane_back l) refl
line_back (Cleared l) ds fits refuses carried = rw (nil_from_length ds carried, lane_back l) refl
line_back (Control c f) ds fits refuses carried = rw (nil_from_length ds carried, short_back c fits.0, flag_back f) refl
line_back (Settled t1 r1 t2 r2) ds fits refuses carried = rw (nil_from_length ds carried, short_back t1 fits.0, short_back r1 fits.1.0, short_back t2 fits.1.1.0, short_back r2 fits.1.1.1.0) refl
