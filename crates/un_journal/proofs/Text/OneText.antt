-- No two entries and no two histories have one text: what a text is read as is one entry.
use Rattle.std.proofs.Common.{ℕ, ◌≡◌, List, [], ◌∷◌, ◌++◌, codes, Some, refl, sym, ap, ◌∙◌, append_assoc}
use Rattle.std.specs.List.{flat_map}
use Rattle.std.proofs.lemmas.Option.{same_Some}
use Rattle.un_text.specs.Words.{words_in}
use Rattle.un_journal.specs.History.{Entry, History}
use Rattle.un_journal.specs.Log.{IsEntry, AreEntries}
use Rattle.un_journal.specs.Text.{entry_text, trace}
use Rattle.un_journal.specs.TextLaw.{EntriesAreRead, TracesAreRead, HistoriesAreRead}
use Rattle.un_journal.specs.TraceLines.{line_in, entry_in}
use Rattle.un_journal.proofs.Text.EntriesRead.{line_text_of, entry_complete, line_feeds, entry_line, cut_feed}

pub entries : EntriesAreRead
entries e f x y is it h =
    let m = cut_feed (line_text_of e) (line_text_of f) x y (line_feeds e is) (line_feeds f it) (sym (entry_line e x) ∙ h ∙ entry_line f y) in
    (same_Some e f (sym (entry_complete e (line_text_of e) is refl) ∙ ap entry_in m.0 ∙ entry_complete f (line_text_of f) it refl), m.1)

-- HISTORIES

-- the line "end" begins no entry's text, whatever follows either: as a line it is none
no_end : (f : Entry) → entry_in (codes "end") ≡ Some f → ⊥
unfolding words_in line_in
no_end f e = cc

ends_apart : (f : Entry) (x y : List ℕ) → IsEntry f → codes "end\n" ++ x ≡ entry_text f ++ y → ⊥
ends_apart f x y is h =
    let m = cut_feed (codes "end") (line_text_of f) x y refl (line_feeds f is) (h ∙ entry_line f y) in
    no_end f (entry_complete f (codes "end") is (sym m.0))

pub ends_alone : (f : Entry) (y : List ℕ) → IsEntry f → codes "end\n" ≡ entry_text f ++ y → ⊥
ends_alone f y is h = ends_apart f [] y is h

abbrev pub body : History → List ℕ
body history = flat_map entry_text history ++ codes "end\n"

pub cancel : (p x y : List ℕ) → p ++ x ≡ p ++ y → x ≡ y
cancel [] x y e = e
cancel (c ∷ p) x y e = cancel p x y (let inner : p ++ x ≡ p ++ y = cc in inner)

-- the texts of a history's entries, the line "end", and a further text
abbrev behind : History → List ℕ → List ℕ
behind history x = flat_map entry_text history ++ (codes "end\n" ++ x)

headed : (history : History) (x : List ℕ) → trace history ++ x ≡ codes "trace\n" ++ behind history x
unfolding trace
headed history x =
    let head = codes "trace\n" in
    let lines = flat_map entry_text history in
    append_assoc (head ++ lines) (codes "end\n") x ∙ append_assoc head lines (codes "end\n" ++ x)

parts : (g h : History) (x y : List ℕ) → AreEntries g → AreEntries h → behind g x ≡ behind h y → (g ≡ h) × (x ≡ y)
parts [] [] x y a b e = (refl, cancel (codes "end\n") x y e)
parts [] (f ∷ h) x y a b e = absurd (ends_apart f x (behind h y) b.0 (e ∙ append_assoc (entry_text f) (flat_map entry_text h) (codes "end\n" ++ y)))
parts (f ∷ g) [] x y a b e = absurd (ends_apart f y (behind g x) a.0 (sym e ∙ append_assoc (entry_text f) (flat_map entry_text g) (codes "end\n" ++ x)))
parts (f ∷ g) (k ∷ h) x y a b e =
    let m = entries f k (behind g x) (behind h y) a.0 b.0
    (sym (append_assoc (entry_text f) (flat_map entry_text g) (codes "end\n" ++ x)) ∙ e ∙ append_assoc (entry_text k) (flat_map entry_text h) (codes "end\n" ++ y)) in
    let n = parts g h x y a.1 b.1 m.1 in
    (ap (λ l. l ∷ g) m.0 ∙ ap (λ ls. k ∷ ls) n.0, n.1)

pub traces : TracesAreRead
traces g h x y a b e = parts g h x y a b (cancel (codes "trace\n") (behind g x) (behind h y) (sym (headed g x) ∙ e ∙ headed h y))

pub histories : HistoriesAreRead
histories g h a b e = (traces g h [] [] a b (ap (λ t. t ++ []) e)).0
