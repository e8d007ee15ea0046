-- A trace line after line: what has been read, and the first line that is outside.
use Rattle.std.proofs.Common.{ℕ, ◌+◌, ◌<◌, ◌≡◌, ◌≢◌, true, false, List, [], ◌∷◌, ◌++◌, length, codes, Some, None, ◌⊎◌, inl, inr, refl, sym, ap, ◌∙◌, subst, arith, append_assoc, append-nil, length-append}
use Rattle.std.specs.List.{flat_map}
use Rattle.std.specs.Str.{bytes_eq}
use Rattle.std.proofs.lemmas.Slice.Eq.{bytes_eq-Decides}
use Rattle.std.proofs.lemmas.List.{nil_from_length}
use Rattle.un_facts.proofs.Lists.{same_bytes}
use Rattle.un_journal.specs.History.{Entry, History}
use Rattle.un_journal.specs.declared.journal.Stored.{Stored}
use Rattle.un_journal.specs.Log.{IsEntry, AreEntries, entries_of}
use Rattle.un_journal.specs.Text.{entry_text, trace}
use Rattle.un_journal.specs.TraceLines.{entry_in}
use Rattle.un_journal.specs.TraceRead.{BeginsTrace, AreWholeLines, IsFirstBad}
use Rattle.un_text.specs.Words.{feeds}
use Rattle.un_journal.proofs.StoredEntries.{are_more}
use Rattle.un_journal.proofs.Text.EntriesRead.{line_text_of, entry_sound, entry_complete, feeds_append, line_feeds, entry_line, history_feeds, cut_feed}
use Rattle.un_journal.proofs.Text.OneText.{entries, ends_alone, body, cancel}

-- the lines of some entries, and what is before them
abbrev pub front : History → List ℕ
front h = codes "trace\n" ++ flat_map entry_text h

trace_front : (h : History) → trace h ≡ front h ++ codes "end\n"
unfolding trace
trace_front h = refl

front_feeds : (h : History) → AreEntries h → feeds (front h) ≡ length h + 1
front_feeds h a = feeds_append (codes "trace\n") (flat_map entry_text h) ∙ (let k = history_feeds h a in omega (arith, k))

whole_append : (x y : List ℕ) → AreWholeLines x → AreWholeLines y → AreWholeLines (x ++ y)
whole_append x y u (inl none) = rw (none, append-nil x) u
whole_append x y u (inr (f, e)) = inr (x ++ f, ap (λ t. x ++ t) e ∙ sym (append_assoc x f (10 ∷ [])))

entries_whole : (h : History) → AreWholeLines (flat_map entry_text h)
entries_whole [] = inl refl
entries_whole (e ∷ h) = whole_append (entry_text e) (flat_map entry_text h) (inr (line_text_of e, sym (append-nil (entry_text e)) ∙ entry_line e [])) (entries_whole h)

front_whole : (h : History) → AreWholeLines (front h)
front_whole h = whole_append (codes "trace\n") (flat_map entry_text h) (inr (codes "trace", refl)) (entries_whole h)

-- WHAT FOLLOWS SOME ENTRIES

-- the entries that come after these, and the line "end"
abbrev After : List ℕ → Type 0
After rest = (k : History) × AreEntries k × (body k ≡ rest)

after : (g h : History) (rest : List ℕ) → AreEntries g → AreEntries h → body h ≡ flat_map entry_text g ++ rest → After rest
after [] h rest a b e = (h, b, e)
after (f ∷ g) [] rest a b e = absurd (ends_alone f (flat_map entry_text g ++ rest) a.0 (e ∙ append_assoc (entry_text f) (flat_map entry_text g) rest))
after (f ∷ g) (k ∷ h) rest a b e =
    let m = entries f k (flat_map entry_text g ++ rest) (body h) a.0 b.0
    (sym (append_assoc (entry_text f) (flat_map entry_text g) rest) ∙ sym e ∙ append_assoc (entry_text k) (flat_map entry_text h) (codes "end\n")) in
    after g h rest a.1 b.1 (sym m.1)

trace_after : (g h : History) (rest : List ℕ) → AreEntries g → AreEntries h → trace h ≡ front g ++ rest → After rest
unfolding trace
trace_after g h rest a b e =
    after g h rest a b (cancel (codes "trace\n") (body h) (flat_map entry_text g ++ rest)
    (sym (append_assoc (codes "trace\n") (flat_map entry_text h) (codes "end\n")) ∙ e ∙ append_assoc (codes "trace\n") (flat_map entry_text g) rest))

-- the next line of a history: the line "end" and nothing more, or an entry's
abbrev Next : List ℕ → List ℕ → Type 0
Next line more = ((line ≡ codes "end") × (more ≡ [])) ⊎ ((e : Entry) × (entry_in line ≡ Some e))

next_line : (k : History) (line more : List ℕ) → AreEntries k → feeds line ≡ 0 → body k ≡ line ++ 10 ∷ more → Next line more
next_line [] line more a none e = let c = cut_feed (codes "end") line [] more refl none e in inl (sym c.0, sym c.1)
next_line (f ∷ k) line more a none e =
    let c = cut_feed (line_text_of f) line (body k) more (line_feeds f a.0) none
    (sym (entry_line f (body k)) ∙ sym (append_assoc (entry_text f) (flat_map entry_text k) (codes "end\n")) ∙ e) in
    inr (f, entry_complete f line a.0 c.0)

-- a history's rest has a line feed
body_feeds : (k : History) → feeds (body k) ≡ 0 → ⊥
body_feeds k none = let s = feeds_append (flat_map entry_text k) (codes "end\n") in omega (arith, s, none)

-- THE FIRST LINE OUTSIDE

-- no line "trace"
abbrev NoHead : List ℕ → Type 0
NoHead text = (x : List ℕ) → text ≡ codes "trace" ++ 10 ∷ x → ⊥

headed : (h : History) → trace h ≡ codes "trace" ++ 10 ∷ body h
unfolding trace
headed h = append_assoc (codes "trace\n") (flat_map entry_text h) (codes "end\n")

pub bad_first : (text : List ℕ) → NoHead text → IsFirstBad text 1
bad_first text headless = record {
  before = [];
  rest = text;
  parts = refl;
  is_whole = inl refl;
  number = refl;
  begins = ([], trace [], tt, refl);
  stops = λ next after none e b.
      let c = cut_feed (codes "trace") next (body b.0) b.1 refl none (sym (headed b.0) ∙ b.3 ∙ append_assoc next (10 ∷ []) b.1) in
      headless after (e ∙ ap (λ t. t ++ 10 ∷ after) (sym c.0));
  is_other = λ t. headless (body t.0) (sym t.2 ∙ headed t.0);
}

-- text that goes on behind some entries
abbrev pub Behind : List ℕ → History → List ℕ → Type 0
Behind text h rest = AreEntries h × (text ≡ front h ++ rest)

begun : (h : History) → AreEntries h → BeginsTrace (front h)
begun h a = (h, codes "end\n", a, trace_front h)

-- what a history that has the next line too goes on with
beyond : (h : History) (next : List ℕ) → AreEntries h → BeginsTrace (front h ++ next) → (tail : List ℕ) × After (next ++ tail)
beyond h next a b = (b.1, trace_after h b.0 (next ++ b.1) a b.2 (b.3 ∙ append_assoc (front h) next b.1))

pub bad_rest : (text : List ℕ) (h : History) (rest : List ℕ) → Behind text h rest → feeds rest ≡ 0 → IsFirstBad text (length h + 2)
bad_rest text h rest b none = record {
  before = front h;
  rest = rest;
  parts = b.1;
  is_whole = front_whole h;
  number = let k = front_feeds h b.0 in omega (arith, k);
  begins = begun h b.0;
  stops = λ next after no e more.
      let s = ap feeds e ∙ feeds_append next (10 ∷ after) in
      let t = feeds_append (10 ∷ []) after in
      absurd (omega (arith, s, t, none));
  is_other = λ t.
      let k = trace_after h t.0 rest b.0 t.1 (t.2 ∙ b.1) in
      body_feeds k.0 (ap feeds k.2 ∙ none);
}

not_next : (line more : List ℕ) → line ≢ codes "end" → entry_in line ≡ None → Next line more → ⊥
not_next line more other none (inl end) = other end.0
not_next line more other none (inr entry) = let clash : None ≡ Some entry.0 = sym none ∙ entry.1 in absurd (cc)

pub bad_line : (text : List ℕ) (h : History) (line more : List ℕ) → Behind text h (line ++ 10 ∷ more) → feeds line ≡ 0 → line ≢ codes "end" → entry_in line ≡ None → IsFirstBad text (length h + 2)
bad_line text h line more b none other outside = record {
  before = front h;
  rest = line ++ 10 ∷ more;
  parts = b.1;
  is_whole = front_whole h;
  number = let k = front_feeds h b.0 in omega (arith, k);
  begins = begun h b.0;
  stops = λ next after none' e begins.
      let same = cut_feed line next more after none none' e in
      let k = beyond h (next ++ 10 ∷ []) b.0 (subst BeginsTrace (append_assoc (front h) next (10 ∷ [])) begins) in
      not_next line k.0 other outside (next_line k.1.0 line k.0 k.1.1 none (k.1.2 ∙ append_assoc next (10 ∷ []) k.0 ∙ ap (λ t. t ++ 10 ∷ k.0) (sym same.0)));
  is_other = λ t.
      let k = trace_after h t.0 (line ++ 10 ∷ more) b.0 t.1 (t.2 ∙ b.1) in
      not_next line more other outside (next_line k.0 line more k.1 none k.2);
}

-- a whole trace
pub whole_trace : (text : List ℕ) (h : History) → Behind text h (codes "end\n") → trace h ≡ text
whole_trace text h b = trace_front h ∙ sym b.1

-- nothing follows the line "end"
ended : (more : List ℕ) → After (codes "end" ++ 10 ∷ more) → more ≡ []
ended more k = pick (next_line k.0 (codes "end") more k.1 refl k.2)
  where
    pick : Next (codes "end") more → more ≡ []
    pick (inl end) = end.1
    pick (inr entry) = absurd (no_entry entry.0 (entry_sound (codes "end") entry.0 entry.1))
      where
        no_entry : (e : Entry) → IsEntry e × (line_text_of e ≡ codes "end") → ⊥
        no_entry e r = ends_alone e [] r.0 (sym (ap (λ t. t ++ 10 ∷ []) r.1) ∙ sym (entry_line e []))

pub bad_after : (text : List ℕ) (h : History) (more : List ℕ) → Behind text h (codes "end" ++ 10 ∷ more) → more ≢ [] → IsFirstBad text (length h + 3)
bad_after text h more b some = record {
  before = trace h;
  rest = more;
  parts = b.1 ∙ sym (append_assoc (front h) (codes "end\n") more) ∙ ap (λ t. t ++ more) (sym (trace_front h));
  is_whole = rw (trace_front h) (whole_append (front h) (codes "end\n") (front_whole h) (inr (codes "end", refl)));
  number = let k = front_feeds h b.0 in let m = ap feeds (trace_front h) ∙ feeds_append (front h) (codes "end\n") in omega (arith, k, m);
  begins = (h, [], b.0, sym (append-nil (trace h)));
  stops = λ next after none e begins.
      let lines : trace begins.0 ≡ front h ++ (codes "end" ++ 10 ∷ (next ++ 10 ∷ begins.1)) =
      begins.3 ∙ ap (λ t. (t ++ next ++ 10 ∷ []) ++ begins.1) (trace_front h) ∙ simp append_assoc in
      let k = trace_after h begins.0 (codes "end" ++ 10 ∷ (next ++ 10 ∷ begins.1)) b.0 begins.2 lines in
      let none' = ap length (ended (next ++ 10 ∷ begins.1) k) ∙ refl in
      let long = length-append next (10 ∷ begins.1) in
      absurd (omega (arith, none', long));
  is_other = λ t.
      let k = trace_after h t.0 (codes "end" ++ 10 ∷ more) b.0 t.1 (t.2 ∙ b.1) in
      some (ended more k);
}

flat_more : (h : History) (e : Entry) → flat_map entry_text (h ++ e ∷ []) ≡ flat_map entry_text h ++ entry_text e
flat_more [] e = append-nil (entry_text e)
flat_more (x ∷ h) e = ap (λ t. entry_text x ++ t) (flat_more h e) ∙ sym (append_assoc (entry_text x) (flat_map entry_text h) (entry_text e))

-- one line more
pub behind_more : (text : List ℕ) (h g : History) (line more : List ℕ) (e : Entry) → Behind text h (line ++ 10 ∷ more) → entry_in line ≡ Some e → g ≡ h ++ e ∷ [] → Behind text g more
behind_more text h g line more e b read grown =
    let r = entry_sound line e read in
    let next : entry_text e ++ more ≡ line ++ 10 ∷ more = entry_line e more ∙ ap (λ t. t ++ 10 ∷ more) r.1 in
    let lines : front (h ++ e ∷ []) ++ more ≡ front h ++ (line ++ 10 ∷ more) =
    ap (λ t. (codes "trace\n" ++ t) ++ more) (flat_more h e) ∙ ap (λ t. t ++ more) (sym (append_assoc (codes "trace\n") (flat_map entry_text h) (entry_text e)))
    ∙ append_assoc (front h) (entry_text e) more ∙ ap (λ t. front h ++ t) next in
    rw grown (are_more h e b.0 r.0, b.1 ∙ sym lines)

pub behind_none : (text more : List ℕ) → text ≡ codes "trace" ++ 10 ∷ more → Behind text [] more
behind_none text more e = (tt, e ∙ ap (λ t. t ++ more) (sym (append-nil (codes "trace\n"))))

-- AS THE CODE SAYS IT

pub no_head : (text : List ℕ) → feeds text ≡ 0 → NoHead text
no_head text none x e = let s = ap feeds e ∙ feeds_append (codes "trace\n") x in omega (arith, s, none)

not_same : (u v : List ℕ) → bytes_eq u v ≡ false → u ≢ v
not_same u v differs e = let same : true ≡ bytes_eq u v = sym ((bytes_eq-Decides u v).1 e) in cc

pub other_head : (text first more : List ℕ) → feeds first ≡ 0 → text ≡ first ++ 10 ∷ more → bytes_eq first (codes "trace") ≡ false → NoHead text
other_head text first more none e differs x f = not_same first (codes "trace") differs (cut_feed first (codes "trace") more x none refl (sym e ∙ f)).0

pub same_head : (text first more : List ℕ) → text ≡ first ++ 10 ∷ more → bytes_eq first (codes "trace") ≡ true → Behind text [] more
same_head text first more e same = behind_none text more (e ∙ ap (λ t. t ++ 10 ∷ more) (same_bytes first (codes "trace") same))

rest_as : (text : List ℕ) (h : History) (rest other : List ℕ) → rest ≡ other → Behind text h rest → Behind text h other
rest_as text h rest other e b = (b.0, b.1 ∙ ap (λ t. front h ++ t) e)

pub done : (text : List ℕ) (h : History) (rest line more : List ℕ) → Behind text h rest → rest ≡ line ++ 10 ∷ more → bytes_eq line (codes "end") ≡ true → length more ≡ 0 → trace h ≡ text
done text h rest line more b e same none =
    whole_trace text h (rest_as text h rest (codes "end\n") (e ∙ ap (λ t. t ++ 10 ∷ more) (same_bytes line (codes "end") same) ∙ ap (λ t. codes "end\n" ++ t) (nil_from_length more none)) b)

pub late : (text : List ℕ) (h : History) (rest line more : List ℕ) → Behind text h rest → rest ≡ line ++ 10 ∷ more → bytes_eq line (codes "end") ≡ true → 0 < length more → IsFirstBad text (length h + 3)
late text h rest line more b e same some =
    bad_after text h more (rest_as text h rest (codes "end" ++ 10 ∷ more) (e ∙ ap (λ t. t ++ 10 ∷ more) (same_bytes line (codes "end") same)) b)
    (λ none. let k : length more ≡ 0 = ap length none in omega (arith, k, some))

pub outside : (text : List ℕ) (h : History) (rest line more : List ℕ) → Behind text h rest → (feeds line ≡ 0) × (rest ≡ line ++ 10 ∷ more) → bytes_eq line (codes "end") ≡ false → entry_in line ≡ None → IsFirstBad text (length h + 2)
outside text h rest line more b e differs none =
    bad_line text h line more (rest_as text h rest (line ++ 10 ∷ more) e.1 b) e.0 (not_same line (codes "end") differs) none

pub grown : (text : List ℕ) (h g : History) (rest line more : List ℕ) (e : Entry) → Behind text h rest → rest ≡ line ++ 10 ∷ more → entry_in line ≡ Some e → g ≡ h ++ e ∷ [] → Behind text g more × (length g ≡ length h + 1)
grown text h g rest line more e b r read same =
    (behind_more text h g line more e (rest_as text h rest (line ++ 10 ∷ more) r b) read same, let k = ap length same ∙ length-append h (e ∷ []) in omega (arith, k))

pub none_of : (kept : List ℕ) (lines : List Stored) → lines ≡ [] → entries_of kept lines ≡ []
unfolding entries_of
none_of kept lines none = rw none refl
