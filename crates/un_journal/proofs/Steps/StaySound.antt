-- Every step that fits keeps each lane sound.
use Rattle.std.proofs.Common.{◌≡◌, ℕ, zero, suc, ◌+◌, ◌-◌, ◌<◌, ◌≤◌, Bool, true, false, not, ◌&&◌, ◌||◌, ◌==◌, List, [], ◌∷◌, ◌++◌, length, Option, Some, None, inl, inr, refl, sym, ap, ◌∙◌, subst, arith, if◌then◌else◌, reverse, append_assoc, append-nil, nat_lt, slice_get}
use Rattle.std.proofs.lemmas.Bool.{and_right, false≢true, eqb-false, eq-eqb, ltb-true, ne_eqb}
use Rattle.std.proofs.lemmas.List.{reverse-append, nil_from_length}
use Rattle.un_frame.proofs.LaneLemmas.{same_lane-refl, same_lane-is}
use Rattle.un_facts.proofs.Numbers.{middle_zero}
use Rattle.un_frame.specs.declared.params.Lane.{Lane}
use Rattle.un_frame.specs.declared.params.Lane.TheVariants.{Outward, Inward}
use Rattle.un_frame.specs.declared.kinds.Phase.{Phase}
use Rattle.un_frame.specs.declared.kinds.Phase.TheVariants.{Up, Asleep, Stopping, Leaving, Down, Away}
use Rattle.un_frame.specs.Lanes.{same_lane, packs, frames_fit}
use Rattle.un_frame.specs.Cut.{ends_at_limit}
use Rattle.un_journal.specs.declared.lines.Line.{Line}
use Rattle.un_journal.specs.declared.lines.Line.TheVariants.{Took, Made, Flying, Landed, Failed, Retried, Marked, Cut, Dropped, Recalled, Settled}
use Rattle.un_journal.specs.declared.controls.Control.{Control as Order}
use Rattle.un_journal.specs.declared.controls.Due.{Due}
use Rattle.un_journal.specs.Script.{Script}
use Rattle.un_journal.specs.History.{Entry, History, past, concerns, taken, made, cover, flies, waits, landed, failed, posted, waiting, flying, built, first}
use Rattle.un_journal.specs.Lookup.{phase_of, phase_after, after_order, controls_done, is_asleep, deferred, queued, unmarked, built_frames, span_after_took, after_settled}
use Rattle.un_journal.specs.LaneSteps.{bare}
use Rattle.un_journal.specs.Step.{made_entry, made_if, cut_each, marked_each, recalled_each, dropped_built, order_lines, hinders}
use Rattle.un_journal.specs.Sound.{IsSound, Follows, IsNext, IsNextSpan}
use Rattle.un_journal.specs.Fits.{Act, Fits, takes, refuses, waits_once, closes, begins_flight, cuts_queued, lands, tries_again, fails, cuts_flight, comes_home, opens, gives, posts_one, marks, recalls_one, clears, settles, orders, orders_forced, after_took, Legal, begins, goes_on}
use Rattle.un_journal.proofs.Lanes.GivenOrder.{cover_below}
use Rattle.un_journal.proofs.Lists.NewestFirst.{past_more}
use Rattle.un_journal.proofs.Lists.Passing.{those_rest, those_first}
use Rattle.un_journal.proofs.Lanes.MayFollow.{AllSound, MayFollow, MayFollowAll, add_line, of_lane, next_from, none_flies, queued_waiting, arrived_from, next_number_from}

-- what holds of every legal history
pub record Good (script : Script) (h : History) : Type 0 where
  pub sound : AllSound h
  -- a class without blocks leaves nothing built
  pub whole : (lane : Lane) → packs script.params.class lane ≡ false → cover (past lane h) ≡ taken (past lane h)
  -- asleep, nothing flies outward
  pub grounded : is_asleep (phase_of script h) ≡ true → (j : ℕ) → flies (past Outward h) j ≡ false

-- a line that is no took, flying or control line
abbrev pub is_plain : Entry → Bool
is_plain (Took l s, bytes) = false
is_plain (Flying l k, bytes) = false
is_plain (Line.Control c f, bytes) = false
is_plain (e, bytes) = true

abbrev pub ArePlain : History → Type 0
ArePlain [] = Unit {0}
ArePlain (e ∷ es) = (is_plain e ≡ true) × ArePlain es

-- PLAIN LINES

plain_whole : (e : Entry) (g : History) → is_plain e ≡ true → Follows e g → cover g ≡ taken g → cover (e ∷ g) ≡ taken (e ∷ g)
plain_whole (Made l j a b, bytes) g p f w = absurd (let ac : a ≡ cover g = f.1.begins in let ab : a < b = f.1.is_some in let bt : b ≤ taken g = f.1.is_taken in omega arith)
plain_whole (Dropped l a b c, bytes) g p f w = absurd (let ac : a ≡ cover g = f.begins in let ab : a < b = f.is_some in let bt : b ≤ taken g = f.is_taken in omega arith)
plain_whole (Took l s, bytes) g p f w = absurd (false≢true p)
plain_whole (e, bytes) g p f w = w

whole_if : (b : Bool) (e : Entry) (g : History) → is_plain e ≡ true → (b ≡ true → Follows e g) → cover g ≡ taken g → cover (if b then (e ∷ g) else g) ≡ taken (if b then (e ∷ g) else g)
whole_if true e g p f w = plain_whole e g p (f refl) w
whole_if false e g p f w = w

plain_grounded : (e : Entry) (g : History) → is_plain e ≡ true → (j : ℕ) → flies g j ≡ false → flies (e ∷ g) j ≡ false
plain_grounded (Flying l k, bytes) g p j w = absurd (false≢true p)
plain_grounded (Landed l k, bytes) g p j w = and_right (not (k == j)) (flies g j) w
plain_grounded (Failed l k kind, bytes) g p j w = and_right (not (k == j)) (flies g j) w
plain_grounded (Retried l k n, bytes) g p j w = and_right (not (k == j)) (flies g j) w
plain_grounded (Cut l k c, bytes) g p j w = and_right (not (k == j)) (flies g j) w
plain_grounded (e, bytes) g p j w = w

grounded_if : (b : Bool) (e : Entry) (g : History) → is_plain e ≡ true → (j : ℕ) → flies g j ≡ false → flies (if b then (e ∷ g) else g) j ≡ false
grounded_if true e g p j w = plain_grounded e g p j w
grounded_if false e g p j w = w

asleep_settled : (phase : Phase) → is_asleep (after_settled phase) ≡ true → is_asleep phase ≡ true
asleep_settled Asleep e = refl
asleep_settled Up e = e
asleep_settled Stopping e = e
asleep_settled Leaving e = e
asleep_settled Down e = e
asleep_settled Away e = e

asleep_before : (controls : List Due) (e : Entry) (h : History) → is_plain e ≡ true → is_asleep (phase_after controls (e ∷ h)) ≡ true → is_asleep (phase_after controls h) ≡ true
asleep_before controls (Line.Control c f, bytes) h p a = absurd (false≢true p)
asleep_before controls (Settled t1 r1 t2 r2, bytes) h p a = asleep_settled (phase_after controls h) a
asleep_before controls (e, bytes) h p a = a

pub phase_more : (script : Script) (h : History) (e : Entry) → phase_of script (h ++ e ∷ []) ≡ phase_after script.controls (e ∷ reverse h)
phase_more script h e = rw reverse-append refl

plain_line : (script : Script) (h : History) (e : Entry) → Good script h → is_plain e ≡ true → MayFollow h e → Good script (h ++ e ∷ [])
plain_line script h e good p f = record {
  sound = add_line h e good.sound f;
  whole = λ lane c. rw past_more (whole_if (concerns lane e) e (past lane h) p (f lane) (good.whole lane c));
  grounded = λ a j. rw past_more (grounded_if (concerns Outward e) e (past Outward h) p j
      (good.grounded (asleep_before script.controls e (reverse h) p (sym (ap is_asleep (phase_more script h e)) ∙ a)) j));
}

pub plain_lines : (script : Script) (h lines : History) → Good script h → ArePlain lines → MayFollowAll h lines → Good script (h ++ lines)
plain_lines script h [] good p f = rw append-nil good
plain_lines script h (e ∷ es) good p f =
    subst (Good script) (append_assoc h (e ∷ []) es) (plain_lines script (h ++ e ∷ []) es (plain_line script h e good p.0 f.0) p.1 f.1)

one_line : (script : Script) (h : History) (e : Entry) (lane : Lane) → Good script h → is_plain e ≡ true → ((l : Lane) → concerns l e ≡ same_lane l lane) → Follows e (past lane h) → Good script (h ++ e ∷ [])
one_line script h e lane good p c f = plain_line script h e good p (of_lane h e lane c f)

-- SINGLE ROWS

-- what the first queued is
queued_next : (script : Script) (h : History) (lane : Lane) (k : ℕ) → Good script h → flying (past lane h) ≡ [] → first (queued (phase_of script h) lane (past lane h)) ≡ Some k → IsNext (past lane h) k
queued_next script h lane k good none e = next_from (past lane h) k (good.sound lane) none (queued_waiting (phase_of script h) lane (past lane h) k e)

begin_good : (script : Script) (h : History) (lane : Lane) (k : ℕ) → Good script h → is_asleep (phase_of script h) ≡ false → IsNext (past lane h) k → Good script (h ++ bare (Flying lane k) ∷ [])
begin_good script h lane k good awake n = record {
  sound = add_line h (bare (Flying lane k)) good.sound (of_lane h (bare (Flying lane k)) lane (λ l. refl) n);
  whole = λ l c. rw past_more (whole_flight (same_lane l lane) (past l h) (good.whole l c));
  grounded = λ a j. absurd (false≢true (sym awake ∙ (sym (ap is_asleep (phase_more script h (bare (Flying lane k)))) ∙ a)));
}
  where
    whole_flight : (b : Bool) (g : History) → cover g ≡ taken g → cover (if b then (bare (Flying lane k) ∷ g) else g) ≡ taken (if b then (bare (Flying lane k) ∷ g) else g)
    whole_flight true g w = w
    whole_flight false g w = w

built_some : (g : History) → IsSound g → 0 < built g → IsNextSpan g (cover g) (taken g)
built_some g sound h = record { begins = refl; is_some = omega arith; is_taken = omega arith }

-- OFFERS

-- a span that may be closed: it begins at a and ends by t
pub record Ends (a t : ℕ) (s : ℕ × ℕ) : Type 0 where
  pub begins_at : s.0 ≡ a
  pub is_some : s.0 < s.1
  pub is_by : s.1 ≤ t

pair_parts : (x y : ℕ × ℕ) → Some x ≡ Some y → (x.0 ≡ y.0) × (x.1 ≡ y.1)
pair_parts x y e = let same : x ≡ y = cc in (ap (λ (p : ℕ × ℕ). p.0) same, ap (λ (p : ℕ × ℕ). p.1) same)

ends_from : (a t : ℕ) (x s : ℕ × ℕ) → x.0 ≡ a → x.0 < x.1 → x.1 ≤ t → Some x ≡ Some s → Ends a t s
ends_from a t x s p q r e =
    let same = pair_parts x s e in
    record { begins_at = sym same.0 ∙ p; is_some = omega (arith, same.0, same.1, q); is_by = omega (arith, same.1, r) }

ends_cases : (B V W lim : Bool) (a n t : ℕ) → n + 1 ≡ t → a ≤ n → (B ≡ false → a ≡ n) → (V ≡ true → a < n) → (s : ℕ × ℕ)
    → (if not B then Some (n, n + 1) else (if V && not W then Some (a, n) else (if lim then Some (a, n + 1) else None))) ≡ Some s → Ends a t s
ends_cases false V W lim a n t nt an alone full s e = ends_from a t (n, n + 1) s (sym (alone refl)) (omega arith) (omega arith) e
ends_cases true true false lim a n t nt an alone full s e = ends_from a t (a, n) s refl (full refl) (omega arith) e
ends_cases true true true true a n t nt an alone full s e = ends_from a t (a, n + 1) s refl (omega arith) (omega arith) e
ends_cases true false W true a n t nt an alone full s e = ends_from a t (a, n + 1) s refl (omega arith) (omega arith) e
ends_cases true true true false a n t nt an alone full s e = absurd (cc)
ends_cases true false W false a n t nt an alone full s e = absurd (cc)

-- the span after a took line
took_ends : (script : Script) (lane : Lane) (sender : ℕ) (g : History) → IsSound g → (packs script.params.class lane ≡ false → cover g ≡ taken g) → (s : ℕ × ℕ)
    → span_after_took script lane (after_took lane sender g) ≡ Some s → Ends (cover g) (taken g + 1) s
took_ends script lane sender g sound whole s e =
    ends_cases (packs script.params.class lane) (nat_lt (cover g) (taken g + 1 - 1))
    (frames_fit script.params (built_frames script lane (after_took lane sender g)))
    (ends_at_limit lane script.params (taken g + 1 - 1 + 1 - cover g)) (cover g) (taken g + 1 - 1) (taken g + 1) (omega arith)
    (let low : cover g ≤ taken g = cover_below g sound in omega arith)
    (λ c. let w : cover g ≡ taken g = whole c in omega arith)
    (λ v. ltb-true (cover g) (taken g + 1 - 1) v) s e

-- the lane's lines after a line of its own
pub own_past : (h : History) (e : Entry) (lane : Lane) → concerns lane e ≡ true → past lane (h ++ e ∷ []) ≡ e ∷ past lane h
own_past h e lane c = rw (past_more, c) refl

took_past : (h : History) (lane : Lane) (sender : ℕ) → past lane (h ++ bare (Took lane sender) ∷ []) ≡ after_took lane sender (past lane h)
took_past h lane sender = own_past h (bare (Took lane sender)) lane (same_lane-refl lane)

-- after a took line the lanes are sound, and nothing flies that didn't
took_sound : (h : History) (lane : Lane) (sender : ℕ) → AllSound h → AllSound (h ++ bare (Took lane sender) ∷ [])
took_sound h lane sender sound = add_line h (bare (Took lane sender)) sound (of_lane h (bare (Took lane sender)) lane (λ l. refl) tt)

took_flies : (b : Bool) (e : Entry) (lane : Lane) (sender : ℕ) (g : History) (j : ℕ) → flies g j ≡ false → flies (if b then (bare (Took lane sender) ∷ g) else g) j ≡ false
took_flies true e lane sender g j w = w
took_flies false e lane sender g j w = w

took_grounded : (script : Script) (h : History) (lane : Lane) (sender : ℕ) → Good script h → is_asleep (phase_of script (h ++ bare (Took lane sender) ∷ [])) ≡ true → (j : ℕ) → flies (past Outward (h ++ bare (Took lane sender) ∷ [])) j ≡ false
took_grounded script h lane sender good a j =
    rw past_more (took_flies (same_lane Outward lane) (bare (Took lane sender)) lane sender (past Outward h) j
    (good.grounded (sym (ap is_asleep (phase_more script h (bare (Took lane sender)))) ∙ a) j))

alone_whole : (b : Bool) (e : Entry) (g : History) → (b ≡ true → ⊥) → cover g ≡ taken g → cover (if b then (e ∷ g) else g) ≡ taken (if b then (e ∷ g) else g)
alone_whole true e g never w = absurd (never refl)
alone_whole false e g never w = w

-- a took line without a transfer, in a lane that packs
took_alone : (script : Script) (h : History) (lane : Lane) (sender : ℕ) → Good script h → (packs script.params.class lane ≡ false → ⊥) → Good script (h ++ bare (Took lane sender) ∷ [])
took_alone script h lane sender good blocks = record {
  sound = took_sound h lane sender good.sound;
  whole = λ l c. rw past_more (alone_whole (same_lane l lane) (bare (Took lane sender)) (past l h) (λ b. blocks (subst (λ i. packs script.params.class i ≡ false) (same_lane-is l lane b) c)) (good.whole l c));
  grounded = took_grounded script h lane sender good;
}

-- a took line and the transfer that it closes
took_made_whole : (b : Bool) (lane l : Lane) (sender k : ℕ) (s : ℕ × ℕ) (bytes : List ℕ) (g : History) → (b ≡ true → s.1 ≡ taken g + 1) → cover g ≡ taken g
    → cover (if b then ((Made lane k s.0 s.1, bytes) ∷ (if b then (bare (Took lane sender) ∷ g) else g)) else (if b then (bare (Took lane sender) ∷ g) else g))
    ≡ taken (if b then ((Made lane k s.0 s.1, bytes) ∷ (if b then (bare (Took lane sender) ∷ g) else g)) else (if b then (bare (Took lane sender) ∷ g) else g))
took_made_whole true lane l sender k s bytes g e w = e refl
took_made_whole false lane l sender k s bytes g e w = w

one_frame_span : (B V W lim : Bool) (a n : ℕ) → B ≡ false → (s : ℕ × ℕ)
    → (if not B then Some (n, n + 1) else (if V && not W then Some (a, n) else (if lim then Some (a, n + 1) else None))) ≡ Some s → s.1 ≡ n + 1
one_frame_span true V W lim a n c s e = absurd (false≢true (sym c))
one_frame_span false V W lim a n c s e = sym (pair_parts (n, n + 1) s e).1

one_frame_none : (B : Bool) (x : ℕ × ℕ) (o : Option (ℕ × ℕ)) → (if not B then Some x else o) ≡ None → B ≡ false → ⊥
one_frame_none true x o e c = false≢true (sym c)
one_frame_none false x o e c = absurd (cc)

span_whole : (script : Script) (lane : Lane) (sender : ℕ) (g : History) (s : ℕ × ℕ) → packs script.params.class lane ≡ false
    → span_after_took script lane (after_took lane sender g) ≡ Some s → s.1 ≡ taken g + 1
span_whole script lane sender g s c e =
    let r : s.1 ≡ taken g + 1 - 1 + 1 = one_frame_span (packs script.params.class lane) (nat_lt (cover g) (taken g + 1 - 1))
    (frames_fit script.params (built_frames script lane (after_took lane sender g)))
    (ends_at_limit lane script.params (taken g + 1 - 1 + 1 - cover g)) (cover g) (taken g + 1 - 1) c s e in omega arith

span_blocks : (script : Script) (lane : Lane) (sender : ℕ) (g : History) → span_after_took script lane (after_took lane sender g) ≡ None → packs script.params.class lane ≡ false → ⊥
span_blocks script lane sender g e = one_frame_none (packs script.params.class lane) (taken g + 1 - 1, taken g + 1 - 1 + 1) _ e

took_made : (script : Script) (h : History) (lane : Lane) (sender : ℕ) (s : ℕ × ℕ) → Good script h
    → span_after_took script lane (after_took lane sender (past lane h)) ≡ Some s
    → Good script ((h ++ bare (Took lane sender) ∷ []) ++ made_entry script lane (after_took lane sender (past lane h)) s ∷ [])
took_made script h lane sender s good e = record {
  sound = add_line (h ++ bare (Took lane sender) ∷ []) (made_entry script lane (after_took lane sender (past lane h)) s) (took_sound h lane sender good.sound)
      (of_lane (h ++ bare (Took lane sender) ∷ []) (made_entry script lane (after_took lane sender (past lane h)) s) lane (λ l. refl)
      (subst (Follows (made_entry script lane (after_took lane sender (past lane h)) s)) (sym (took_past h lane sender)) (refl, span)));
  whole = λ l c. rw (past_more, past_more)
      (took_made_whole (same_lane l lane) lane l sender (made (past lane h)) s _ (past l h) (λ b. subst (λ i. s.1 ≡ taken (past i h) + 1) (sym (same_lane-is l lane b)) (span_whole script lane sender (past lane h) s (subst (λ i. packs script.params.class i ≡ false) (same_lane-is l lane b) c) e)) (good.whole l c));
  grounded = λ a j. rw past_more (grounded_if (same_lane Outward lane) (made_entry script lane (after_took lane sender (past lane h)) s) (past Outward (h ++ bare (Took lane sender) ∷ [])) refl j
      (took_grounded script h lane sender good
      (asleep_before script.controls (made_entry script lane (after_took lane sender (past lane h)) s) (reverse (h ++ bare (Took lane sender) ∷ [])) refl
      (sym (ap is_asleep (phase_more script (h ++ bare (Took lane sender) ∷ []) (made_entry script lane (after_took lane sender (past lane h)) s))) ∙ a)) j));
}
  where
    ends_span : Ends (cover (past lane h)) (taken (past lane h) + 1) s
    ends_span = took_ends script lane sender (past lane h) (good.sound lane) (good.whole lane) s e

    span : IsNextSpan (after_took lane sender (past lane h)) s.0 s.1
    span = record { begins = ends_span.begins_at; is_some = ends_span.is_some; is_taken = ends_span.is_by }

take_good : (script : Script) (h : History) (lane : Lane) (sender : ℕ) (closed : Option (ℕ × ℕ)) → Good script h
    → span_after_took script lane (after_took lane sender (past lane h)) ≡ closed
    → Good script (h ++ (bare (Took lane sender) ∷ made_if script lane (after_took lane sender (past lane h)) closed))
take_good script h lane sender None good e = took_alone script h lane sender good (span_blocks script lane sender (past lane h) e)
take_good script h lane sender (Some s) good e = subst (Good script) (append_assoc h (bare (Took lane sender) ∷ []) _) (took_made script h lane sender s good e)

-- CONTROLS

-- a control line changes no lane
did_past : (h : History) (c : ℕ) (f : Bool) (lane : Lane) → past lane (h ++ bare (Line.Control c f) ∷ []) ≡ past lane h
did_past h c f lane = rw past_more refl

follow_append : (h xs ys : History) → MayFollowAll h xs → MayFollowAll (h ++ xs) ys → MayFollowAll h (xs ++ ys)
follow_append h [] ys f k = subst (λ i. MayFollowAll i ys) (append-nil h) k
follow_append h (x ∷ xs) ys f k = (f.0, follow_append (h ++ x ∷ []) xs ys f.1 (subst (λ i. MayFollowAll i ys) (sym (append_assoc h (x ∷ []) xs)) k))

plain_append : (xs ys : History) → ArePlain xs → ArePlain ys → ArePlain (xs ++ ys)
plain_append [] ys p q = q
plain_append (x ∷ xs) ys p q = (p.0, plain_append xs ys p.1 q)

marked_follow : (h : History) (lane : Lane) (c : ℕ) (ks : List ℕ) → MayFollowAll h (marked_each lane c ks)
marked_follow h lane c [] = tt
marked_follow h lane c (k ∷ ks) = (λ l e. tt, marked_follow (h ++ bare (Marked lane k c) ∷ []) lane c ks)

marked_plain : (lane : Lane) (c : ℕ) (ks : List ℕ) → ArePlain (marked_each lane c ks)
marked_plain lane c [] = tt
marked_plain lane c (k ∷ ks) = (refl, marked_plain lane c ks)

recalled_follow : (h : History) (lane : Lane) (n : ℕ) → MayFollowAll h (recalled_each lane n)
recalled_follow h lane zero = tt
recalled_follow h lane (suc n) = (λ l e. tt, recalled_follow (h ++ bare (Recalled lane) ∷ []) lane n)

recalled_plain : (lane : Lane) (n : ℕ) → ArePlain (recalled_each lane n)
recalled_plain lane zero = tt
recalled_plain lane (suc n) = (refl, recalled_plain lane n)

cut_plain : (lane : Lane) (c : ℕ) (ks : List ℕ) → ArePlain (cut_each lane c ks)
cut_plain lane c [] = tt
cut_plain lane c (k ∷ ks) = (refl, cut_plain lane c ks)

-- after the first that waits was cut, the others wait
cut_waits_other : (g : History) (k c j : ℕ) (l : Lane) → (j ≡ k → ⊥) → waits (bare (Cut l k c) ∷ g) j ≡ waits g j
cut_waits_other g k c j l other = rw (ne_eqb k j (λ e. other (sym e))) refl

cut_waits_same : (g : History) (k c : ℕ) (l : Lane) → waits (bare (Cut l k c) ∷ g) k ≡ false
cut_waits_same g k c l = rw (eq-eqb k k refl) (none (landed g k) (failed g k))
  where
    none : (x y : Bool) → (true && not ((x || y) || true)) ≡ false
    none true y = refl
    none false true = refl
    none false false = refl

cut_rest : (g : History) (k c : ℕ) (l : Lane) (ks : List ℕ) → waiting g ≡ k ∷ ks → waiting (bare (Cut l k c) ∷ g) ≡ ks
cut_rest g k c l ks e = those_rest (waits g) (waits (bare (Cut l k c) ∷ g)) k (cut_waits_same g k c l) (λ j o. cut_waits_other g k c j l o) (made g) ks e

waiting_next : (g : History) (k : ℕ) (ks : List ℕ) → ((j : ℕ) → flies g j ≡ false) → waiting g ≡ k ∷ ks → IsNext g k
waiting_next g k ks none e =
    let f = those_first (waits g) (made g) k (ap first e) in
    record { is_made = f.is_below; is_waiting = f.passes; is_least = f.is_least; is_alone = none }

cut_follow : (c : ℕ) (ks : List ℕ) (h : History) → ((j : ℕ) → flies (past Outward h) j ≡ false) → waiting (past Outward h) ≡ ks → MayFollowAll h (cut_each Outward c ks)
cut_follow c [] h none e = tt
cut_follow c (k ∷ ks) h none e = (
  of_lane h (bare (Cut Outward k c)) Outward (λ l. refl) (inr (waiting_next (past Outward h) k ks none e)),
  cut_follow c ks (h ++ bare (Cut Outward k c) ∷ [])
      (λ j. rw own (and_right (not (k == j)) (flies (past Outward h) j) (none j)))
      (rw own (cut_rest (past Outward h) k c Outward ks e)),
)
  where
    own : past Outward (h ++ bare (Cut Outward k c) ∷ []) ≡ bare (Cut Outward k c) ∷ past Outward h
    own = own_past h (bare (Cut Outward k c)) Outward refl

deferred_follow : (phase : Phase) (c : ℕ) (h : History) → (is_asleep phase ≡ true → (j : ℕ) → flies (past Outward h) j ≡ false) → MayFollowAll h (cut_each Outward c (deferred phase Outward (past Outward h)))
deferred_follow Asleep c h none = cut_follow c (waiting (past Outward h)) h (none refl) refl
deferred_follow Up c h none = tt
deferred_follow Stopping c h none = tt
deferred_follow Leaving c h none = tt
deferred_follow Down c h none = tt
deferred_follow Away c h none = tt

-- the built numbers are the same
pub record SameBuilt (g g' : History) : Type 0 where
  pub cover_same : cover g ≡ cover g'
  pub taken_same : taken g ≡ taken g'

same_refl : (g : History) → SameBuilt g g
same_refl g = record { cover_same = refl; taken_same = refl }

same_trans : (g g' g'' : History) → SameBuilt g g' → SameBuilt g' g'' → SameBuilt g g''
same_trans g g' g'' p q = record { cover_same = p.cover_same ∙ q.cover_same; taken_same = p.taken_same ∙ q.taken_same }

cut_same_if : (b : Bool) (k c : ℕ) (g : History) → SameBuilt (if b then (bare (Cut Outward k c) ∷ g) else g) g
cut_same_if true k c g = record { cover_same = refl; taken_same = refl }
cut_same_if false k c g = record { cover_same = refl; taken_same = refl }

cut_same : (c : ℕ) (ks : List ℕ) (lane : Lane) (h : History) → SameBuilt (past lane (h ++ cut_each Outward c ks)) (past lane h)
cut_same c [] lane h = rw append-nil (same_refl (past lane h))
cut_same c (k ∷ ks) lane h =
    let first_cut : SameBuilt (past lane (h ++ bare (Cut Outward k c) ∷ [])) (past lane h) = rw past_more (cut_same_if (same_lane lane Outward) k c (past lane h)) in
    subst (λ i. SameBuilt (past lane i) (past lane h)) (append_assoc h (bare (Cut Outward k c) ∷ []) (cut_each Outward c ks))
    (same_trans _ _ _ (cut_same c ks lane (h ++ bare (Cut Outward k c) ∷ [])) first_cut)

dropped_if : (b : Bool) (h : History) (lane : Lane) (c : ℕ) (g : History) → (built g == 0) ≡ b → SameBuilt (past lane h) g → MayFollowAll h (if b then [] else (bare (Dropped lane (cover g) (taken g) c) ∷ []))
dropped_if true h lane c g e s = tt
dropped_if false h lane c g e s = (
  of_lane h (bare (Dropped lane (cover g) (taken g) c)) lane (λ l. refl)
      (record { begins = sym s.cover_same; is_some = let some : built g ≡ 0 → ⊥ = eqb-false (built g) 0 e in omega arith; is_taken = let t : taken (past lane h) ≡ taken g = s.taken_same in omega arith }),
  tt,
)

dropped_follow : (h : History) (lane : Lane) (c : ℕ) (g : History) → SameBuilt (past lane h) g → MayFollowAll h (dropped_built lane c g)
dropped_follow h lane c g s = dropped_if (built g == 0) h lane c g refl s

dropped_plain : (lane : Lane) (c : ℕ) (g : History) → ArePlain (dropped_built lane c g)
dropped_plain lane c g = go (built g == 0)
  where
    go : (b : Bool) → ArePlain (if b then [] else (bare (Dropped lane (cover g) (taken g) c) ∷ []))
    go true = tt
    go false = (refl, tt)

-- a drop outward leaves the inward lane
drop_other : (h : History) (c : ℕ) (g : History) → SameBuilt (past Inward (h ++ dropped_built Outward c g)) (past Inward h)
drop_other h c g = go (built g == 0)
  where
    go : (b : Bool) → SameBuilt (past Inward (h ++ (if b then [] else (bare (Dropped Outward (cover g) (taken g) c) ∷ [])))) (past Inward h)
    go true = rw append-nil (same_refl (past Inward h))
    go false = rw past_more (same_refl (past Inward h))

-- what `down` and `unplug` begin with
stop_lines : ℕ → Phase → History → History → History
stop_lines c phase out inw = cut_each Outward c (deferred phase Outward out) ++ dropped_built Outward c out ++ dropped_built Inward c inw

stop_follow : (phase : Phase) (c : ℕ) (h : History) → (is_asleep phase ≡ true → (j : ℕ) → flies (past Outward h) j ≡ false)
    → MayFollowAll h (cut_each Outward c (deferred phase Outward (past Outward h)) ++ dropped_built Outward c (past Outward h) ++ dropped_built Inward c (past Inward h))
stop_follow phase c h none =
    follow_append h (cut_each Outward c ks ++ dropped_built Outward c (past Outward h)) (dropped_built Inward c (past Inward h))
    (follow_append h (cut_each Outward c ks) (dropped_built Outward c (past Outward h)) (deferred_follow phase c h none)
    (dropped_follow (h ++ cut_each Outward c ks) Outward c (past Outward h) (cut_same c ks Outward h)))
    (subst (λ i. MayFollowAll i (dropped_built Inward c (past Inward h))) (append_assoc h (cut_each Outward c ks) (dropped_built Outward c (past Outward h)))
    (dropped_follow ((h ++ cut_each Outward c ks) ++ dropped_built Outward c (past Outward h)) Inward c (past Inward h)
    (same_trans _ _ _ (drop_other (h ++ cut_each Outward c ks) c (past Outward h)) (cut_same c ks Inward h))))
  where
    ks : List ℕ
    ks = deferred phase Outward (past Outward h)

stop_plain : (phase : Phase) (c : ℕ) (out inw : History) → ArePlain (cut_each Outward c (deferred phase Outward out) ++ dropped_built Outward c out ++ dropped_built Inward c inw)
stop_plain phase c out inw =
    plain_append (cut_each Outward c (deferred phase Outward out) ++ dropped_built Outward c out) _
    (plain_append (cut_each Outward c (deferred phase Outward out)) _ (cut_plain Outward c _) (dropped_plain Outward c out)) (dropped_plain Inward c inw)

order_follow : (order : Order) (c : ℕ) (phase : Phase) (h : History) → (is_asleep phase ≡ true → (j : ℕ) → flies (past Outward h) j ≡ false)
    → MayFollowAll h (order_lines order c phase (past Outward h) (past Inward h))
order_follow Order.Suspend c phase h none = recalled_follow h Inward (posted (past Inward h))
order_follow Order.Resume c phase h none = tt
order_follow Order.Up c phase h none = tt
order_follow (Order.Unlink Outward) c phase h none = marked_follow h Outward c _
order_follow (Order.Unlink Inward) c phase h none = marked_follow h Inward c _
order_follow Order.Down c phase h none = stop_follow phase c h none
order_follow Order.Unplug c phase h none =
    follow_append h (stop ++ m1 ++ m2 ++ r1) r2 (follow_append h (stop ++ m1 ++ m2) r1 (follow_append h (stop ++ m1) m2 (follow_append h stop m1 (stop_follow phase c h none)
    (marked_follow (h ++ stop) Outward c _)) (marked_follow (h ++ (stop ++ m1)) Inward c _)) (recalled_follow (h ++ (stop ++ m1 ++ m2)) Outward _)) (recalled_follow (h ++ (stop ++ m1 ++ m2 ++ r1)) Inward _)
  where
    stop : History
    stop = cut_each Outward c (deferred phase Outward (past Outward h)) ++ dropped_built Outward c (past Outward h) ++ dropped_built Inward c (past Inward h)

    m1 : History
    m1 = marked_each Outward c (unmarked phase Outward (past Outward h))

    m2 : History
    m2 = marked_each Inward c (unmarked phase Inward (past Inward h))

    r1 : History
    r1 = recalled_each Outward (posted (past Outward h))

    r2 : History
    r2 = recalled_each Inward (posted (past Inward h))

pub order_plain : (order : Order) (c : ℕ) (phase : Phase) (out inw : History) → ArePlain (order_lines order c phase out inw)
order_plain Order.Suspend c phase out inw = recalled_plain Inward _
order_plain Order.Resume c phase out inw = tt
order_plain Order.Up c phase out inw = tt
order_plain (Order.Unlink Outward) c phase out inw = marked_plain Outward c _
order_plain (Order.Unlink Inward) c phase out inw = marked_plain Inward c _
order_plain Order.Down c phase out inw = stop_plain phase c out inw
order_plain Order.Unplug c phase out inw =
    plain_append _ _ (plain_append _ _ (plain_append _ _ (plain_append _ _ (stop_plain phase c out inw) (marked_plain Outward c _)) (marked_plain Inward c _)) (recalled_plain Outward _)) (recalled_plain Inward _)

-- the phase after a control line
did_phase : (script : Script) (h : History) (f : Bool) (due : Due) → slice_get script.controls (controls_done (reverse h)) ≡ Some due
    → phase_of script (h ++ bare (Line.Control (controls_done (reverse h)) f) ∷ []) ≡ after_order due.control (phase_of script h)
did_phase script h f due e = rw (phase_more, e) refl

did_grounded : (order : Order) (phase : Phase) (out inw : History) → IsSound out → (is_asleep phase ≡ true → (j : ℕ) → flies out j ≡ false) → hinders order phase out inw ≡ 0
    → is_asleep (after_order order phase) ≡ true → (j : ℕ) → flies out j ≡ false
did_grounded Order.Suspend phase out inw sound none z a j =
    none_flies out sound (nil_from_length (flying out) (middle_zero (length (queued phase Outward out)) (length (flying out)) (length (flying inw)) z)) j
did_grounded Order.Resume phase out inw sound none z a j = absurd (false≢true a)
did_grounded Order.Up phase out inw sound none z a j = absurd (false≢true a)
did_grounded Order.Down phase out inw sound none z a j = absurd (false≢true a)
did_grounded Order.Unplug phase out inw sound none z a j = absurd (false≢true a)
did_grounded (Order.Unlink lane) phase out inw sound none z a j = none a j

did_good : (script : Script) (h : History) (f : Bool) (due : Due) → Good script h → slice_get script.controls (controls_done (reverse h)) ≡ Some due
    → hinders due.control (phase_of script h) (past Outward h) (past Inward h) ≡ 0 → Good script (h ++ bare (Line.Control (controls_done (reverse h)) f) ∷ [])
did_good script h f due good e z = record {
  sound = λ lane. rw did_past (good.sound lane);
  whole = λ lane c. rw did_past (good.whole lane c);
  grounded = λ a j. rw did_past (did_grounded due.control (phase_of script h) (past Outward h) (past Inward h) (good.sound Outward) good.grounded z
      (sym (ap is_asleep (did_phase script h f due e)) ∙ a) j);
}

order_good : (script : Script) (h : History) (f : Bool) (due : Due) → Good script h → slice_get script.controls (controls_done (reverse h)) ≡ Some due
    → hinders due.control (phase_of script h) (past Outward h) (past Inward h) ≡ 0
    → Good script (h ++ (bare (Line.Control (controls_done (reverse h)) f) ∷ order_lines due.control (controls_done (reverse h)) (phase_of script h) (past Outward h) (past Inward h)))
order_good script h f due good e z =
    subst (Good script) (append_assoc h (bare (Line.Control (controls_done (reverse h)) f) ∷ []) lines)
    (plain_lines script (h ++ bare (Line.Control (controls_done (reverse h)) f) ∷ []) lines (did_good script h f due good e z) (order_plain due.control (controls_done (reverse h)) (phase_of script h) (past Outward h) (past Inward h)) follows)
  where
    lines : History
    lines = order_lines due.control (controls_done (reverse h)) (phase_of script h) (past Outward h) (past Inward h)

    h' : History
    h' = h ++ bare (Line.Control (controls_done (reverse h)) f) ∷ []

    follows : MayFollowAll h' lines
    follows =
        subst (λ o. MayFollowAll h' (order_lines due.control (controls_done (reverse h)) (phase_of script h) o (past Inward h))) (did_past h (controls_done (reverse h)) f Outward)
        (subst (λ i. MayFollowAll h' (order_lines due.control (controls_done (reverse h)) (phase_of script h) (past Outward h') i)) (did_past h (controls_done (reverse h)) f Inward)
        (order_follow due.control (controls_done (reverse h)) (phase_of script h) h' (λ a j. rw did_past (good.grounded a j))))

-- EVERY ROW

pub step_good : (script : Script) (h lines : History) (act : Act) → Good script h → Fits script h act lines → Good script (h ++ lines)
step_good script h lines act good (takes lane sender frame w e v home) = take_good script h lane sender _ good refl
step_good script h lines act good (refuses lane sender frame why w e v n) = one_line script h _ lane good refl (λ l. refl) tt
step_good script h lines act good (waits_once lane p) = one_line script h _ lane good refl (λ l. refl) tt
step_good script h lines act good (closes lane b p n) = one_line script h _ lane good refl (λ l. refl) (refl, built_some (past lane h) (good.sound lane) b)
step_good script h lines act good (begins_flight lane k a none e m ha p) = begin_good script h lane k good a (queued_next script h lane k good none e)
step_good script h lines act good (cuts_queued lane k c none e m) = one_line script h _ lane good refl (λ l. refl) (inr (queued_next script h lane k good none e))
step_good script h lines act good (lands lane k f m p) = one_line script h _ lane good refl (λ l. refl) f
step_good script h lines act good (tries_again lane k f m p) = one_line script h _ lane good refl (λ l. refl) f
step_good script h lines act good (fails lane k kind f m p) = one_line script h _ lane good refl (λ l. refl) f
step_good script h lines act good (cuts_flight lane k c f m) = one_line script h _ lane good refl (λ l. refl) (inl f)
step_good script h lines act good (comes_home lane e) = one_line script h _ lane good refl (λ l. refl) (refl, e)
step_good script h lines act good (opens lane k none e) = one_line script h _ lane good refl (λ l. refl) (arrived_from (past lane h) k (good.sound lane) none e)
step_good script h lines act good (gives lane k n c e) = one_line script h _ lane good refl (λ l. refl) (next_number_from (past lane h) k n (good.sound lane) c e)
step_good script h lines act good (posts_one lane a r) = one_line script h _ lane good refl (λ l. refl) tt
step_good script h lines act good (marks lane k s e) = one_line script h _ lane good refl (λ l. refl) tt
step_good script h lines act good (recalls_one lane s e p) = one_line script h _ lane good refl (λ l. refl) tt
step_good script h lines act good (clears lane a e) = one_line script h _ lane good refl (λ l. refl) tt
step_good script h lines act good (settles s e) = plain_line script h _ good refl (λ l c. tt)
step_good script h lines act good (orders force due e p d z) = order_good script h false due good e z
step_good script h lines act good (orders_forced due e p d q z) = order_good script h true due good e z

empty_good : (script : Script) → Good script []
empty_good script = record { sound = λ lane. tt; whole = λ lane c. refl; grounded = λ a j. refl }

pub legal_good : (script : Script) (h : History) → Legal script h → Good script h
legal_good script h begins = empty_good script
legal_good script h (goes_on h0 lines act legal fits) = step_good script h0 lines act (legal_good script h0 legal) fits
