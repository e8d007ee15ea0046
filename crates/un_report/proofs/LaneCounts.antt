-- A lane's lines, one more at a time.
use Rattle.std.proofs.Common.{length-append, ℕ, zero, suc, ◌+◌, ◌/◌, ◌<◌, ◌≤◌, ◌^◌, ◌≡◌, Bool, true, false, ◌==◌, List, [], ◌∷◌, ◌++◌, length, take, reverse, filter, Option, Some, None, ◌⊎◌, inl, inr, slice_get, refl, sym, ap, ◌∙◌, subst, arith, add-one, if◌then◌else◌}
use Rattle.std.specs.Option.{option_map}
use Rattle.std.proofs.lemmas.Bool.{ne_eqb, eq-eqb}
use Rattle.std.proofs.lemmas.List.{take_all}
use Rattle.std.proofs.Math.Nat.{div-le_self}
use Rattle.un_frame.specs.declared.params.Lane.{Lane}
use Rattle.un_frame.specs.declared.kinds.Phase.{Phase}
use Rattle.un_frame.specs.Lanes.{same_lane}
use Rattle.un_journal.specs.declared.lines.Line.{Line}
use Rattle.un_journal.specs.declared.lines.Line.TheVariants.{Took, Refused, Made, Landed, Failed, Cut, Dropped, Gave, Settled}
use Rattle.un_journal.specs.declared.controls.Due.{Due}
use Rattle.un_journal.specs.History.{Entry, History, past, concerns, made, span, made_bytes, flies, more_if, ends}
use Rattle.un_journal.specs.Lookup.{phase_after}
use Rattle.un_journal.specs.Log.{IsEntry, AreEntries, FitsTypes}
use Rattle.un_journal.specs.Sound.{IsSound, IsNext}
use Rattle.un_journal.proofs.ForLink.{past_more, onto, newest, past_onto, sound_below}
use Rattle.un_journal.proofs.ForLane.{in_order, flight_is, next_is, flying_made}
use Rattle.un_report.specs.declared.tally.Tally.{Tally}
use Rattle.un_report.specs.declared.lane_count.LaneCount.{LaneCount}
use Rattle.un_report.specs.Counts.{span_size, counts, is_short, is_long, is_filtered}
use Rattle.un_report.specs.Steps.{is_end, line_counted, end_counted, IsWithin, made_span, IsLaneCount, phase_after_line}

-- FRONTS OF A HISTORY

take_next : (h : History) (i : ℕ) (e : Entry) → slice_get h i ≡ Some e → take (suc i) h ≡ take i h ++ e ∷ []
take_next [] i e got = absurd (cc)
take_next (x ∷ h) zero e got = let same : x ≡ e = cc in ap (λ y. y ∷ []) same
take_next (x ∷ h) (suc i) e got = ap (λ t. x ∷ t) (take_next h i e got)

past_step : (lane : Lane) (h : History) (i : ℕ) (e : Entry) → slice_get h i ≡ Some e → past lane (take (i + 1) h) ≡ (if concerns lane e then (e ∷ past lane (take i h)) else past lane (take i h))
past_step lane h i e got = rw add-one (ap (past lane) (take_next h i e got) ∙ past_more lane (take i h) e)

concerns_line : (lane : Lane) (line : Line) (bytes : List ℕ) → concerns lane (line, bytes) ≡ concerns lane (line, [])
concerns_line lane (Took l s) bytes = refl
concerns_line lane line bytes = refl

pub with_bytes : (o : Option Entry) (line : Line) → option_map (λ (e : Entry). e.0) o ≡ Some line → (bytes : List ℕ) × (o ≡ Some (line, bytes))
with_bytes (Some (l, bytes)) line h = let same : l ≡ line = cc in (bytes, ap (λ x. Some (x, bytes)) same)
with_bytes None line h = absurd (cc)

entry_at : (h : History) (i : ℕ) (e : Entry) → AreEntries h → slice_get h i ≡ Some e → IsEntry e
entry_at [] i e a got = absurd (cc)
entry_at (x ∷ h) zero e a got = let same : x ≡ e = cc in subst IsEntry same a.0
entry_at (x ∷ h) (suc i) e a got = entry_at h i e a.1 got

abbrev no_lines : History
no_lines = []

take_none : (m : ℕ) → take m no_lines ≡ no_lines
take_none zero = refl
take_none (suc m) = refl

-- a longer front of the lane's lines is the shorter one with lines on top
split_take : (h : History) (i n : ℕ) → i ≤ n → (more : History) × (take n h ≡ take i h ++ more)
split_take h zero n le = (take n h, refl)
split_take [] (suc i) n le = ([], take_none n)
split_take (x ∷ h) (suc i) zero le = absurd (omega arith)
split_take (x ∷ h) (suc i) (suc n) le = let r = split_take h i n (omega arith) in (r.0, ap (λ t. x ∷ t) r.1)

pub grown : (lane : Lane) (h : History) (i n : ℕ) → i ≤ n → (es : History) × (past lane (take n h) ≡ onto es (past lane (take i h)))
grown lane h i n le =
    let r = split_take h i n le in
    (filter (concerns lane) r.0, ap (past lane) r.1 ∙ past_onto lane (take i h) r.0)

whole_past : (lane : Lane) (h : History) → past lane (take (length h) h) ≡ past lane h
whole_past lane h = ap (past lane) (take_all (length h) h (omega arith))

pub sound_front : (lane : Lane) (h : History) (i : ℕ) → i ≤ length h → IsSound (past lane h) → IsSound (past lane (take i h))
sound_front lane h i le sound =
    let r = grown lane h i (length h) le in
    sound_below r.0 (past lane (take i h)) (subst IsSound (sym (whole_past lane h) ∙ r.1) sound)

-- THE TRANSFER OF A LINE

-- a transfer's span and bytes stay as they are
record Kept (g : History) (k : ℕ) (s : ℕ × ℕ) (bytes : List ℕ) : Type 0 where
  pub below : k < made g
  pub spans : span g k ≡ Some s
  pub carries : made_bytes g k ≡ bytes

kept_one : (e : Entry) (g : History) (k : ℕ) (s : ℕ × ℕ) (bytes : List ℕ) → IsSound (e ∷ g) → Kept g k s bytes → Kept (e ∷ g) k s bytes
kept_one (Made l j a b, more) g k s bytes sound w =
    let other : (j == k) ≡ false = ne_eqb j k (λ same. let low : k < made g = w.below in let at : j ≡ made g = sound.0.0 in omega arith) in
    record { below = let low : k < made g = w.below in omega arith; spans = rw other w.spans; carries = rw other w.carries }
kept_one e g k s bytes sound w = record { below = w.below; spans = w.spans; carries = w.carries }

kept : (es g : History) (k : ℕ) (s : ℕ × ℕ) (bytes : List ℕ) → IsSound (onto es g) → Kept g k s bytes → Kept (onto es g) k s bytes
kept [] g k s bytes sound w = w
kept (e ∷ es) g k s bytes sound w = kept es (e ∷ g) k s bytes sound (kept_one e g k s bytes (sound_below es (e ∷ g) sound) w)

-- the line that makes a transfer
made_is : (lane : Lane) (line : Line) (s : ℕ × ℕ) → made_span lane line ≡ Some s → (l : Lane) × (j : ℕ) × (same_lane lane l ≡ true) × (line ≡ Made l j s.0 s.1)
made_is lane (Made l j a b) s h = pick (same_lane lane l) refl h
  where
    pick : (c : Bool) → same_lane lane l ≡ c → (if c then Some (a, b) else None) ≡ Some s → (m : Lane) × (i : ℕ) × (same_lane lane m ≡ true) × (Made l j a b ≡ Made m i s.0 s.1)
    pick true is e = let same : (a, b) ≡ s = cc in (l, j, is, rw (← same) refl)
    pick false is e = absurd (cc)
made_is lane line s h = absurd (cc)

pub record Here (lane : Lane) (h : History) (i n : ℕ) (s : ℕ × ℕ) (bytes : List ℕ) : Type 0 where
  pub spans : span (past lane (take n h)) (made (past lane (take i h))) ≡ Some s
  pub carries : made_bytes (past lane (take n h)) (made (past lane (take i h))) ≡ bytes
  pub counts_on : made (past lane (take (i + 1) h)) ≡ made (past lane (take i h)) + 1

made_first : (g : History) (l : Lane) (j a b : ℕ) (bytes : List ℕ) → IsSound ((Made l j a b, bytes) ∷ g) → Kept ((Made l j a b, bytes) ∷ g) (made g) (a, b) bytes
made_first g l j a b bytes sound =
    let same : (j == made g) ≡ true = eq-eqb j (made g) sound.0.0 in
    record { below = omega arith; spans = rw same refl; carries = rw same refl }

-- with one line more where it is of the lane
abbrev one_if : Bool → Entry → History → History
one_if c e g = if c then (e ∷ g) else g

made_more : (lane l : Lane) (j a b : ℕ) (line : Line) (bytes : List ℕ) (g : History) → line ≡ Made l j a b → same_lane lane l ≡ true → one_if (concerns lane (line, bytes)) (line, bytes) g ≡ (Made l j a b, bytes) ∷ g
made_more lane l j a b line bytes g e is = rw (e, is) refl

pub found : (lane : Lane) (h : History) (i n : ℕ) (line : Line) (bytes : List ℕ) (s : ℕ × ℕ) → IsSound (past lane h) → n ≤ length h → i < n → slice_get h i ≡ Some (line, bytes) → made_span lane line ≡ Some s → Here lane h i n s bytes
found lane h i n line bytes s sound le low got is =
    let m = made_is lane line s is in
    let e : Entry = (Made m.0 m.1 s.0 s.1, bytes) in
    let step : past lane (take (i + 1) h) ≡ e ∷ past lane (take i h) = past_step lane h i (line, bytes) got ∙ made_more lane m.0 m.1 s.0 s.1 line bytes (past lane (take i h)) m.3 m.2 in
    let r = grown lane h (i + 1) n (omega arith) in
    let sound' : IsSound (onto r.0 (e ∷ past lane (take i h))) = subst IsSound (r.1 ∙ ap (onto r.0) step) (sound_front lane h n le sound) in
    let k = kept r.0 (e ∷ past lane (take i h)) (made (past lane (take i h))) (s.0, s.1) bytes sound' (made_first (past lane (take i h)) m.0 m.1 s.0 s.1 bytes (sound_below r.0 (e ∷ past lane (take i h)) sound')) in
    record {
      spans = rw (r.1, step) k.spans;
      carries = rw (r.1, step) k.carries;
      counts_on = ap made step;
    }

made_if : (c : Bool) (l : Lane) (j : ℕ) (s : ℕ × ℕ) (bytes : List ℕ) (g : History) → (if c then Some s else None) ≡ None → made (one_if c (Made l j s.0 s.1, bytes) g) ≡ made g
made_if true l j s bytes g f = absurd (cc)
made_if false l j s bytes g f = refl

makes_none : (lane : Lane) (line : Line) (bytes : List ℕ) (g : History) → made_span lane line ≡ None → made (one_if (concerns lane (line, bytes)) (line, bytes) g) ≡ made g
makes_none lane (Made l j a b) bytes g e = made_if (same_lane lane l) l j (a, b) bytes g e
makes_none lane line bytes g e = pick (concerns lane (line, bytes))
  where
    pick : (c : Bool) → made (one_if c (line, bytes) g) ≡ made g
    pick true = refl
    pick false = refl

pub passed : (lane : Lane) (h : History) (i : ℕ) (line : Line) (bytes : List ℕ) → slice_get h i ≡ Some (line, bytes) → made_span lane line ≡ None → made (past lane (take (i + 1) h)) ≡ made (past lane (take i h))
passed lane h i line bytes got none = ap made (past_step lane h i (line, bytes) got) ∙ makes_none lane line bytes (past lane (take i h)) none

-- ONE LINE MORE

counted_line : (packet : ℕ) (line : Line) (bytes : List ℕ) (g : History) → is_end line ≡ false → counts packet ((line, bytes) ∷ g) ≡ line_counted line (counts packet g)
counted_line packet (Took l s) bytes g e = refl
counted_line packet (Refused l s why) bytes g e = refl
counted_line packet (Made l k a b) bytes g e = refl
counted_line packet (Dropped l a b c) bytes g e = refl
counted_line packet (Gave l n) bytes g e = given_more packet l n bytes g
  where
    given_more : (packet : ℕ) (l : Lane) (n : ℕ) (bytes : List ℕ) (g : History) → counts packet ((Gave l n, bytes) ∷ g) ≡ line_counted (Gave l n) (counts packet g)
    given_more packet l n bytes g = rw length-append refl
counted_line packet (Landed l k) bytes g e = absurd (cc)
counted_line packet (Failed l k kind) bytes g e = absurd (cc)
counted_line packet (Cut l k c) bytes g e = absurd (cc)
counted_line packet line bytes g e = refl

endings_line : (line : Line) (bytes : List ℕ) (g : History) → is_end line ≡ false → ends ((line, bytes) ∷ g) ≡ ends g
endings_line (Landed l k) bytes g e = absurd (cc)
endings_line (Failed l k kind) bytes g e = absurd (cc)
endings_line (Cut l k c) bytes g e = absurd (cc)
endings_line line bytes g e = refl

endings_end : (line : Line) (bytes : List ℕ) (g : History) → is_end line ≡ true → ends ((line, bytes) ∷ g) ≡ ends g + 1
endings_end (Landed l k) bytes g e = refl
endings_end (Failed l k kind) bytes g e = refl
endings_end (Cut l k c) bytes g e = refl
endings_end line bytes g e = absurd (cc)

same_ends : (g : History) → ends g ≡ ends g
same_ends [] = refl
same_ends ((Landed l k, bytes) ∷ g) = ap (λ n. n + 1) (same_ends g)
same_ends ((Failed l k kind, bytes) ∷ g) = ap (λ n. n + 1) (same_ends g)
same_ends ((Cut l k c, bytes) ∷ g) = ap (λ n. n + 1) (same_ends g)
same_ends (e ∷ g) = same_ends g

-- a line that ends transfer k
abbrev Ends : Line → ℕ → Type 0
Ends (Landed l j) k = j ≡ k
Ends (Failed l j kind) k = j ≡ k
Ends (Cut l j c) k = j ≡ k
Ends line k = ⊥

-- it ends the next one
pub next_end : (line : Line) (bytes : List ℕ) (g : History) → is_end line ≡ true → IsSound ((line, bytes) ∷ g) → Ends line (ends g) × (ends g < made g)
next_end (Landed l j) bytes g e sound =
    let at = flight_is g sound.1 (in_order g sound.1) j sound.0 in
    let low = flying_made g sound.1 j sound.0 in
    let same = same_ends g in
    (at ∙ sym same, omega (arith, at, low, same))
next_end (Failed l j kind) bytes g e sound =
    let at = flight_is g sound.1 (in_order g sound.1) j sound.0 in
    let low = flying_made g sound.1 j sound.0 in
    let same = same_ends g in
    (at ∙ sym same, omega (arith, at, low, same))
next_end (Cut l j c) bytes g e sound = pick sound.0
  where
    pick : (flies g j ≡ true) ⊎ IsNext g j → (j ≡ ends g) × (ends g < made g)
    pick (inl f) =
        let at = flight_is g sound.1 (in_order g sound.1) j f in
        let low = flying_made g sound.1 j f in
        let same = same_ends g in
        (at ∙ sym same, omega (arith, at, low, same))
    pick (inr n) =
        let at = next_is g sound.1 (in_order g sound.1) j n in
        let low : j < made g = n.is_made in
        let same = same_ends g in
        (at ∙ sym same, omega (arith, at, low, same))
next_end line bytes g e sound = absurd (cc)

counted_end : (packet : ℕ) (line : Line) (bytes : List ℕ) (g : History) (k : ℕ) → Ends line k
    → counts packet ((line, bytes) ∷ g) ≡ end_counted line (span_size (span g k)) (length (made_bytes g k)) packet (counts packet g)
counted_end packet (Landed l j) bytes g k e = rw e refl
counted_end packet (Failed l j kind) bytes g k e = rw e refl
counted_end packet (Cut l j c) bytes g k e = rw e refl
counted_end packet line bytes g k e = absurd e

-- BOUNDS

within_same : (n : ℕ) (t : Tally) → IsWithin n t → IsWithin (n + 1) t
within_same n t w = (omega (arith, w.0), omega (arith, w.1), omega (arith, w.2), omega (arith, w.3), omega (arith, w.4), omega (arith, w.5), omega (arith, w.6), omega (arith, w.7), omega (arith, w.8), omega (arith, w.9), omega (arith, w.10), omega (arith, w.11), omega (arith, w.12), omega (arith, w.13))

more_within : (b : Bool) (n m : ℕ) → m ≤ n → more_if b m ≤ n + 1
more_within true n m h = omega arith
more_within false n m h = omega arith

within_line : (n : ℕ) (line : Line) (t : Tally) → FitsTypes line → IsWithin n t → IsWithin (n + 1) (line_counted line t)
within_line n (Took l s) t fits w =
    let v = within_same n t w in
    (omega (arith, w.0), v.1, v.2, v.3, v.4, v.5, more_within (s == 0) n _ w.6, more_within (s == 1) n _ w.7, more_within (s == 2) n _ w.8, more_within (s == 3) n _ w.9, v.10, v.11, v.12, v.13)
within_line n (Refused l s why) t fits w =
    let v = within_same n t w in
    (v.0, more_within (is_short why) n _ w.1, more_within (is_long why) n _ w.2, more_within (is_filtered why) n _ w.3, v.4, v.5, more_within (s == 0) n _ w.6, more_within (s == 1) n _ w.7, more_within (s == 2) n _ w.8, more_within (s == 3) n _ w.9, v.10, v.11, v.12, v.13)
within_line n (Made l k a b) t fits w = let v = within_same n t w in (v.0, v.1, v.2, v.3, v.4, omega (arith, w.5), v.6, v.7, v.8, v.9, v.10, v.11, v.12, v.13)
within_line n (Dropped l a b c) t fits w = let v = within_same n t w in (v.0, v.1, v.2, v.3, v.4, v.5, v.6, v.7, v.8, v.9, v.10, v.11, omega (arith, w.12, fits.1.1.0), v.13)
within_line n (Gave l m) t fits w = let v = within_same n t w in (v.0, v.1, v.2, v.3, omega (arith, w.4), v.5, v.6, v.7, v.8, v.9, v.10, v.11, v.12, v.13)
within_line n line t fits w = within_same n t w

within_end : (n : ℕ) (line : Line) (datagrams bytes packet : ℕ) (t : Tally) → datagrams < 2 ^ 64 → bytes / packet + 1 ≤ 2 ^ 64 → IsWithin n t → IsWithin (n + 1) (end_counted line datagrams bytes packet t)
within_end n (Landed l k) datagrams bytes packet t d p w = let v = within_same n t w in (v.0, v.1, v.2, v.3, v.4, v.5, v.6, v.7, v.8, v.9, v.10, v.11, v.12, omega (arith, w.13, p))
within_end n (Failed l k kind) datagrams bytes packet t d p w = let v = within_same n t w in (v.0, v.1, v.2, v.3, v.4, v.5, v.6, v.7, v.8, v.9, omega (arith, w.10, d), v.11, v.12, v.13)
within_end n (Cut l k c) datagrams bytes packet t d p w = let v = within_same n t w in (v.0, v.1, v.2, v.3, v.4, v.5, v.6, v.7, v.8, v.9, v.10, omega (arith, w.11, d), v.12, v.13)
within_end n line datagrams bytes packet t d p w = within_same n t w

-- WHAT IS KNOWN OF A LANE

pub count_first : (packet : ℕ) (lane : Lane) (h : History) (before : LaneCount) → (before.next ≡ 0) × (before.tally ≡ counts 512 []) → IsLaneCount packet lane h 0 before
count_first packet lane h before e = record {
  counted = e.1;
  within = rw e.1 (omega arith, omega arith, omega arith, omega arith, omega arith, omega arith, omega arith, omega arith, omega arith, omega arith, omega arith, omega arith, omega arith, omega arith);
  order = omega (arith, e.0);
  ended = rw e.0 refl;
}

step_is : (lane : Lane) (h : History) (i : ℕ) (line : Line) (bytes : List ℕ) (c : Bool) → concerns lane (line, []) ≡ c → slice_get h i ≡ Some (line, bytes) → past lane (take (i + 1) h) ≡ one_if c (line, bytes) (past lane (take i h))
step_is lane h i line bytes c is got = past_step lane h i (line, bytes) got ∙ ap (λ b. one_if b (line, bytes) (past lane (take i h))) (concerns_line lane line bytes ∙ is)

pub count_skips : (packet : ℕ) (lane : Lane) (h : History) (i : ℕ) (before : LaneCount) (line : Line) → option_map (λ (e : Entry). e.0) (slice_get h i) ≡ Some line → concerns lane (line, []) ≡ false → IsLaneCount packet lane h i before → IsLaneCount packet lane h (i + 1) before
count_skips packet lane h i before line got other w =
    let e = with_bytes (slice_get h i) line got in
    let step = step_is lane h i line e.0 false other e.1 in
    record { counted = rw step w.counted; within = within_same i before.tally w.within; order = let o : before.next ≤ i = w.order in omega arith; ended = rw step w.ended }

pub count_counts : (packet : ℕ) (lane : Lane) (h : History) (i next : ℕ) (before : LaneCount) (line : Line) (t : Tally) → AreEntries h → option_map (λ (e : Entry). e.0) (slice_get h i) ≡ Some line → concerns lane (line, []) ≡ true → is_end line ≡ false
    → t ≡ line_counted line before.tally → next ≡ before.next → IsLaneCount packet lane h i before → IsLaneCount packet lane h (i + 1) (record { next = next; tally = t })
count_counts packet lane h i next before line t entries got ours plain told same w =
    let e = with_bytes (slice_get h i) line got in
    let step = step_is lane h i line e.0 true ours e.1 in
    let fits = (entry_at h i (line, e.0) entries e.1).0 in
    record {
      counted = rw step (told ∙ ap (line_counted line) w.counted ∙ sym (counted_line packet line e.0 (past lane (take i h)) plain));
      within = rw told (within_line i line before.tally fits w.within);
      order = let o : before.next ≤ i = w.order in omega (arith, same);
      ended = rw (same, step) (w.ended ∙ sym (endings_line line e.0 (past lane (take i h)) plain));
    }

-- the next transfer that ends is one that was made
pub count_next : (packet : ℕ) (lane : Lane) (h : History) (i : ℕ) (before : LaneCount) (line : Line) → i < length h → IsSound (past lane h) → option_map (λ (e : Entry). e.0) (slice_get h i) ≡ Some line → concerns lane (line, []) ≡ true → is_end line ≡ true → IsLaneCount packet lane h i before
    → made (past lane (take before.next h)) < made (past lane (take i h))
count_next packet lane h i before line low sound got ours over w =
    let e = with_bytes (slice_get h i) line got in
    let step = step_is lane h i line e.0 true ours e.1 in
    let n = next_end line e.0 (past lane (take i h)) over (subst IsSound step (sound_front lane h (i + 1) (omega arith) sound)) in
    let at = w.ended in
    omega (arith, at, n.1)

pub count_ends : (packet : ℕ) (lane : Lane) (h : History) (i next datagrams size : ℕ) (before : LaneCount) (line : Line) (t : Tally) → i < length h → IsSound (past lane h)
    → option_map (λ (e : Entry). e.0) (slice_get h i) ≡ Some line → concerns lane (line, []) ≡ true → is_end line ≡ true
    → datagrams ≡ span_size (span (past lane (take i h)) (made (past lane (take before.next h)))) → size ≡ length (made_bytes (past lane (take i h)) (made (past lane (take before.next h))))
    → made (past lane (take next h)) ≡ made (past lane (take before.next h)) + 1 → next ≤ i → datagrams < 2 ^ 64 → size / packet + 1 ≤ 2 ^ 64
    → t ≡ end_counted line datagrams size packet before.tally → IsLaneCount packet lane h i before → IsLaneCount packet lane h (i + 1) (record { next = next; tally = t })
count_ends packet lane h i next datagrams size before line t low sound got ours over d b on order small few told w =
    let g = past lane (take i h) in
    let e = with_bytes (slice_get h i) line got in
    let step = step_is lane h i line e.0 true ours e.1 in
    let n = next_end line e.0 g over (subst IsSound step (sound_front lane h (i + 1) (omega arith) sound)) in
    let all : t ≡ counts packet ((line, e.0) ∷ g) = told ∙ rw (d, b, w.ended, w.counted) (sym (counted_end packet line e.0 g (ends g) n.0)) in
    record {
      counted = rw step all;
      within = rw told (within_end i line datagrams size packet before.tally small few w.within);
      order = omega arith;
      ended = rw step (on ∙ ap (λ m. m + 1) w.ended ∙ sym (endings_end line e.0 g over));
    }

-- THE PHASE

phase_line : (controls : List Due) (line : Line) (bytes : List ℕ) (h : History) → phase_after controls ((line, bytes) ∷ h) ≡ phase_after_line controls line (phase_after controls h)
phase_line controls (Line.Control c f) bytes h = refl
phase_line controls (Settled t1 r1 t2 r2) bytes h = refl
phase_line controls line bytes h = refl

pub phase_step : (controls : List Due) (h : History) (i : ℕ) (line : Line) (phase next : Phase) → option_map (λ (e : Entry). e.0) (slice_get h i) ≡ Some line
    → phase ≡ phase_after controls (reverse (take i h)) → next ≡ phase_after_line controls line phase → next ≡ phase_after controls (reverse (take (i + 1) h))
phase_step controls h i line phase next got before told =
    let e = with_bytes (slice_get h i) line got in
    rw (add-one, take_next h i (line, e.0) e.1, newest) (told ∙ ap (phase_after_line controls line) before ∙ sym (phase_line controls line e.0 (reverse (take i h))))

pub few_packets : (bytes packet : ℕ) → 8 ≤ packet → bytes < 2 ^ 64 → bytes / packet + 1 ≤ 2 ^ 64
few_packets bytes packet h low = let less = div-le_self bytes packet in omega (arith, less)
