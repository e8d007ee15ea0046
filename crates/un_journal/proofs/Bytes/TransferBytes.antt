-- What a transfer's bytes are made of, and that what is given is what was accepted.
use Rattle.std.proofs.Common.{◌≡◌, ℕ, zero, suc, ◌+◌, ◌-◌, ◌<◌, ◌≤◌, Bool, true, false, not, ◌&&◌, ◌==◌, List, [], ◌∷◌, ◌++◌, map, length, Option, Some, None, refl, sym, ap, ◌∙◌, subst, arith, if◌then◌else◌, filter, reverse, slice_get, nat_lt, take, drop, unwrap_or, get_or, length-append}
use Rattle.std.proofs.lemmas.Bool.{false≢true, eqb-true, ltb-true, ltb-false}
use Rattle.std.proofs.lemmas.Option.{slice_get-get_or, same_Some}
use Rattle.std.proofs.lemmas.List.{take-append-le, drop-append-le, length-drop, length-take-le, drop_all}
use Rattle.std.proofs.Math.Seq.{take-length, take-append_seam, drop-append_seam}
use Rattle.un_frame.proofs.LaneLemmas.{same_lane-is}
use Rattle.un_frame.specs.declared.params.Lane.{Lane}
use Rattle.un_frame.specs.declared.params.Lane.TheVariants.{Outward, Inward}
use Rattle.un_frame.specs.declared.kinds.Phase.{Phase}
use Rattle.un_frame.specs.declared.params.Params.{Params}
use Rattle.un_frame.specs.declared.kinds.Verdict.TheVariants.{Take, Short, Long, Filtered}
use Rattle.un_frame.specs.Lanes.{same_lane, packs, frames_fit}
use Rattle.un_frame.specs.Verdict.{verdict_of, is_kept_out}
use Rattle.un_frame.specs.Wire.{form}
use Rattle.un_frame.specs.Bytes.{slice_at}
use Rattle.un_frame.specs.Parts.{places_as, datagram_of}
use Rattle.un_frame.specs.Cut.{ends_at_limit}
use Rattle.un_journal.specs.declared.lines.Line.{Line}
use Rattle.un_journal.specs.declared.lines.Line.TheVariants.{Took, Made, Dropped, Gave, Cut, Marked, Recalled}
use Rattle.un_journal.specs.declared.controls.Control.{Control as Order}
use Rattle.un_journal.specs.declared.controls.Due.{Due}
use Rattle.un_journal.specs.Script.{Script, Frame}
use Rattle.un_journal.specs.History.{Entry, History, past, concerns, taken, made, cover, built, span, span_numbers, made_bytes, told_if, left_of, first, gave, posted}
use Rattle.un_journal.specs.Lookup.{phase_of, controls_done, feed_head, datagrams, span_after_took, deferred, unmarked}
use Rattle.un_journal.specs.LaneSteps.{bare, datagram_bytes, span_start}
use Rattle.un_journal.specs.Step.{made_if, order_lines, cut_each, marked_each, recalled_each, dropped_built, made_entry, settled_line}
use Rattle.un_journal.specs.Bytes.{AreDatagrams}
use Rattle.un_journal.proofs.Bytes.Transfers.{FramesFit, AreFrames, WireHolds, fit_more, part_is}
use Rattle.un_journal.specs.Fits.{Act, Fits, takes, refuses, waits_once, closes, begins_flight, cuts_queued, lands, tries_again, fails, cuts_flight, comes_home, opens, gives, posts_one, marks, recalls_one, clears, settles, orders, orders_forced, Legal, begins, goes_on, after_took}
use Rattle.un_journal.proofs.Lists.Passing.{row_first}
use Rattle.un_journal.proofs.Lanes.GivenOrder.{cover_below}
use Rattle.un_journal.proofs.Steps.StaySound.{Good, legal_good}
use Rattle.un_journal.proofs.Lists.NewestFirst.{onto, onto_append, past_onto, AllOf, filter_of}
use Rattle.un_journal.proofs.Steps.OrderLines.{made_of, stop_part, order_part, order_filter, pick, onto_cut}

-- LISTS

slice_take : {X : Type 0} (m i : ℕ) (xs : List X) → i < m → slice_get (take m xs) i ≡ slice_get xs i
slice_take zero i xs h = absurd (omega arith)
slice_take (suc m) i [] h = refl
slice_take (suc m) zero (x ∷ xs) h = refl
slice_take (suc m) (suc i) (x ∷ xs) h = slice_take m i xs (omega arith)

slice_drop : {X : Type 0} (a i : ℕ) (xs : List X) → slice_get (drop a xs) i ≡ slice_get xs (a + i)
slice_drop zero i xs = ap (slice_get xs) same
  where
    same : i ≡ 0 + i
    same = omega arith
slice_drop (suc a) i [] = refl
slice_drop (suc a) i (x ∷ xs) = slice_drop a i xs ∙ ap (slice_get (x ∷ xs)) same
  where
    same : suc (a + i) ≡ suc a + i
    same = omega arith

pub slice_append : {X : Type 0} (xs ys : List X) (n : ℕ) (x : X) → slice_get xs n ≡ Some x → slice_get (xs ++ ys) n ≡ Some x
slice_append [] ys n x e = absurd (cc)
slice_append (z ∷ xs) ys zero x e = e
slice_append (z ∷ xs) ys (suc n) x e = slice_append xs ys n x e

pub take_whole : {X : Type 0} (n : ℕ) (xs : List X) → n ≡ length xs → take n xs ≡ xs
take_whole n xs e = subst (λ i. take i xs ≡ xs) (sym e) (take-length xs)

take_seam : {X : Type 0} (n : ℕ) (xs ys : List X) → n ≡ length xs → take n (xs ++ ys) ≡ xs
take_seam n xs ys e = subst (λ i. take i (xs ++ ys) ≡ xs) (sym e) (take-append_seam xs ys)

drop_seam : {X : Type 0} (n : ℕ) (xs ys : List X) → n ≡ length xs → drop n (xs ++ ys) ≡ ys
drop_seam n xs ys e = subst (λ i. drop i (xs ++ ys) ≡ ys) (sym e) (drop-append_seam xs ys)

drop_whole : {X : Type 0} (n : ℕ) (xs : List X) → n ≡ length xs → drop n xs ≡ []
drop_whole n xs e = drop_all n xs (omega arith)

pub count_datagrams : (script : Script) (l : Lane) (g : History) → length (datagrams script l g) ≡ taken g
count_datagrams script l [] = refl
count_datagrams script l ((Took l' s, bytes) ∷ g) = length-append (datagrams script l g) _ ∙ ap (λ i. i + 1) (count_datagrams script l g)
count_datagrams script l (e ∷ g) = count_datagrams script l g

-- FITTING

-- how an accepted frame closes a span, or leaves the block open
record Closing (params : Params) (ds : List Frame) (a : ℕ) (s : ℕ × ℕ) : Type 0 where
  pub begins_at : s.0 ≡ a
  pub is_some : s.0 < s.1
  pub is_by : s.1 ≤ length ds
  pub fit : FramesFit params (take (s.1 - s.0) (drop s.0 ds))
  pub rest : FramesFit params (drop s.1 ds)

module _ (params : Params) (ds : List Frame) (x : Frame) (a n : ℕ) (len : n ≡ length ds) (low : a ≤ n) (alone : FramesFit params (x ∷ [])) (before : FramesFit params (drop a ds)) where
  all : List Frame
  all = ds ++ x ∷ []

  more : length (ds ++ x ∷ []) ≡ n + 1
  more = let e : length (ds ++ x ∷ []) ≡ length ds + 1 = length-append ds (x ∷ []) in omega arith

  split : drop a (ds ++ x ∷ []) ≡ drop a ds ++ x ∷ []
  split = drop-append-le a ds (x ∷ []) (omega arith)

  last : drop n (ds ++ x ∷ []) ≡ x ∷ []
  last = drop_seam n ds (x ∷ []) len

  size : n - a ≡ length (drop a ds)
  size = let e : length (drop a ds) ≡ length ds - a = length-drop a ds in omega arith

  size_more : n + 1 - a ≡ length (drop a ds ++ x ∷ [])
  size_more = let e : length (drop a ds) ≡ length ds - a = length-drop a ds in let e' : length (drop a ds ++ x ∷ []) ≡ length (drop a ds) + 1 = length-append (drop a ds) (x ∷ []) in omega arith

  -- the frame by itself
  close_alone : a ≡ n → Closing params (ds ++ x ∷ []) a (n, n + 1)
  close_alone e = record {
    begins_at = sym e;
    is_some = omega arith;
    is_by = let m = more in omega arith;
    fit = subst (λ i. FramesFit params (take i (drop n (ds ++ x ∷ [])))) (one n) (rw last alone);
    rest = rw (drop_whole (n + 1) (ds ++ x ∷ []) (sym more)) tt;
  }
    where
      one : (m : ℕ) → 1 ≡ m + 1 - m
      one m = omega arith

  -- the frames before it
  close_before : a < n → Closing params (ds ++ x ∷ []) a (a, n)
  close_before some = record {
    begins_at = refl;
    is_some = some;
    is_by = let m = more in omega arith;
    fit = rw (split, take_seam (n - a) (drop a ds) (x ∷ []) size) before;
    rest = rw last alone;
  }

  -- all of them
  close_all : FramesFit params (drop a ds ++ x ∷ []) → Closing params (ds ++ x ∷ []) a (a, n + 1)
  close_all f = record {
    begins_at = refl;
    is_some = omega arith;
    is_by = let m = more in omega arith;
    fit = rw (split, take_whole (n + 1 - a) (drop a ds ++ x ∷ []) size_more) f;
    rest = rw (drop_whole (n + 1) (ds ++ x ∷ []) (sym more)) tt;
  }

  -- that all of them fit
  all_empty : a ≡ n → FramesFit params (drop a ds ++ x ∷ [])
  all_empty e = rw (drop_whole a ds (e ∙ len)) alone

  all_fit : (lane : Lane) → packs params.class lane ≡ true → frames_fit params (drop a (ds ++ x ∷ [])) ≡ true → FramesFit params (drop a ds ++ x ∷ [])
  all_fit lane b w = fit_more params lane (drop a ds) x b alone before (subst (λ i. frames_fit params i ≡ true) split w)

  fit_either : (lane : Lane) → packs params.class lane ≡ true → (v w : Bool) → nat_lt a n ≡ v → frames_fit params (drop a (ds ++ x ∷ [])) ≡ w → (v && not w) ≡ false → FramesFit params (drop a ds ++ x ∷ [])
  fit_either lane b true true v w e = all_fit lane b w
  fit_either lane b true false v w e = absurd (false≢true (sym e))
  fit_either lane b false w' v w e = all_empty (let high : n ≤ a = ltb-false a n v in omega arith)

  closed_by : (lane : Lane) (B V W lim : Bool) → (B ≡ true → packs params.class lane ≡ true) → nat_lt a n ≡ V → frames_fit params (drop a (ds ++ x ∷ [])) ≡ W → (B ≡ false → a ≡ n) → (s : ℕ × ℕ)
      → (if not B then Some (n, n + 1) else (if V && not W then Some (a, n) else (if lim then Some (a, n + 1) else None))) ≡ Some s → Closing params (ds ++ x ∷ []) a s
  closed_by lane false V W lim b v w whole s e = subst (Closing params (ds ++ x ∷ []) a) (same_Some _ s e) (close_alone (whole refl))
  closed_by lane true true false lim b v w whole s e = subst (Closing params (ds ++ x ∷ []) a) (same_Some _ s e) (close_before (ltb-true a n v))
  closed_by lane true true true true b v w whole s e = subst (Closing params (ds ++ x ∷ []) a) (same_Some _ s e) (close_all (fit_either lane (b refl) true true v w refl))
  closed_by lane true false W true b v w whole s e = subst (Closing params (ds ++ x ∷ []) a) (same_Some _ s e) (close_all (fit_either lane (b refl) false W v w refl))
  closed_by lane true true true false b v w whole s e = absurd (cc)
  closed_by lane true false W false b v w whole s e = absurd (cc)

  open_by : (lane : Lane) (B V W lim : Bool) → (B ≡ true → packs params.class lane ≡ true) → nat_lt a n ≡ V → frames_fit params (drop a (ds ++ x ∷ [])) ≡ W
      → ◌≡◌ {A = Option (ℕ × ℕ)} (if not B then Some (n, n + 1) else (if V && not W then Some (a, n) else (if lim then Some (a, n + 1) else None))) None → FramesFit params (drop a (ds ++ x ∷ []))
  open_by lane false V W lim b v w e = absurd (cc)
  open_by lane true true false lim b v w e = absurd (cc)
  open_by lane true true true lim b v w e = rw split (fit_either lane (b refl) true true v w refl)
  open_by lane true false W lim b v w e = rw split (fit_either lane (b refl) false W v w refl)

-- WHAT IS MADE

pub record WellMade (params : Params) (ds : List Frame) (bytes : List ℕ) (k : ℕ) (s : ℕ × ℕ) : Type 0 where
  pub is_form : bytes ≡ form params k (take (s.1 - s.0) (drop s.0 ds))
  pub fit : FramesFit params (take (s.1 - s.0) (drop s.0 ds))
  pub is_some : s.0 < s.1
  pub is_by : s.1 ≤ length ds

pub record Kept (script : Script) (l : Lane) (g : History) : Type 0 where
  pub good : AreFrames script.params (datagrams script l g)
  pub made_well : (k : ℕ) (s : ℕ × ℕ) → span g k ≡ Some s → WellMade script.params (datagrams script l g) (made_bytes g k) k s
  pub gave_well : AreDatagrams (datagrams script l g) g

pub record Formed (script : Script) (l : Lane) (g : History) : Type 0 where
  pub kept : Kept script l g
  pub built_fit : FramesFit script.params (drop (cover g) (datagrams script l g))

well_more : (params : Params) (ds : List Frame) (x : Frame) (bytes : List ℕ) (k : ℕ) (s : ℕ × ℕ) → WellMade params ds bytes k s → WellMade params (ds ++ x ∷ []) bytes k s
well_more params ds x bytes k s w = record {
  is_form = rw same w.is_form;
  fit = rw same w.fit;
  is_some = w.is_some;
  is_by = let e : length (ds ++ x ∷ []) ≡ length ds + 1 = length-append ds (x ∷ []) in let low : s.1 ≤ length ds = w.is_by in omega arith;
}
  where
    same : take (s.1 - s.0) (drop s.0 (ds ++ x ∷ [])) ≡ take (s.1 - s.0) (drop s.0 ds)
    same =
        let some : s.0 < s.1 = w.is_some in let low : s.1 ≤ length ds = w.is_by in
        ap (take (s.1 - s.0)) (drop-append-le s.0 ds (x ∷ []) (omega arith))
        ∙ take-append-le (s.1 - s.0) (drop s.0 ds) (x ∷ []) (let e : length (drop s.0 ds) ≡ length ds - s.0 = length-drop s.0 ds in omega arith)

pub frames_more : (params : Params) (ds : List Frame) (x : Frame) → AreFrames params ds → 14 ≤ length x → length x ≤ params.segment → AreFrames params (ds ++ x ∷ [])
frames_more params [] x f p q = (p, q, tt)
frames_more params (y ∷ ds) x f p q = (f.0, f.1, frames_more params ds x f.2 p q)

datagrams_more : (ds : List Frame) (x : Frame) (g : History) → AreDatagrams ds g → AreDatagrams (ds ++ x ∷ []) g
datagrams_more ds x [] w = tt
datagrams_more ds x ((Gave l n, bytes) ∷ g) w = (slice_append ds (x ∷ []) n bytes w.0, datagrams_more ds x g w.1)
datagrams_more ds x (e ∷ g) w = datagrams_more ds x g w

-- a good frame's length
pub good_length : (params : Params) (l : Lane) (x : Frame) → verdict_of params l x ≡ Take → (14 ≤ length x) × (length x ≤ params.segment)
good_length params l x e = go (nat_lt (length x) 14) refl (nat_lt params.segment (length x)) refl (is_kept_out params l x) e
  where
    go : (a : Bool) → nat_lt (length x) 14 ≡ a → (b : Bool) → nat_lt params.segment (length x) ≡ b → (c : Bool)
        → (if a then Short else (if b then Long else (if c then Filtered else Take))) ≡ Take → (14 ≤ length x) × (length x ≤ params.segment)
    go false p false q false e = (ltb-false (length x) 14 p, ltb-false params.segment (length x) q)
    go true p b q c e = absurd (cc)
    go false p true q c e = absurd (cc)
    go false p false q true e = absurd (cc)

kept_took : (script : Script) (l l' : Lane) (s : ℕ) (bytes : List ℕ) (frame : Frame) (g : History) → feed_head script l g s ≡ Some frame → verdict_of script.params l frame ≡ Take → Kept script l g → Kept script l ((Took l' s, bytes) ∷ g)
kept_took script l l' s bytes frame g e v w =
    let r = good_length script.params l frame v in
    record {
      good = rw e (frames_more script.params (datagrams script l g) frame w.good r.0 r.1);
      made_well = λ k i q. well_more script.params (datagrams script l g) _ (made_bytes g k) k i (w.made_well k i q);
      gave_well = datagrams_more (datagrams script l g) _ g w.gave_well;
    }

told_bytes : (script : Script) (l : Lane) (j k : ℕ) (s i : ℕ × ℕ) (bytes : List ℕ) (g : History) → (v : Bool) → (j == k) ≡ v → WellMade script.params (datagrams script l g) bytes j s
    → (span g k ≡ Some i → WellMade script.params (datagrams script l g) (made_bytes g k) k i) → told_if v s (span g k) ≡ Some i → WellMade script.params (datagrams script l g) (if v then bytes else made_bytes g k) k i
told_bytes script l j k s i bytes g true v w old e = subst (λ q. WellMade script.params (datagrams script l g) bytes k q) (same_Some s i e) (subst (λ q. WellMade script.params (datagrams script l g) bytes q s) (eqb-true j k v) w)
told_bytes script l j k s i bytes g false v w old e = old e

kept_made : (script : Script) (l l' : Lane) (s : ℕ × ℕ) (bytes : List ℕ) (g : History) → WellMade script.params (datagrams script l g) bytes (made g) s → Kept script l g → Kept script l ((Made l' (made g) s.0 s.1, bytes) ∷ g)
kept_made script l l' s bytes g m w = record {
  good = w.good;
  made_well = λ k i q. told_bytes script l (made g) k s i bytes g (made g == k) refl m (w.made_well k i) q;
  gave_well = w.gave_well;
}

-- an offer that is taken
formed_take : (script : Script) (l : Lane) (s : ℕ) (frame : Frame) (g : History) → WireHolds script.params → cover g ≤ taken g → (packs script.params.class l ≡ false → cover g ≡ taken g) → feed_head script l g s ≡ Some frame → verdict_of script.params l frame ≡ Take
    → Formed script l g → (closed : Option (ℕ × ℕ)) → span_after_took script l (after_took l s g) ≡ closed → Formed script l (onto (made_if script l (after_took l s g) closed) (after_took l s g))
formed_take script l s frame g wire low whole e v w closed c = go closed c
  where
    x : Frame
    x = unwrap_or (feed_head script l g s) []

    ds : List Frame
    ds = datagrams script l g

    n : ℕ
    n = taken g + 1 - 1

    len : n ≡ length ds
    len = let q : length (datagrams script l g) ≡ taken g = count_datagrams script l g in omega arith

    alone : FramesFit script.params (x ∷ [])
    alone = let r = good_length script.params l frame v in rw e (wire.one_fits frame r.0 r.1)

    kept : Kept script l (after_took l s g)
    kept = kept_took script l l s [] frame g e v w.kept

    under : cover g ≤ n
    under = omega arith

    go : (o : Option (ℕ × ℕ)) → span_after_took script l (after_took l s g) ≡ o → Formed script l (onto (made_if script l (after_took l s g) o) (after_took l s g))
    go None q = record { kept = kept; built_fit = open_by script.params ds x (cover g) n len under alone w.built_fit l (packs script.params.class l) _ _ (ends_at_limit l script.params (n + 1 - cover g)) (λ i. i) refl refl q }
    go (Some i) q =
        let k = closed_by script.params ds x (cover g) n len under alone w.built_fit l (packs script.params.class l) (nat_lt (cover g) n) (frames_fit script.params (drop (cover g) (ds ++ x ∷ []))) (ends_at_limit l script.params (n + 1 - cover g)) (λ j. j) refl refl (λ b. let t : cover g ≡ taken g = whole b in omega arith) i q in
        record {
          kept = kept_made script l l i _ (after_took l s g) (record { is_form = ap (λ j. form script.params (made g) (take (i.1 - i.0) (drop j (ds ++ x ∷ [])))) (sym k.begins_at); fit = k.fit; is_some = k.is_some; is_by = k.is_by }) kept;
          built_fit = k.rest;
        }

-- A LINE THAT MAKES NOTHING

abbrev pub is_neutral : Entry → Bool
is_neutral (Took l s, bytes) = false
is_neutral (Made l k a b, bytes) = false
is_neutral (Dropped l a b c, bytes) = false
is_neutral (Gave l n, bytes) = false
is_neutral (e, bytes) = true

formed_neutral : (script : Script) (l : Lane) (e : Entry) (g : History) → is_neutral e ≡ true → Formed script l g → Formed script l (e ∷ g)
formed_neutral script l (Took l' s, bytes) g n w = absurd (false≢true n)
formed_neutral script l (Made l' k a b, bytes) g n w = absurd (false≢true n)
formed_neutral script l (Dropped l' a b c, bytes) g n w = absurd (false≢true n)
formed_neutral script l (Gave l' m, bytes) g n w = absurd (false≢true n)
formed_neutral script l (e, bytes) g n w = record { kept = record { good = w.kept.good; made_well = w.kept.made_well; gave_well = w.kept.gave_well }; built_fit = w.built_fit }

formed_dropped : (script : Script) (l l' : Lane) (a c : ℕ) (bytes : List ℕ) (g : History) → Formed script l g → Formed script l ((Dropped l' a (taken g) c, bytes) ∷ g)
formed_dropped script l l' a c bytes g w = record {
  kept = record { good = w.kept.good; made_well = w.kept.made_well; gave_well = w.kept.gave_well };
  built_fit = rw (drop_whole (taken g) (datagrams script l g) (sym (count_datagrams script l g))) tt;
}

-- GIVEN BYTES

-- some and below
pub frames_within : (params : Params) (n : ℕ) (ds : List Frame) → AreFrames params ds → AreFrames params (drop n ds)
frames_within params zero ds w = w
frames_within params (suc n) [] w = tt
frames_within params (suc n) (x ∷ ds) w = frames_within params n ds w.2

pub frames_taken : (params : Params) (n : ℕ) (ds : List Frame) → AreFrames params ds → AreFrames params (take n ds)
frames_taken params zero ds w = tt
frames_taken params (suc n) [] w = tt
frames_taken params (suc n) (x ∷ ds) w = (w.0, w.1, frames_taken params n ds w.2)

part_given : (params : Params) (ds : List Frame) (bytes : List ℕ) (k n : ℕ) (s : ℕ × ℕ) → WireHolds params → AreFrames params ds → WellMade params ds bytes k s → s.0 ≤ n → n < s.1
    → slice_get ds n ≡ Some (datagram_of params.class bytes (n - s.0))
part_given params ds bytes k n s wire good w low high =
    let f : slice_get ds n ≡ Some x = slice_get-get_or ds n [] (let by : s.1 ≤ length ds = w.is_by in omega arith) in
    f ∙ ap Some (sym (part_is params.class bytes frames (n - s.0) read ∙ ap (λ o. unwrap_or o []) (found ∙ f)))
  where
    frames : List Frame
    frames = take (s.1 - s.0) (drop s.0 ds)

    x : Frame
    x = get_or ds n []

    count : length frames ≡ s.1 - s.0
    count = length-take-le (s.1 - s.0) (drop s.0 ds) (let e : length (drop s.0 ds) ≡ length ds - s.0 = length-drop s.0 ds in let by : s.1 ≤ length ds = w.is_by in omega arith)

    read : map (slice_at bytes) (places_as params.class bytes) ≡ frames
    read = subst (λ i. map (slice_at i) (places_as params.class i) ≡ frames) (sym w.is_form)
        (wire.is_read k frames (let c = count in let some : s.0 < s.1 = w.is_some in omega arith) (frames_taken params (s.1 - s.0) (drop s.0 ds) (frames_within params s.0 ds good)) w.fit)

    place : s.0 + (n - s.0) ≡ n
    place = omega arith

    found : slice_get frames (n - s.0) ≡ slice_get ds n
    found = slice_take (s.1 - s.0) (n - s.0) (drop s.0 ds) (omega arith) ∙ (slice_drop s.0 (n - s.0) ds ∙ ap (slice_get ds) place)

formed_gave : (script : Script) (l l' : Lane) (k n : ℕ) (g : History) → WireHolds script.params → first (left_of g k) ≡ Some n → Formed script l g → Formed script l ((Gave l' n, datagram_bytes script.params g k n) ∷ g)
formed_gave script l l' k n g wire e w = record {
  kept = record { good = w.kept.good; made_well = w.kept.made_well; gave_well = (go (span g k) refl e, w.kept.gave_well) };
  built_fit = w.built_fit;
}
  where
    go : (o : Option (ℕ × ℕ)) → span g k ≡ o → first (filter (λ m. not (gave g m)) (span_numbers o)) ≡ Some n
        → slice_get (datagrams script l g) n ≡ Some (datagram_of script.params.class (made_bytes g k) (n - span_start (span g k)))
    go None p f = absurd (cc)
    go (Some s) p f =
        let r = row_first (λ m. not (gave g m)) s.0 (s.1 - s.0) n f in
        let m = w.kept.made_well k s p in
        rw p (part_given script.params (datagrams script l g) (made_bytes g k) k n s wire w.kept.good m r.from (let hi : n < s.0 + (s.1 - s.0) = r.to in let some : s.0 < s.1 = m.is_some in omega arith))

-- A CONTROL'S LINES

formed_cut : (script : Script) (l : Lane) (c : ℕ) (ks : List ℕ) (g : History) → Formed script l g → Formed script l (onto (cut_each l c ks) g)
formed_cut script l c [] g w = w
formed_cut script l c (k ∷ ks) g w = formed_cut script l c ks (bare (Cut l k c) ∷ g) (formed_neutral script l (bare (Cut l k c)) g refl w)

formed_marked : (script : Script) (l : Lane) (c : ℕ) (ks : List ℕ) (g : History) → Formed script l g → Formed script l (onto (marked_each l c ks) g)
formed_marked script l c [] g w = w
formed_marked script l c (k ∷ ks) g w = formed_marked script l c ks (bare (Marked l k c) ∷ g) (formed_neutral script l (bare (Marked l k c)) g refl w)

formed_recalled : (script : Script) (l : Lane) (n : ℕ) (g : History) → Formed script l g → Formed script l (onto (recalled_each l n) g)
formed_recalled script l zero g w = w
formed_recalled script l (suc n) g w = formed_recalled script l n (bare (Recalled l) ∷ g) (formed_neutral script l (bare (Recalled l)) g refl w)

formed_drop : (script : Script) (l : Lane) (c : ℕ) (g g' : History) → taken g' ≡ taken g → Formed script l g' → Formed script l (onto (dropped_built l c g) g')
formed_drop script l c g g' t w = go (built g == 0)
  where
    go : (b : Bool) → Formed script l (onto (if b then [] else (bare (Dropped l (cover g) (taken g) c) ∷ [])) g')
    go true = w
    go false = subst (λ i. Formed script l (bare (Dropped l (cover g) i c) ∷ g')) t (formed_dropped script l l (cover g) c [] g' w)

formed_stop : (script : Script) (l : Lane) (c : ℕ) (phase : Phase) (g : History) → Formed script l g → Formed script l (onto (stop_part l c phase g) g)
formed_stop script Outward c phase g w =
    subst (Formed script Outward) (sym (onto_append (cut_each Outward c (deferred phase Outward g)) (dropped_built Outward c g) g))
    (formed_drop script Outward c g _ (onto_cut taken Outward c (λ k i. refl) (deferred phase Outward g) g) (formed_cut script Outward c (deferred phase Outward g) g w))
formed_stop script Inward c phase g w = formed_drop script Inward c g g refl w

formed_order : (script : Script) (order : Order) (l : Lane) (c : ℕ) (phase : Phase) (g : History) → Formed script l g → Formed script l (onto (order_part order l c phase g) g)
formed_order script Order.Suspend Outward c phase g w = w
formed_order script Order.Suspend Inward c phase g w = formed_recalled script Inward (posted g) g w
formed_order script Order.Resume l c phase g w = w
formed_order script Order.Up l c phase g w = w
formed_order script (Order.Unlink Outward) Outward c phase g w = formed_marked script Outward c (unmarked phase Outward g) g w
formed_order script (Order.Unlink Outward) Inward c phase g w = w
formed_order script (Order.Unlink Inward) Outward c phase g w = w
formed_order script (Order.Unlink Inward) Inward c phase g w = formed_marked script Inward c (unmarked phase Inward g) g w
formed_order script Order.Down l c phase g w = formed_stop script l c phase g w
formed_order script Order.Unplug l c phase g w =
    subst (Formed script l) (sym (onto_append (stop_part l c phase g ++ marked_each l c (unmarked phase l g)) (recalled_each l (posted g)) g ∙ ap (onto (recalled_each l (posted g))) (onto_append (stop_part l c phase g) (marked_each l c (unmarked phase l g)) g)))
    (formed_recalled script l (posted g) _ (formed_marked script l c (unmarked phase l g) _ (formed_stop script l c phase g w)))

-- EVERY ROW

-- lines of one lane
lane_formed : (script : Script) (lane l : Lane) (lines h : History) → AllOf lane lines → (l ≡ lane → Formed script l (onto lines (past l h))) → Formed script l (past l h) → Formed script l (past l (h ++ lines))
lane_formed script lane l lines h o own w = rw (past_onto l h lines, filter_of lane l lines o) (go (same_lane l lane) (same_lane-is l lane))
  where
    go : (b : Bool) → (b ≡ true → l ≡ lane) → Formed script l (onto (if b then lines else []) (past l h))
    go true same = own (same refl)
    go false same = w

one_formed : (script : Script) (lane l : Lane) (e : Entry) (h : History) → is_neutral e ≡ true → ((i : Lane) → concerns i e ≡ same_lane i lane) → Formed script l (past l h) → Formed script l (past l (h ++ e ∷ []))
one_formed script lane l e h n o w = lane_formed script lane l (e ∷ []) h (o, tt) (λ same. formed_neutral script l e (past l h) n w) w

order_formed : (script : Script) (h : History) (f : Bool) (due : Due) (l : Lane) → Formed script l (past l h)
    → Formed script l (past l (h ++ (bare (Line.Control (controls_done (reverse h)) f) ∷ order_lines due.control (controls_done (reverse h)) (phase_of script h) (past Outward h) (past Inward h))))
order_formed script h f due l w =
    subst (Formed script l) (sym (past_onto l h (bare (Line.Control c f) ∷ lines) ∙ ap (λ x. onto x (past l h)) (order_filter due.control l c (phase_of script h) (past Outward h) (past Inward h))))
    (subst (λ g. Formed script l (onto (order_part due.control l c (phase_of script h) g) (past l h))) (sym (picked l)) (formed_order script due.control l c (phase_of script h) (past l h) w))
  where
    c : ℕ
    c = controls_done (reverse h)

    lines : History
    lines = order_lines due.control c (phase_of script h) (past Outward h) (past Inward h)

    picked : (i : Lane) → pick i (past Outward h) (past Inward h) ≡ past i h
    picked Outward = refl
    picked Inward = refl

step_formed : (script : Script) (h lines : History) (act : Act) → WireHolds script.params → Good script h → ((l : Lane) → Formed script l (past l h)) → Fits script h act lines → (l : Lane) → Formed script l (past l (h ++ lines))
step_formed script h lines act wire good w (takes lane sender frame wk e v home) l =
    lane_formed script lane l _ h (λ i. refl, made_of script lane (after_took lane sender (past lane h)) _)
    (λ same. subst (λ i. Formed script i (onto (bare (Took lane sender) ∷ made_if script lane (after_took lane sender (past lane h)) (span_after_took script lane (after_took lane sender (past lane h)))) (past i h))) (sym same)
    (formed_take script lane sender frame (past lane h) wire (cover_below (past lane h) (good.sound lane)) (good.whole lane) e v (w lane) _ refl)) (w l)
step_formed script h lines act wire good w (refuses lane sender frame why wk e v n) l = one_formed script lane l _ h refl (λ i. refl) (w l)
step_formed script h lines act wire good w (waits_once lane p) l = one_formed script lane l _ h refl (λ i. refl) (w l)
step_formed script h lines act wire good w (closes lane b p n) l =
    lane_formed script lane l _ h (λ i. refl, tt)
    (λ same. subst (λ i. Formed script i (made_entry script lane (past lane h) (cover (past lane h), taken (past lane h)) ∷ past i h)) (sym same) (closed (past lane h) (w lane) b)) (w l)
  where
    closed : (g : History) → Formed script lane g → 0 < built g → Formed script lane (made_entry script lane g (cover g, taken g) ∷ g)
    closed g f some =
        let n : length (datagrams script lane g) ≡ taken g = count_datagrams script lane g in
        let c : length (drop (cover g) (datagrams script lane g)) ≡ length (datagrams script lane g) - cover g = length-drop (cover g) (datagrams script lane g) in
        record {
          kept = kept_made script lane lane (cover g, taken g) _ g (record {
            is_form = refl;
            fit = rw (take_whole (taken g - cover g) (drop (cover g) (datagrams script lane g)) (omega arith)) f.built_fit;
            is_some = omega arith;
            is_by = omega arith;
          }) f.kept;
          built_fit = rw (drop_whole (taken g) (datagrams script lane g) (omega arith)) tt;
        }
step_formed script h lines act wire good w (begins_flight lane k a none e m ha p) l = one_formed script lane l _ h refl (λ i. refl) (w l)
step_formed script h lines act wire good w (cuts_queued lane k c none e m) l = one_formed script lane l _ h refl (λ i. refl) (w l)
step_formed script h lines act wire good w (lands lane k f m p) l = one_formed script lane l _ h refl (λ i. refl) (w l)
step_formed script h lines act wire good w (tries_again lane k f m p) l = one_formed script lane l _ h refl (λ i. refl) (w l)
step_formed script h lines act wire good w (fails lane k kind f m p) l = one_formed script lane l _ h refl (λ i. refl) (w l)
step_formed script h lines act wire good w (cuts_flight lane k c f m) l = one_formed script lane l _ h refl (λ i. refl) (w l)
step_formed script h lines act wire good w (comes_home lane e) l = one_formed script lane l _ h refl (λ i. refl) (w l)
step_formed script h lines act wire good w (opens lane k none e) l = one_formed script lane l _ h refl (λ i. refl) (w l)
step_formed script h lines act wire good w (gives lane k n c e) l =
    lane_formed script lane l _ h (λ i. refl, tt)
    (λ same. subst (λ i. Formed script i ((Gave lane n, datagram_bytes script.params (past lane h) k n) ∷ past i h)) (sym same) (formed_gave script lane lane k n (past lane h) wire e (w lane))) (w l)
step_formed script h lines act wire good w (posts_one lane a r) l = one_formed script lane l _ h refl (λ i. refl) (w l)
step_formed script h lines act wire good w (marks lane k s e) l = one_formed script lane l _ h refl (λ i. refl) (w l)
step_formed script h lines act wire good w (recalls_one lane s e p) l = one_formed script lane l _ h refl (λ i. refl) (w l)
step_formed script h lines act wire good w (clears lane a e) l = one_formed script lane l _ h refl (λ i. refl) (w l)
step_formed script h lines act wire good w (settles s e) l = rw (past_onto l h (bare (settled_line script h) ∷ [])) (formed_neutral script l (bare (settled_line script h)) (past l h) refl (w l))
step_formed script h lines act wire good w (orders force due e p d z) l = order_formed script h false due l (w l)
step_formed script h lines act wire good w (orders_forced due e p d q z) l = order_formed script h true due l (w l)

pub legal_formed : (script : Script) (h : History) → WireHolds script.params → Legal script h → (l : Lane) → Formed script l (past l h)
legal_formed script h wire begins l = record { kept = record { good = tt; made_well = λ k s e. absurd (cc); gave_well = tt }; built_fit = tt }
legal_formed script h wire (goes_on h0 lines act legal fits) l = step_formed script h0 lines act wire (legal_good script h0 legal) (λ i. legal_formed script h0 wire legal i) fits l
