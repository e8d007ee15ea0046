-- A load's history, once it is done, has the counts of its line: nothing is lost, so all is accepted and given.
use Rattle.std.proofs.Common.{◌≡◌, ℕ, zero, suc, ◌+◌, ◌-◌, ◌%◌, Bool, true, false, List, [], ◌∷◌, ◌++◌, length, map, filter, Some, refl, sym, ap, subst, ◌∙◌, arith, if◌then◌else◌, slice_get, unwrap_or, length-append, nat_lt}
use Rattle.std.proofs.lemmas.Bool.Decides.{nat_tests}
use Rattle.std.specs.Int.{to_be_bytes, w32}
use Rattle.std.specs.List.{range_with_len}
use Rattle.un_frame.specs.declared.params.Class.TheVariants.{Ncm16}
use Rattle.un_frame.specs.declared.params.Lane.{Lane}
use Rattle.un_frame.specs.declared.params.Lane.TheVariants.{Outward, Inward}
use Rattle.un_frame.specs.declared.kinds.Verdict.{Verdict}
use Rattle.un_frame.specs.declared.kinds.Verdict.TheVariants.{Take}
use Rattle.un_frame.specs.Verdict.{verdict_of}
use Rattle.un_journal.specs.declared.lines.Line.TheVariants.{Took, Failed, Cut, Dropped}
use Rattle.un_journal.specs.declared.controls.Due.{Due}
use Rattle.un_journal.specs.Script.{Script, Frame, frames_of, frame_count}
use Rattle.un_journal.specs.History.{Entry, History, past, concerns, taken, given, row_from}
use Rattle.un_journal.specs.Lookup.{feed_head}
use Rattle.un_journal.specs.Loss.{LosesNothing, is_take, loses, accepted, good_frames}
use Rattle.un_journal.specs.Fits.{IsDone}
use Rattle.un_journal.specs.Rules.{AllLane}
use Rattle.un_journal.proofs.Theorems.{lane_ruled, legal_licensed, Whole, nothing_lost, plain_line, have_pools, legal_ruled}
use Rattle.un_journal.specs.Licence.{AllLicensed}
use Rattle.un_report.specs.Counts.{failed_datagrams, cut_datagrams, dropped_datagrams}
use Rattle.un_script.specs.Load.{load_script, load_frame, load_feed, load_lane, load_sender, load_body, is_from, ADDRESSES}
use Rattle.un_frame.specs.Params.{defaults}
use Rattle.un_script.proofs.Loads.{load_more, load_none, count_more}
use Rattle.un_frame.proofs.Defaults.{defaults_in_range}
use Rattle.usbnet_run.specs.Loads.{IsLossless}

-- NOTHING IS LOST

loses_nothing : (count : ℕ) → LosesNothing (load_script count)
loses_nothing count = record {
  no_fault = λ lane k. tt;
  only_sleeps = λ c due e. absurd (no_control c due e);
  ends_awake = λ due some e f. omega (arith, some);
}
  where
    no_control : (c : ℕ) (due : Due) → slice_get [] c ≡ Some due → ⊥
    no_control c due e = cc

record NoneLost (g : History) : Type 0 where
  none_failed : failed_datagrams g ≡ 0
  none_cut : cut_datagrams g ≡ 0
  none_dropped : dropped_datagrams g ≡ 0

-- a load has no fault and no control, so none of its lines loses a datagram
none_lost : (count : ℕ) (older : History) → AllLicensed (load_script count) older → (l : Lane) → NoneLost (filter (concerns l) older)
none_lost count [] all l = record { none_failed = refl; none_cut = refl; none_dropped = refl }
none_lost count (e ∷ older) all l = go (concerns l e) e (plain_line (load_script count) older e refl refl all.0) (none_lost count older all.1 l)
  where
    go : (b : Bool) (e : Entry) → loses e.0 ≡ false → NoneLost (filter (concerns l) older) → NoneLost (if b then (e ∷ filter (concerns l) older) else filter (concerns l) older)
    go false e kept r = r
    go true (Failed l' j kind, bytes) kept r = absurd (cc)
    go true (Cut l' j c, bytes) kept r = absurd (cc)
    go true (Dropped l' a b c, bytes) kept r = absurd (cc)
    go true (e, bytes) kept r = record { none_failed = r.none_failed; none_cut = r.none_cut; none_dropped = r.none_dropped }

-- ALL IS ACCEPTED

abbrev sizes : Script → Lane → History → ℕ
sizes script l g = length (accepted script l g 0) + length (accepted script l g 1) + length (accepted script l g 2) + length (accepted script l g 3)

no_sender : (script : Script) (l : Lane) (g : History) (s : ℕ) (frame : Frame) → feed_head script l g (suc (suc (suc (suc s)))) ≡ Some frame → ⊥
no_sender script Outward g s frame e = cc
no_sender script Inward g s frame e = cc

one_longer : (xs : List Frame) (x : Frame) → length (xs ++ x ∷ []) ≡ length xs + 1
one_longer xs x = length-append xs (x ∷ [])

-- each accepted datagram is one of the four senders'
taken_sizes : (script : Script) (l : Lane) (g : History) → AllLane script l g → taken g ≡ sizes script l g
taken_sizes script l [] all = refl
taken_sizes script l ((Took l' zero, bytes) ∷ g) all =
    let more = one_longer (accepted script l g 0) (unwrap_or (feed_head script l g 0) []) in let same = taken_sizes script l g all.1 in omega (arith, more, same)
taken_sizes script l ((Took l' (suc zero), bytes) ∷ g) all =
    let more = one_longer (accepted script l g 1) (unwrap_or (feed_head script l g 1) []) in let same = taken_sizes script l g all.1 in omega (arith, more, same)
taken_sizes script l ((Took l' (suc (suc zero)), bytes) ∷ g) all =
    let more = one_longer (accepted script l g 2) (unwrap_or (feed_head script l g 2) []) in let same = taken_sizes script l g all.1 in omega (arith, more, same)
taken_sizes script l ((Took l' (suc (suc (suc zero))), bytes) ∷ g) all =
    let more = one_longer (accepted script l g 3) (unwrap_or (feed_head script l g 3) []) in let same = taken_sizes script l g all.1 in omega (arith, more, same)
taken_sizes script l ((Took l' (suc (suc (suc (suc s)))), bytes) ∷ g) all = absurd (no_sender script l g s all.0.rule.frame all.0.rule.is_head)
taken_sizes script l (e ∷ g) all = taken_sizes script l g all.1

-- EACH FRAME IS GOOD

map_length : (f : ℕ → ℕ) (xs : List ℕ) → length (map f xs) ≡ length xs
map_length f [] = refl
map_length f (x ∷ xs) = ap suc (map_length f xs)

range_length : (a n : ℕ) → length (range_with_len a n) ≡ n
range_length a zero = refl
range_length a (suc n) = ap suc (range_length (a + 1) n)

body_length : (i end : ℕ) → length (load_body i end) ≡ end - 18
unfolding load_body
body_length i end = map_length (λ place. (i + place) % 256) (range_with_len 18 (end - 18)) ∙ range_length 18 (end - 18)

frame_length : (i : ℕ) → length (load_frame i) ≡ 60 + i % 1400
frame_length i = let body = body_length i (60 + i % 1400) in let all = length-append (ADDRESSES ++ to_be_bytes w32 i) (load_body i (60 + i % 1400)) in omega (arith, body, all)

is_good : (lane : Lane) (i : ℕ) → is_take (verdict_of (defaults Ncm16) lane (load_frame i)) ≡ true
is_good lane i =
    go lane (nat_lt (length (load_frame i)) 14) (nat_lt 1514 (length (load_frame i)))
    (let size = frame_length i in grind (arith, nat_tests, size)) (let size = frame_length i in grind (arith, nat_tests, size))
  where
    go : (lane : Lane) (short long : Bool) → short ≡ false → long ≡ false → is_take (if short then Verdict.Short else (if long then Verdict.Long else (if Rattle.un_frame.specs.Verdict.is_kept_out (defaults Ncm16) lane (load_frame i) then Verdict.Filtered else Take))) ≡ true
    go Outward short long a b = rw (a, b) refl
    go Inward short long a b = rw (a, b) refl

all_good : (lane : Lane) (xs : List ℕ) → good_frames (defaults Ncm16) lane (map load_frame xs) ≡ map load_frame xs
all_good lane [] = refl
all_good lane (x ∷ xs) = go (is_take (verdict_of (defaults Ncm16) lane (load_frame x))) (is_good lane x) (all_good lane xs)
  where
    go : (b : Bool) → b ≡ true → good_frames (defaults Ncm16) lane (map load_frame xs) ≡ map load_frame xs
        → (if b then (load_frame x ∷ good_frames (defaults Ncm16) lane (map load_frame xs)) else good_frames (defaults Ncm16) lane (map load_frame xs)) ≡ load_frame x ∷ map load_frame xs
    go true e f = ap (λ zs. load_frame x ∷ zs) f
    go false e f = absurd (cc)

feed_good : (lane : Lane) (sender count : ℕ) → good_frames (defaults Ncm16) lane (load_feed lane sender count) ≡ load_feed lane sender count
unfolding load_feed
feed_good lane sender count = all_good lane (filter (is_from lane sender) (range_with_len 0 count))

-- SO MANY FRAMES

load_frames : (count : ℕ) → frame_count (load_script count) ≡ count
load_frames zero = ap frame_count load_none
load_frames (suc n) =
    let more : load_script (n + 1) ≡ _ = load_more n in
    let one : suc n ≡ n + 1 = omega arith in
    subst (λ m. frame_count (load_script m) ≡ m) (sym one)
    (ap frame_count more ∙ count_more (load_lane n) (load_sender n) (load_frame n) (load_script n) ∙ ap (λ m. m + 1) (load_frames n))

-- THE COUNTS

row_length : (a n : ℕ) → length (row_from a n) ≡ n
row_length a zero = refl
row_length a (suc n) = ap suc (row_length (a + 1) n)

abbrev feed_sizes : Lane → ℕ → ℕ
feed_sizes lane count = length (load_feed lane 0 count) + length (load_feed lane 1 count) + length (load_feed lane 2 count) + length (load_feed lane 3 count)

record LaneWhole (count : ℕ) (lane : Lane) (g : History) : Type 0 where
  taken_is : taken g ≡ feed_sizes lane count
  given_is : length (given g) ≡ feed_sizes lane count
  none : NoneLost g

frames_are : (lane : Lane) (count : ℕ) → (frames_of (load_script count) lane 0 ≡ load_feed lane 0 count) × (frames_of (load_script count) lane 1 ≡ load_feed lane 1 count)
    × (frames_of (load_script count) lane 2 ≡ load_feed lane 2 count) × (frames_of (load_script count) lane 3 ≡ load_feed lane 3 count)
frames_are Outward count = (refl, refl, refl, refl)
frames_are Inward count = (refl, refl, refl, refl)

sender_size : (count : ℕ) (lane : Lane) (g : History) (sender : ℕ) → accepted (load_script count) lane g sender ≡ good_frames (defaults Ncm16) lane (frames_of (load_script count) lane sender)
    → frames_of (load_script count) lane sender ≡ load_feed lane sender count → length (accepted (load_script count) lane g sender) ≡ length (load_feed lane sender count)
sender_size count lane g sender a f = ap length (a ∙ ap (good_frames (defaults Ncm16) lane) f ∙ feed_good lane sender count)

lane_whole : (count : ℕ) (h : History) → IsDone (load_script count) h → (lane : Lane) → LaneWhole count lane (past lane h)
lane_whole count h done lane = record {
  taken_is = sum;
  given_is = ap length w.all_given ∙ row_length 0 (taken (past lane h)) ∙ sum;
  none = none_lost count (Rattle.std.proofs.Common.reverse h) (legal_licensed (load_script count) h done.is_legal) lane;
}
  where
    w : Whole (load_script count) h lane
    w = nothing_lost (load_script count) h (have_pools (defaults Ncm16) (defaults_in_range Ncm16)) (loses_nothing count) done lane

    g : History
    g = past lane h

    sum : taken (past lane h) ≡ feed_sizes lane count
    sum =
        let frames = frames_are lane count in
        let all = taken_sizes (load_script count) lane (past lane h) (lane_ruled (load_script count) (Rattle.std.proofs.Common.reverse h) (legal_ruled (load_script count) h done.is_legal) lane) in
        let a = sender_size count lane (past lane h) 0 (w.all_accepted 0) frames.0 in
        let b = sender_size count lane (past lane h) 1 (w.all_accepted 1) frames.1 in
        let c = sender_size count lane (past lane h) 2 (w.all_accepted 2) frames.2 in
        let d = sender_size count lane (past lane h) 3 (w.all_accepted 3) frames.3 in
        omega (arith, all, a, b, c, d)

pub load_whole : (count : ℕ) (h : History) → IsDone (load_script count) h → IsLossless count h
load_whole count h done =
    let all = load_frames count in
    record {
      taken = let a = out.taken_is in let b = inward.taken_is in omega (arith, all, a, b);
      given = let a = out.given_is in let b = inward.given_is in omega (arith, all, a, b);
      none_failed = let a = out.none.none_failed in let b = inward.none.none_failed in omega (arith, a, b);
      none_cut = let a = out.none.none_cut in let b = inward.none.none_cut in omega (arith, a, b);
      none_dropped = let a = out.none.none_dropped in let b = inward.none.none_dropped in omega (arith, a, b);
    }
  where
    out : LaneWhole count Outward (past Outward h)
    out = lane_whole count h done Outward

    inward : LaneWhole count Inward (past Inward h)
    inward = lane_whole count h done Inward
