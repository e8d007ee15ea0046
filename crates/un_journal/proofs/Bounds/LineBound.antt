-- How many lines a legal history can have.
use Rattle.std.proofs.Common.{◌≡◌, ℕ, suc, ◌+◌, ◌-◌, ◌*◌, ◌<◌, ◌≤◌, Bool, true, false, not, ◌&&◌, ◌||◌, ◌==◌, List, [], ◌∷◌, length, Option, Some, None, inl, inr, refl, sym, ap, ◌∙◌, subst, arith, if◌then◌else◌, filter, reverse, slice_get, is_some, nat_lt, min, unwrap_or}
use Rattle.std.proofs.lemmas.List.{length-reverse}
use Rattle.un_facts.proofs.Booleans.{and_false}
use Rattle.std.specs.List.{sum_by}
use Rattle.std.proofs.lemmas.List.Sums.{sum_by-cons}
use Rattle.std.proofs.lemmas.Bool.{false≢true, eqb-true, eq-eqb, ne_eqb, cases_lt, lt-ltb, ltb-true}
use Rattle.std.proofs.lemmas.Bool.Decides.{nat_tests}
use Rattle.std.proofs.lemmas.Option.{slice_get_within}
use Rattle.un_frame.specs.declared.params.Lane.{Lane}
use Rattle.un_frame.specs.declared.params.Lane.TheVariants.{Outward, Inward}
use Rattle.un_frame.specs.declared.kinds.Phase.{Phase}
use Rattle.un_frame.specs.declared.kinds.Phase.TheVariants.{Up, Asleep, Stopping, Leaving, Down, Away}
use Rattle.un_frame.specs.declared.kinds.FaultKind.TheVariants.{Proto, Halt}
use Rattle.un_frame.specs.declared.params.Params.{Params}
use Rattle.un_frame.specs.Lanes.{packs, same_lane, rx_size}
use Rattle.un_journal.specs.declared.lines.Line.{Line}
use Rattle.un_journal.specs.declared.lines.Line.TheVariants.{Took, Refused, Made, Waited, Posted, Flying, Landed, Failed, Retried, Marked, Cut, Dropped, TxHome, Opened, Gave, Recalled, Cleared, Settled}
use Rattle.un_journal.specs.Script.{Script, Frame, feeds_of, frames_of}
use Rattle.un_journal.specs.History.{Entry, History, past, concerns, those, taken, consumed, made, cover, built, took_last, waited_after, posts, recalls, flights, failures, retries, flight_cuts, posted, flies, halted, mark, told_if, returned, more_if, delivered, ends, count_of}
use Rattle.un_journal.specs.Lookup.{phase_of, phase_after, after_control, after_settled, works, is_awake, is_stopping, is_leaving, controls_done, feed_head, block_open, pending, rx_home}
use Rattle.un_journal.specs.Sound.{IsSound}
use Rattle.un_journal.specs.Drain.{line_bound}
use Rattle.un_journal.specs.Fits.{Legal}
use Rattle.un_journal.proofs.Lanes.GivenOrder.{top, front, top_below, in_turn, unopened_above, in_front, next_above, front_below, cover_below}
use Rattle.un_journal.proofs.Lanes.SerialOrder.{is_up}
use Rattle.un_journal.proofs.Steps.StaySound.{legal_good}
use Rattle.un_journal.proofs.Lists.Passing.{those_count, those_empty, those_most}
use Rattle.un_journal.specs.Rules.{LaneRule, AllRuled, AllLane}
use Rattle.un_journal.proofs.Steps.LineRules.{legal_ruled}
use Rattle.un_journal.proofs.Lanes.Attempts.{retries_made}
use Rattle.un_journal.proofs.Lanes.PoolSums.{lane_ruled, landed_lines, flight_sum, ends_made, returned_ends, HomeSums, home_sums, delivered_landed}
use Rattle.un_journal.proofs.Finish.Finished.{controls_within}
use Rattle.std.proofs.Math.Nat.{mul-le-mul_right}
use Rattle.un_journal.proofs.Lists.NewestFirst.{sound_under}
use Rattle.un_facts.proofs.Numbers.{one_most}
use Rattle.un_facts.specs.Numbers.{one_if}

-- COUNTS OF LINES

abbrev pub refused_lines : History → ℕ
refused_lines g = count_of (elim [ Refused l s why ↦ true | _ ↦ false ]) g

abbrev pub waited_lines : History → ℕ
waited_lines g = count_of (elim [ Waited l ↦ true | _ ↦ false ]) g

abbrev pub marked_lines : History → ℕ
marked_lines g = count_of (elim [ Marked l k c ↦ true | _ ↦ false ]) g

abbrev pub cut_lines : History → ℕ
cut_lines g = count_of (elim [ Cut l k c ↦ true | _ ↦ false ]) g

abbrev pub dropped_lines : History → ℕ
dropped_lines g = count_of (elim [ Dropped l a b c ↦ true | _ ↦ false ]) g

abbrev pub opened_lines : History → ℕ
opened_lines g = count_of (elim [ Opened l k ↦ true | _ ↦ false ]) g

abbrev pub gave_lines : History → ℕ
gave_lines g = count_of (elim [ Gave l n ↦ true | _ ↦ false ]) g

abbrev pub cleared_lines : History → ℕ
cleared_lines g = count_of (elim [ Cleared l ↦ true | _ ↦ false ]) g

abbrev pub settled_lines : History → ℕ
settled_lines g = count_of (elim [ Settled t1 r1 t2 r2 ↦ true | _ ↦ false ]) g

abbrev kinds : History → ℕ
kinds g =
    taken g + refused_lines g + made g + waited_lines g + posts g + flights g + ends g + marked_lines g + dropped_lines g + returned g + opened_lines g + gave_lines g + recalls g + cleared_lines g + settled_lines g + controls_done g + retries g

every_kind : (g : History) → length g ≡ kinds g
every_kind [] = refl
every_kind ((Took l s, bytes) ∷ g) = let e : length g ≡ kinds g = every_kind g in omega arith
every_kind ((Refused l s why, bytes) ∷ g) = let e : length g ≡ kinds g = every_kind g in omega arith
every_kind ((Made l k a b, bytes) ∷ g) = let e : length g ≡ kinds g = every_kind g in omega arith
every_kind ((Waited l, bytes) ∷ g) = let e : length g ≡ kinds g = every_kind g in omega arith
every_kind ((Posted l, bytes) ∷ g) = let e : length g ≡ kinds g = every_kind g in omega arith
every_kind ((Flying l k, bytes) ∷ g) = let e : length g ≡ kinds g = every_kind g in omega arith
every_kind ((Landed l k, bytes) ∷ g) = let e : length g ≡ kinds g = every_kind g in omega arith
every_kind ((Failed l k kind, bytes) ∷ g) = let e : length g ≡ kinds g = every_kind g in omega arith
every_kind ((Retried l k n, bytes) ∷ g) = let e : length g ≡ kinds g = every_kind g in omega arith
every_kind ((Marked l k c, bytes) ∷ g) = let e : length g ≡ kinds g = every_kind g in omega arith
every_kind ((Cut l k c, bytes) ∷ g) = let e : length g ≡ kinds g = every_kind g in omega arith
every_kind ((Dropped l a b c, bytes) ∷ g) = let e : length g ≡ kinds g = every_kind g in omega arith
every_kind ((TxHome l k, bytes) ∷ g) = let e : length g ≡ kinds g = every_kind g in omega arith
every_kind ((Opened l k, bytes) ∷ g) = let e : length g ≡ kinds g = every_kind g in omega arith
every_kind ((Gave l n, bytes) ∷ g) = let e : length g ≡ kinds g = every_kind g in omega arith
every_kind ((Recalled l, bytes) ∷ g) = let e : length g ≡ kinds g = every_kind g in omega arith
every_kind ((Cleared l, bytes) ∷ g) = let e : length g ≡ kinds g = every_kind g in omega arith
every_kind ((Line.Control c f, bytes) ∷ g) = let e : length g ≡ kinds g = every_kind g in omega arith
every_kind ((Settled t1 r1 t2 r2, bytes) ∷ g) = let e : length g ≡ kinds g = every_kind g in omega arith

-- EACH KIND OF A LANE

ends_split : (g : History) → ends g ≡ landed_lines g + failures g + cut_lines g
ends_split [] = refl
ends_split ((Landed l k, bytes) ∷ g) = let e : ends g ≡ landed_lines g + failures g + cut_lines g = ends_split g in omega arith
ends_split ((Failed l k kind, bytes) ∷ g) = let e : ends g ≡ landed_lines g + failures g + cut_lines g = ends_split g in omega arith
ends_split ((Cut l k c, bytes) ∷ g) = let e : ends g ≡ landed_lines g + failures g + cut_lines g = ends_split g in omega arith
ends_split (e ∷ g) = ends_split g

more_most : (b : Bool) (n m : ℕ) → n ≤ m → more_if b n ≤ m + 1
more_most true n m h = omega arith
more_most false n m h = omega arith

flight_cuts_cut : (g : History) → flight_cuts g ≤ cut_lines g
flight_cuts_cut [] = omega arith
flight_cuts_cut ((Cut l k c, bytes) ∷ g) = more_most (flies g k) (flight_cuts g) (cut_lines g) (flight_cuts_cut g)
flight_cuts_cut (e ∷ g) = flight_cuts_cut g

flights_made : (g : History) → IsSound g → flights g ≤ made g + retries g
flights_made g sound =
    let a : flights g ≡ landed_lines g + failures g + retries g + flight_cuts g + one_if (is_up g) = flight_sum g sound in
    let b : ends g ≡ landed_lines g + failures g + cut_lines g = ends_split g in
    let c : flight_cuts g ≤ cut_lines g = flight_cuts_cut g in
    let d : ends g + one_if (is_up g) ≤ made g = ends_made g sound in omega arith

made_cover : (g : History) → IsSound g → made g ≤ cover g
made_cover [] sound = omega arith
made_cover ((Made l k a b, bytes) ∷ g) sound = let e : made g ≤ cover g = made_cover g sound.1 in let begin : a ≡ cover g = sound.0.1.begins in let some : a < b = sound.0.1.is_some in omega arith
made_cover ((Dropped l a b c, bytes) ∷ g) sound = let e : made g ≤ cover g = made_cover g sound.1 in let begin : a ≡ cover g = sound.0.begins in let some : a < b = sound.0.is_some in omega arith
made_cover (e ∷ g) sound = made_cover g sound.1

marked_all : (script : Script) (l : Lane) (g : History) → AllLane script l g → (n : ℕ) → made g ≤ n → length (those (λ k. is_some (mark g k)) n) ≡ marked_lines g
marked_all script l [] all n h = rw (those_empty (λ k. false) n (λ j i. refl)) refl
marked_all script l ((Made l' j a b, bytes) ∷ g) all n h = marked_all script l g all.1 n (omega arith)
marked_all script l ((Marked l' j c, bytes) ∷ g) all n h =
    those_count (λ k. is_some (mark g k)) (λ k. is_some (told_if (j == k) c (mark g k))) j (ap is_some all.0.rule.0)
    (λ k apart. rw (ne_eqb j k (λ e. apart (sym e))) refl) n (let low : j < made g = all.0.rule.1 in omega arith)
    ∙ rw (eq-eqb j j refl) (ap (λ i. i + 1) (marked_all script l g all.1 n h))
marked_all script l (e ∷ g) all n h = marked_all script l g all.1 n h

marked_made : (script : Script) (l : Lane) (g : History) → AllLane script l g → marked_lines g ≤ made g
marked_made script l g all =
    let e : length (those (λ k. is_some (mark g k)) (made g)) ≡ marked_lines g = marked_all script l g all (made g) (omega arith) in
    let m : length (those (λ k. is_some (mark g k)) (made g)) ≤ made g = those_most (λ k. is_some (mark g k)) (made g) in omega arith

opened_top : (g : History) → IsSound g → opened_lines g ≤ top g
opened_top [] sound = omega arith
opened_top ((Opened l k, bytes) ∷ g) sound =
    let e : opened_lines g ≤ top g = opened_top g sound.1 in let low : top g ≤ k = unopened_above g k (in_turn g sound.1) sound.0.is_landed sound.0.is_unopened in omega arith
opened_top (e ∷ g) sound = opened_top g sound.1

gave_front : (g : History) → IsSound g → gave_lines g ≤ front g
gave_front [] sound = omega arith
gave_front ((Gave l n, bytes) ∷ g) sound =
    let e : gave_lines g ≤ front g = gave_front g sound.1 in let low : front g ≤ n = next_above g (in_front g sound.1) n sound.0 in omega arith
gave_front (e ∷ g) sound = gave_front g sound.1

cleared_failed : (script : Script) (l : Lane) (g : History) → AllLane script l g → cleared_lines g + one_if (halted g) ≤ failures g
cleared_failed script l [] all = omega arith
cleared_failed script l ((Failed l' k Halt, bytes) ∷ g) all = let e : cleared_lines g + one_if (halted g) ≤ failures g = cleared_failed script l g all.1 in omega arith
cleared_failed script l ((Failed l' k Proto, bytes) ∷ g) all = let e : cleared_lines g + one_if (halted g) ≤ failures g = cleared_failed script l g all.1 in omega arith
cleared_failed script l ((Cleared l', bytes) ∷ g) all =
    let e : cleared_lines g + one_if (halted g) ≤ failures g = cleared_failed script l g all.1 in let up : one_if (halted g) ≡ 1 = ap one_if all.0.rule in omega arith
cleared_failed script l ((Settled t1 r1 t2 r2, bytes) ∷ g) all = let e : cleared_lines g + one_if (halted g) ≤ failures g = cleared_failed script l g all.1 in omega arith
cleared_failed script l (e ∷ g) all = cleared_failed script l g all.1

-- the pending count pays for the waited lines
pending_if : (b : Bool) (w : ℕ) → (if b then 3 - w else 0) ≤ 3
pending_if true w = omega arith
pending_if false w = omega arith

wait_pays : (b : Bool) (w n t : ℕ) → 0 < (if b then 3 - w else 0) → n + (if b then 3 - w else 0) ≤ t → n + 1 + (if b then 3 - (w + 1) else 0) ≤ t
wait_pays true w n t p h = omega arith
wait_pays false w n t p h = absurd (omega arith)

drop_waits : (b v : Bool) (w w' n t : ℕ) → (v ≡ true → ⊥) → n + (if b then 3 - w else 0) ≤ t → n + (if v then 3 - w' else 0) ≤ t
drop_waits b true w w' n t never h = absurd (never refl)
drop_waits true false w w' n t never h = omega arith
drop_waits false false w w' n t never h = omega arith

nothing_built : (blocks last : Bool) (t b : ℕ) → b ≡ t → (blocks && nat_lt 0 (t - b) && last) ≡ true → ⊥
nothing_built blocks last t b e after = grind (arith, nat_tests)

waits_out : (script : Script) (g : History) → AllLane script Outward g → waited_lines g + pending script.params Outward g ≤ 3 * taken g
waits_out script [] all = rw (and_false (packs script.params.class Outward && nat_lt 0 0)) (omega arith)
waits_out script ((Took l s, bytes) ∷ g) all =
    let e : waited_lines g + pending script.params Outward g ≤ 3 * taken g = waits_out script g all.1 in
    let p : pending script.params Outward ((Took l s, bytes) ∷ g) ≤ 3 = pending_if (block_open script.params Outward ((Took l s, bytes) ∷ g)) _ in omega arith
waits_out script ((Made l k a b, bytes) ∷ g) all =
    let e : waited_lines g + pending script.params Outward g ≤ 3 * taken g = waits_out script g all.1 in
    rw (and_false (packs script.params.class Outward && nat_lt 0 (taken g - b))) (omega arith)
waits_out script ((Waited l, bytes) ∷ g) all = wait_pays (block_open script.params Outward g) (waited_after g (min (taken g - 1) (cover g + 1))) (waited_lines g) (3 * taken g) all.0.rule (waits_out script g all.1)
waits_out script ((Dropped l a b c, bytes) ∷ g) all =
    drop_waits (block_open script.params Outward g) (block_open script.params Outward ((Dropped l a b c, bytes) ∷ g)) _ _ (waited_lines g) (3 * taken g)
    (nothing_built (packs script.params.class Outward) (took_last g) (taken g) b all.0.rule.1) (waits_out script g all.1)
waits_out script (e ∷ g) all = waits_out script g all.1

waits_in : (script : Script) (g : History) → AllLane script Inward g → waited_lines g ≡ 0
waits_in script [] all = refl
waits_in script ((Waited l, bytes) ∷ g) all = absurd (let some : 0 < 0 = all.0.rule in omega arith)
waits_in script (e ∷ g) all = waits_in script g all.1

waits_most : (script : Script) (l : Lane) (g : History) → AllLane script l g → waited_lines g ≤ 3 * taken g
waits_most script Outward g all = let e : waited_lines g + pending script.params Outward g ≤ 3 * taken g = waits_out script g all in omega arith
waits_most script Inward g all = let e : waited_lines g ≡ 0 = waits_in script g all in omega arith

-- FRAMES

abbrev pub sum_from : {X : Type 0} → (ℕ → ℕ) → ℕ → List X → ℕ
sum_from f s [] = 0
sum_from f s (x ∷ xs) = f s + sum_from f (s + 1) xs

total_most : (f : ℕ → ℕ) (s : ℕ) (xs : List (List Frame)) → ((i : ℕ) → f (s + i) ≤ length (unwrap_or (slice_get xs i) [])) → sum_from f s xs ≤ sum_by length xs
total_most f s [] h = omega arith
total_most f s (x ∷ xs) h =
    let rest : sum_from f (s + 1) xs ≤ sum_by length xs = total_most f (s + 1) xs (λ i. subst (λ j. f j ≤ length (unwrap_or (slice_get xs i) [])) (shift i) (h (suc i))) in
    let here : f s ≤ length x = subst (λ j. f j ≤ length x) none (h 0) in
    let split : sum_by length (x ∷ xs) ≡ length x + sum_by length xs = sum_by-cons length x xs in omega arith
  where
    shift : (i : ℕ) → s + suc i ≡ s + 1 + i
    shift i = omega arith

    none : s + 0 ≡ s
    none = omega arith

total_same : {X : Type 0} (f g : ℕ → ℕ) (s : ℕ) (xs : List X) → ((i : ℕ) → s ≤ i → f i ≡ g i) → sum_from f s xs ≡ sum_from g s xs
total_same f g s [] h = refl
total_same f g s (x ∷ xs) h = rw (h s (omega arith), total_same f g (s + 1) xs (λ i k. h i (omega arith))) refl

total_more : {X : Type 0} (f : ℕ → ℕ) (j s : ℕ) (xs : List X) → s ≤ j → j < s + length xs → sum_from (λ i. more_if (j == i) (f i)) s xs ≡ sum_from f s xs + 1
total_more f j s [] low high = absurd (omega arith)
total_more f j s (x ∷ xs) low high = elim (cases_lt s j) [
  | inl less ↦
      let rest : sum_from (λ i. more_if (j == i) (f i)) (s + 1) xs ≡ sum_from f (s + 1) xs + 1 = total_more f j (s + 1) xs (omega arith) (omega arith) in
      rw (ne_eqb j s (λ e. omega arith)) (omega arith)
  | inr more ↦
      let same : j ≡ s = omega arith in
      let rest : sum_from (λ i. more_if (j == i) (f i)) (s + 1) xs ≡ sum_from f (s + 1) xs = total_same (λ i. more_if (j == i) (f i)) f (s + 1) xs (λ i k. rw (ne_eqb j i (λ e. omega arith)) refl) in
      rw (eq-eqb j s same) (omega arith)
]

pub head_within : (script : Script) (l : Lane) (g : History) (s : ℕ) (frame : Frame) → feed_head script l g s ≡ Some frame → s < length (feeds_of script l)
head_within script l g s frame e = go (slice_get (feeds_of script l) s) refl e
  where
    go : (o : Option (List Frame)) → slice_get (feeds_of script l) s ≡ o → slice_get (unwrap_or o []) (consumed g s) ≡ Some frame → s < length (feeds_of script l)
    go None f h = absurd (cc)
    go (Some x) f h = slice_get_within (feeds_of script l) s x f

abbrev head_of : Entry → ℕ
head_of (Took l s, bytes) = s
head_of (Refused l s why, bytes) = s
head_of (e, bytes) = 0

more_within : (b : Bool) (c m : ℕ) → (b ≡ true → c < m) → c ≤ m → more_if b c ≤ m
more_within true c m h low = let some : c < m = h refl in omega arith
more_within false c m h low = low

consumed_step : (script : Script) (l : Lane) (g : History) (s i : ℕ) (frame : Frame) → feed_head script l g s ≡ Some frame → consumed g i ≤ length (frames_of script l i) → more_if (s == i) (consumed g i) ≤ length (frames_of script l i)
consumed_step script l g s i frame e low =
    more_within (s == i) (consumed g i) (length (frames_of script l i))
    (λ t. subst (λ j. consumed g j < length (frames_of script l j)) (eqb-true s i t) (slice_get_within (frames_of script l s) (consumed g s) frame e)) low

consumed_within : (script : Script) (l : Lane) (g : History) → AllLane script l g → (i : ℕ) → consumed g i ≤ length (frames_of script l i)
consumed_within script l [] all i = omega arith
consumed_within script l ((Took l' s, bytes) ∷ g) all i = consumed_step script l g s i all.0.rule.frame all.0.rule.is_head (consumed_within script l g all.1 i)
consumed_within script l ((Refused l' s why, bytes) ∷ g) all i = consumed_step script l g s i all.0.rule.frame all.0.rule.is_head (consumed_within script l g all.1 i)
consumed_within script l (e ∷ g) all i = consumed_within script l g all.1 i

consumed_total : (script : Script) (l : Lane) (g : History) → AllLane script l g → sum_from (consumed g) 0 (feeds_of script l) ≡ taken g + refused_lines g
consumed_total script l [] all = none (feeds_of script l) 0
  where
    none : (xs : List (List Frame)) (s : ℕ) → sum_from (λ i. 0) s xs ≡ 0
    none [] s = refl
    none (x ∷ xs) s = let e : sum_from (λ i. 0) (s + 1) xs ≡ 0 = none xs (s + 1) in omega arith
consumed_total script l ((Took l' s, bytes) ∷ g) all =
    let e : sum_from (consumed g) 0 (feeds_of script l) ≡ taken g + refused_lines g = consumed_total script l g all.1 in
    let m : sum_from (λ i. more_if (s == i) (consumed g i)) 0 (feeds_of script l) ≡ sum_from (consumed g) 0 (feeds_of script l) + 1 =
    total_more (consumed g) s 0 (feeds_of script l) (omega arith) (let low : s < length (feeds_of script l) = head_within script l g s all.0.rule.frame all.0.rule.is_head in omega arith) in omega arith
consumed_total script l ((Refused l' s why, bytes) ∷ g) all =
    let e : sum_from (consumed g) 0 (feeds_of script l) ≡ taken g + refused_lines g = consumed_total script l g all.1 in
    let m : sum_from (λ i. more_if (s == i) (consumed g i)) 0 (feeds_of script l) ≡ sum_from (consumed g) 0 (feeds_of script l) + 1 =
    total_more (consumed g) s 0 (feeds_of script l) (omega arith) (let low : s < length (feeds_of script l) = head_within script l g s all.0.rule.frame all.0.rule.is_head in omega arith) in omega arith
consumed_total script l (e ∷ g) all = consumed_total script l g all.1

frames_most : (script : Script) (l : Lane) (g : History) → AllLane script l g → taken g + refused_lines g ≤ sum_by length (feeds_of script l)
frames_most script l g all =
    let e : sum_from (consumed g) 0 (feeds_of script l) ≡ taken g + refused_lines g = consumed_total script l g all in
    let m : sum_from (consumed g) 0 (feeds_of script l) ≤ sum_by length (feeds_of script l) = total_most (consumed g) 0 (feeds_of script l) (λ i. subst (λ j. consumed g j ≤ length (frames_of script l i)) (shift i) (consumed_within script l g all i)) in omega arith
  where
    shift : (i : ℕ) → i ≡ 0 + i
    shift i = omega arith

-- ONE LANE

no_controls : (l : Lane) (older : History) → controls_done (filter (concerns l) older) ≡ 0
no_controls l [] = refl
no_controls l ((Line.Control c f, bytes) ∷ older) = no_controls l older
no_controls l (e ∷ older) = go (concerns l e) (no_controls l older)
  where
    go : (b : Bool) → controls_done (filter (concerns l) older) ≡ 0 → controls_done (if b then (e ∷ filter (concerns l) older) else filter (concerns l) older) ≡ 0
    go true r = r
    go false r = r

posted_most : (params : Params) (l : Lane) (g : History) → IsSound g → HomeSums params l g → posted g ≤ rx_size params l
posted_most params l g sound s =
    let a : rx_home params l g + posted g + one_if (is_up g) + landed_lines g ≡ rx_size params l + length (delivered g) = s.receive_all in
    let d : length (delivered g) ≤ landed_lines g = delivered_landed g sound in omega arith

pub lane_bound : (script : Script) (l : Lane) (g : History) → IsSound g → AllLane script l g → controls_done g ≡ 0 → length g ≤ 22 * sum_by length (feeds_of script l) + 2 * recalls g + rx_size script.params l + dropped_lines g + settled_lines g
lane_bound script l g sound all nc =
    let k : length g ≡ kinds g = every_kind g in
    let a : made g ≤ cover g = made_cover g sound in
    let b : cover g ≤ taken g = cover_below g sound in
    let w : waited_lines g ≤ 3 * taken g = waits_most script l g all in
    let f : flights g ≤ made g + retries g = flights_made g sound in
    let re : retries g ≤ 3 * made g = retries_made script l g sound all in
    let en : ends g + one_if (is_up g) ≤ made g = ends_made g sound in
    let m : marked_lines g ≤ made g = marked_made script l g all in
    let r : returned g ≤ ends g = returned_ends g sound in
    let o : opened_lines g ≤ top g = opened_top g sound in
    let t : top g ≤ ends g = top_below g sound in
    let gf : gave_lines g ≤ front g = gave_front g sound in
    let fc : front g ≤ cover g = front_below g sound in
    let c : cleared_lines g + one_if (halted g) ≤ failures g = cleared_failed script l g all in
    let es : ends g ≡ landed_lines g + failures g + cut_lines g = ends_split g in
    let s : HomeSums script.params l g = home_sums script l g sound all in
    let p : posted g ≤ rx_size script.params l = posted_most script.params l g sound s in
    let pi : recalls g + flights g + posted g ≡ posts g = s.posted_is in
    let fr : taken g + refused_lines g ≤ sum_by length (feeds_of script l) = frames_most script l g all in omega arith

-- THE WHOLE HISTORY

-- every line but a control's is of one lane, and a settled line of both
one_lane : (l : Lane) (e : Entry) (older : History) → length older + settled_lines older ≡ length (filter (concerns Outward) older) + length (filter (concerns Inward) older) + controls_done older
    → length (e ∷ older) + settled_lines older ≡ length (if same_lane Outward l then (e ∷ filter (concerns Outward) older) else filter (concerns Outward) older) + length (if same_lane Inward l then (e ∷ filter (concerns Inward) older) else filter (concerns Inward) older) + controls_done older
one_lane Outward e older w = omega arith
one_lane Inward e older w = omega arith

both_lanes : (older : History) → length older + settled_lines older ≡ length (filter (concerns Outward) older) + length (filter (concerns Inward) older) + controls_done older
both_lanes [] = refl
both_lanes ((Line.Control c f, bytes) ∷ older) =
    let e : length older + settled_lines older ≡ length (filter (concerns Outward) older) + length (filter (concerns Inward) older) + controls_done older = both_lanes older in omega arith
both_lanes ((Settled t1 r1 t2 r2, bytes) ∷ older) =
    let e : length older + settled_lines older ≡ length (filter (concerns Outward) older) + length (filter (concerns Inward) older) + controls_done older = both_lanes older in omega arith
both_lanes ((Took l s, bytes) ∷ older) = one_lane l (Took l s, bytes) older (both_lanes older)
both_lanes ((Refused l s why, bytes) ∷ older) = one_lane l (Refused l s why, bytes) older (both_lanes older)
both_lanes ((Made l k a b, bytes) ∷ older) = one_lane l (Made l k a b, bytes) older (both_lanes older)
both_lanes ((Waited l, bytes) ∷ older) = one_lane l (Waited l, bytes) older (both_lanes older)
both_lanes ((Posted l, bytes) ∷ older) = one_lane l (Posted l, bytes) older (both_lanes older)
both_lanes ((Flying l k, bytes) ∷ older) = one_lane l (Flying l k, bytes) older (both_lanes older)
both_lanes ((Landed l k, bytes) ∷ older) = one_lane l (Landed l k, bytes) older (both_lanes older)
both_lanes ((Failed l k kind, bytes) ∷ older) = one_lane l (Failed l k kind, bytes) older (both_lanes older)
both_lanes ((Retried l k n, bytes) ∷ older) = one_lane l (Retried l k n, bytes) older (both_lanes older)
both_lanes ((Marked l k c, bytes) ∷ older) = one_lane l (Marked l k c, bytes) older (both_lanes older)
both_lanes ((Cut l k c, bytes) ∷ older) = one_lane l (Cut l k c, bytes) older (both_lanes older)
both_lanes ((Dropped l a b c, bytes) ∷ older) = one_lane l (Dropped l a b c, bytes) older (both_lanes older)
both_lanes ((TxHome l k, bytes) ∷ older) = one_lane l (TxHome l k, bytes) older (both_lanes older)
both_lanes ((Opened l k, bytes) ∷ older) = one_lane l (Opened l k, bytes) older (both_lanes older)
both_lanes ((Gave l n, bytes) ∷ older) = one_lane l (Gave l n, bytes) older (both_lanes older)
both_lanes ((Recalled l, bytes) ∷ older) = one_lane l (Recalled l, bytes) older (both_lanes older)
both_lanes ((Cleared l, bytes) ∷ older) = one_lane l (Cleared l, bytes) older (both_lanes older)

-- a settled line is paid by the control that stopped, and so is a dropped line
settled_in : (phase : Phase) → ℕ
settled_in phase = one_if (is_stopping phase || is_leaving phase)

after_stop : (phase : Phase) → (is_stopping phase || is_leaving phase) ≡ true → ((is_stopping (after_settled phase) || is_leaving (after_settled phase)) ≡ false) × (works (after_settled phase) ≡ works phase) × (is_awake (after_settled phase) ≡ is_awake phase)
after_stop Stopping e = (refl, refl, refl)
after_stop Leaving e = (refl, refl, refl)
after_stop Up e = absurd (false≢true e)
after_stop Asleep e = absurd (false≢true e)
after_stop Down e = absurd (false≢true e)
after_stop Away e = absurd (false≢true e)

pub settled_paid : (script : Script) (older : History) → AllRuled script older → settled_lines older + one_if (is_stopping (phase_after script.controls older) || is_leaving (phase_after script.controls older)) ≤ controls_done older
settled_paid script [] all = omega arith
settled_paid script ((Line.Control c f, bytes) ∷ older) all =
    let e : settled_lines older + one_if (is_stopping (phase_after script.controls older) || is_leaving (phase_after script.controls older)) ≤ controls_done older = settled_paid script older all.1 in
    let o : one_if (is_stopping (phase_after script.controls ((Line.Control c f, bytes) ∷ older)) || is_leaving (phase_after script.controls ((Line.Control c f, bytes) ∷ older))) ≤ 1 = one_most _ in omega arith
settled_paid script ((Settled t1 r1 t2 r2, bytes) ∷ older) all =
    let e : settled_lines older + one_if (is_stopping (phase_after script.controls older) || is_leaving (phase_after script.controls older)) ≤ controls_done older = settled_paid script older all.1 in
    let up : one_if (is_stopping (phase_after script.controls older) || is_leaving (phase_after script.controls older)) ≡ 1 = ap one_if all.0.of_link in
    let down : one_if (is_stopping (after_settled (phase_after script.controls older)) || is_leaving (after_settled (phase_after script.controls older))) ≡ 0 = ap one_if (after_stop (phase_after script.controls older) all.0.of_link).0 in omega arith
settled_paid script (e ∷ older) all = settled_paid script older all.1

-- a drop is owed where something is built and the link doesn't work
abbrev owed : Phase → History → ℕ
owed phase g = one_if (not (works phase) && nat_lt 0 (built g))

owed_still : (phase phase' : Phase) (g : History) → works phase' ≡ works phase → owed phase' g ≡ owed phase g
owed_still phase phase' g e = rw e refl

-- what one more line owes
owed_line : (script : Script) (phase : Phase) (l : Lane) (e : Entry) (g : History) → LaneRule script phase l e g → IsSound (e ∷ g) → dropped_lines (e ∷ g) + owed phase (e ∷ g) ≤ dropped_lines g + owed phase g
owed_line script phase l (Took l' s, bytes) g r sound = let w : works phase ≡ true = r.is_working in rw w (omega arith)
owed_line script phase l (Made l' k a b, bytes) g r sound = less (works phase) (taken g) b (cover g) (let begin : a ≡ cover g = sound.0.1.begins in let some : a < b = sound.0.1.is_some in omega arith)
  where
    less : (w : Bool) (t b c : ℕ) → c ≤ b → dropped_lines g + one_if (not w && nat_lt 0 (t - b)) ≤ dropped_lines g + one_if (not w && nat_lt 0 (t - c))
    less true t b c h = omega arith
    less false t b c h = go (nat_lt 0 (t - b)) refl
      where
        go : (v : Bool) → nat_lt 0 (t - b) ≡ v → dropped_lines g + one_if v ≤ dropped_lines g + one_if (nat_lt 0 (t - c))
        go false e = omega arith
        go true e = let some : 0 < t - b = ltb-true 0 (t - b) e in rw (lt-ltb 0 (t - c) (omega arith)) (omega arith)
owed_line script phase l (Dropped l' a b c, bytes) g r sound =
    let w : works phase ≡ false = r.0 in
    let is_by : b ≡ taken g = r.1 in
    let begin : a ≡ cover g = sound.0.begins in
    let some : a < b = sound.0.is_some in
    let none : taken g - b ≡ 0 = omega arith in
    let yes : nat_lt 0 (taken g - cover g) ≡ true = lt-ltb 0 (taken g - cover g) (omega arith) in
    rw (w, yes, none) (omega arith)
owed_line script phase l (e, bytes) g r sound = omega arith

owed_if : (script : Script) (phase : Phase) (l : Lane) (b : Bool) (e : Entry) (g : History) → (b ≡ true → LaneRule script phase l e g) → IsSound (if b then (e ∷ g) else g) → dropped_lines (if b then (e ∷ g) else g) + owed phase (if b then (e ∷ g) else g) ≤ dropped_lines g + owed phase g
owed_if script phase l true e g r sound = owed_line script phase l e g (r refl) sound
owed_if script phase l false e g r sound = omega arith

-- a recall is paid by a control, with what is posted while the link isn't up
abbrev out_of : Bool → ℕ → ℕ
out_of true n = 0
out_of false n = n

recall_line : (script : Script) (phase : Phase) (l : Lane) (e : Entry) (g : History) → LaneRule script phase l e g → recalls (e ∷ g) + out_of (is_awake phase) (posted (e ∷ g)) ≤ recalls g + out_of (is_awake phase) (posted g)
recall_line script phase l (Posted l', bytes) g r = let a : is_awake phase ≡ true = r.0 in rw a (omega arith)
recall_line script phase l (Recalled l', bytes) g r = let a : is_awake phase ≡ false = r.0 in let some : 0 < posted g = r.1 in rw a (omega arith)
recall_line script phase l (Flying l' k, bytes) g r = go (is_awake phase)
  where
    go : (b : Bool) → recalls g + out_of b (posts g - (recalls g + (flights g + 1))) ≤ recalls g + out_of b (posts g - (recalls g + flights g))
    go true = omega arith
    go false = omega arith
recall_line script phase l (e, bytes) g r = omega arith

recall_if : (script : Script) (phase : Phase) (l : Lane) (b : Bool) (e : Entry) (g : History) → (b ≡ true → LaneRule script phase l e g) → recalls (if b then (e ∷ g) else g) + out_of (is_awake phase) (posted (if b then (e ∷ g) else g)) ≤ recalls g + out_of (is_awake phase) (posted g)
recall_if script phase l true e g r = recall_line script phase l e g (r refl)
recall_if script phase l false e g r = omega arith

pub record Paid (script : Script) (l : Lane) (older : History) : Type 0 where
  pub for_drops : dropped_lines (filter (concerns l) older) + owed (phase_after script.controls older) (filter (concerns l) older) ≤ controls_done older
  pub for_recalls : recalls (filter (concerns l) older) + out_of (is_awake (phase_after script.controls older)) (posted (filter (concerns l) older)) ≤ controls_done older * rx_size script.params l

out_most : (b : Bool) (n m : ℕ) → n ≤ m → out_of b n ≤ m
out_most true n m h = omega arith
out_most false n m h = h

times_more : (n s : ℕ) → (n + 1) * s ≡ n * s + s
times_more n s = omega arith

paid_same : (script : Script) (l : Lane) (e : Entry) (older : History) → phase_after script.controls (e ∷ older) ≡ phase_after script.controls older → controls_done (e ∷ older) ≡ controls_done older
    → (concerns l e ≡ true → LaneRule script (phase_after script.controls older) l e (filter (concerns l) older)) → IsSound (filter (concerns l) (e ∷ older)) → Paid script l older → Paid script l (e ∷ older)
paid_same script l e older p d r sound w =
    let a : dropped_lines (filter (concerns l) (e ∷ older)) + owed (phase_after script.controls older) (filter (concerns l) (e ∷ older)) ≤ dropped_lines (filter (concerns l) older) + owed (phase_after script.controls older) (filter (concerns l) older) =
    owed_if script (phase_after script.controls older) l (concerns l e) e (filter (concerns l) older) r sound in
    let b : recalls (filter (concerns l) (e ∷ older)) + out_of (is_awake (phase_after script.controls older)) (posted (filter (concerns l) (e ∷ older))) ≤ recalls (filter (concerns l) older) + out_of (is_awake (phase_after script.controls older)) (posted (filter (concerns l) older)) =
    recall_if script (phase_after script.controls older) l (concerns l e) e (filter (concerns l) older) r in
    let wd : dropped_lines (filter (concerns l) older) + owed (phase_after script.controls older) (filter (concerns l) older) ≤ controls_done older = w.for_drops in
    let wr : recalls (filter (concerns l) older) + out_of (is_awake (phase_after script.controls older)) (posted (filter (concerns l) older)) ≤ controls_done older * rx_size script.params l = w.for_recalls in
    record {
      for_drops = rw (p, d) (omega arith);
      for_recalls = rw (p, d) (omega arith);
    }

pub paid : (script : Script) (l : Lane) (older : History) → AllRuled script older → IsSound (filter (concerns l) older) → Paid script l older
paid script l [] all sound = record { for_drops = omega arith; for_recalls = go (is_awake Up) }
  where
    go : (b : Bool) → 0 + out_of b (0 - 0) ≤ 0 * rx_size script.params l
    go true = omega arith
    go false = omega arith
paid script l ((Line.Control c f, bytes) ∷ older) all sound =
    let w = paid script l older all.1 sound in
    let wd : dropped_lines (filter (concerns l) older) + owed (phase_after script.controls older) (filter (concerns l) older) ≤ controls_done older = w.for_drops in
    let wr : recalls (filter (concerns l) older) + out_of (is_awake (phase_after script.controls older)) (posted (filter (concerns l) older)) ≤ controls_done older * rx_size script.params l = w.for_recalls in
    let p : posted (filter (concerns l) older) ≤ rx_size script.params l = posted_most script.params l (filter (concerns l) older) sound (home_sums script l (filter (concerns l) older) sound (lane_ruled script older all.1 l)) in
    let o : owed (after_control (slice_get script.controls c) (phase_after script.controls older)) (filter (concerns l) older) ≤ 1 = one_most _ in
    let r : out_of (is_awake (after_control (slice_get script.controls c) (phase_after script.controls older))) (posted (filter (concerns l) older)) ≤ rx_size script.params l = out_most _ (posted (filter (concerns l) older)) (rx_size script.params l) p in
    let t : (controls_done older + 1) * rx_size script.params l ≡ controls_done older * rx_size script.params l + rx_size script.params l = times_more (controls_done older) (rx_size script.params l) in
    record { for_drops = omega arith; for_recalls = omega arith }
paid script l ((Settled t1 r1 t2 r2, bytes) ∷ older) all sound =
    let w = paid script l older all.1 sound.1 in
    let s = after_stop (phase_after script.controls older) all.0.of_link in
    record { for_drops = rw s.1 w.for_drops; for_recalls = rw s.2 w.for_recalls }
paid script l (e ∷ older) all sound = paid_same script l e older refl refl (all.0.of_lane l) sound (paid script l older all.1 (sound_under (concerns l e) e (filter (concerns l) older) sound))

settled_both : (l : Lane) (older : History) → settled_lines (filter (concerns l) older) ≡ settled_lines older
settled_both l [] = refl
settled_both l ((Settled t1 r1 t2 r2, bytes) ∷ older) = ap (λ i. i + 1) (settled_both l older)
settled_both l (e ∷ older) = go (concerns l e) (settled_both l older)
  where
    go : (b : Bool) → settled_lines (filter (concerns l) older) ≡ settled_lines older → settled_lines (if b then (e ∷ filter (concerns l) older) else filter (concerns l) older) ≡ settled_lines older
    go true r = r
    go false r = r

sum_two : (done c q r1 r2 s1 s2 : ℕ) → done ≤ c → r1 ≤ done * s1 → r2 ≤ done * s2 → 2 * r1 + s1 + (2 * r2 + s2) ≤ (2 * c + 1) * (s1 + s2)
sum_two done c q r1 r2 s1 s2 h a b =
    let a' : done * s1 ≤ c * s1 = mul-le-mul_right s1 h in
    let b' : done * s2 ≤ c * s2 = mul-le-mul_right s2 h in
    grind arith

pub legal_bound : (script : Script) (h : History) → Legal script h → length h ≤ line_bound script
legal_bound script h legal =
    let ruled = legal_ruled script h legal in
    let good = legal_good script h legal in
    let o : length (past Outward h) ≤ 22 * sum_by length (feeds_of script Outward) + 2 * recalls (past Outward h) + script.params.rx_out + dropped_lines (past Outward h) + settled_lines (past Outward h) =
    lane_bound script Outward (past Outward h) (good.sound Outward) (lane_ruled script (reverse h) ruled Outward) (no_controls Outward (reverse h)) in
    let i : length (past Inward h) ≤ 22 * sum_by length (feeds_of script Inward) + 2 * recalls (past Inward h) + script.params.rx_in + dropped_lines (past Inward h) + settled_lines (past Inward h) =
    lane_bound script Inward (past Inward h) (good.sound Inward) (lane_ruled script (reverse h) ruled Inward) (no_controls Inward (reverse h)) in
    let po = paid script Outward (reverse h) ruled (good.sound Outward) in
    let pi = paid script Inward (reverse h) ruled (good.sound Inward) in
    let dro : dropped_lines (past Outward h) + owed (phase_of script h) (past Outward h) ≤ controls_done (reverse h) = po.for_drops in
    let dri : dropped_lines (past Inward h) + owed (phase_of script h) (past Inward h) ≤ controls_done (reverse h) = pi.for_drops in
    let reo : recalls (past Outward h) + out_of (is_awake (phase_of script h)) (posted (past Outward h)) ≤ controls_done (reverse h) * script.params.rx_out = po.for_recalls in
    let rei : recalls (past Inward h) + out_of (is_awake (phase_of script h)) (posted (past Inward h)) ≤ controls_done (reverse h) * script.params.rx_in = pi.for_recalls in
    let se : settled_lines (reverse h) + one_if (is_stopping (phase_of script h) || is_leaving (phase_of script h)) ≤ controls_done (reverse h) = settled_paid script (reverse h) ruled in
    let so : settled_lines (past Outward h) ≡ settled_lines (reverse h) = settled_both Outward (reverse h) in
    let si : settled_lines (past Inward h) ≡ settled_lines (reverse h) = settled_both Inward (reverse h) in
    let b : length (reverse h) + settled_lines (reverse h) ≡ length (past Outward h) + length (past Inward h) + controls_done (reverse h) = both_lanes (reverse h) in
    let c : controls_done (reverse h) ≤ length script.controls = controls_within script (reverse h) ruled in
    let len : length (reverse h) ≡ length h = length-reverse h in
    let two : 2 * recalls (past Outward h) + script.params.rx_out + (2 * recalls (past Inward h) + script.params.rx_in) ≤ (2 * length script.controls + 1) * (script.params.rx_out + script.params.rx_in) =
    sum_two (controls_done (reverse h)) (length script.controls) 0 (recalls (past Outward h)) (recalls (past Inward h)) script.params.rx_out script.params.rx_in c (omega arith) (omega arith) in
    omega arith
