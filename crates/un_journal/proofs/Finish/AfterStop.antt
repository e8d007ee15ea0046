-- What a stop leaves: nothing built while the link doesn't work; while it leaves, every transfer that isn't over is marked and nothing
-- is posted; where it is down or away, every transmit request came home.
use Rattle.std.proofs.Common.{◌≡◌, ℕ, zero, suc, ◌+◌, ◌-◌, ◌<◌, ◌≤◌, Bool, true, false, not, ◌&&◌, ◌||◌, ◌==◌, List, [], ◌∷◌, ◌++◌, Option, Some, inl, inr, refl, sym, ap, ◌∙◌, subst, arith, if◌then◌else◌, filter, reverse, slice_get, is_some}
use Rattle.std.proofs.lemmas.Bool.{false≢true, eqb-true, or_cases, or_left}
use Rattle.un_frame.specs.Lanes.{tx_size}
use Rattle.un_facts.specs.Numbers.{one_if}
use Rattle.un_frame.specs.declared.params.Lane.{Lane}
use Rattle.un_frame.specs.declared.params.Lane.TheVariants.{Outward, Inward}
use Rattle.un_frame.specs.declared.kinds.Phase.{Phase}
use Rattle.un_frame.specs.declared.kinds.Phase.TheVariants.{Up, Asleep, Stopping, Leaving, Down, Away}
use Rattle.un_journal.specs.declared.lines.Line.{Line}
use Rattle.un_journal.specs.declared.lines.Line.TheVariants.{Took, Made, Posted, Flying, Landed, Failed, Marked, Cut, Dropped, TxHome, Recalled, Settled}
use Rattle.un_journal.specs.declared.controls.Control.{Control as Order}
use Rattle.un_journal.specs.declared.controls.Due.{Due}
use Rattle.un_journal.specs.Script.{Script}
use Rattle.un_journal.specs.History.{Entry, History, past, concerns, taken, made, cover, built, posted, flies, waits, waiting, ended, landed, failed, was_cut, mark, returned, told_if, ends}
use Rattle.un_journal.specs.Lookup.{phase_of, phase_after, after_order, after_control, after_settled, works, is_awake, is_stopping, is_leaving, controls_done, tx_home, deferred, unmarked, is_deferring, claim}
use Rattle.un_journal.specs.LaneSteps.{bare}
use Rattle.un_journal.specs.Step.{cut_each, marked_each, recalled_each, dropped_built, order_lines, settled_line}
use Rattle.un_journal.specs.Sound.{IsSound}
use Rattle.un_journal.specs.Done.{is_gone}
use Rattle.un_journal.specs.Fits.{Act, Fits, takes, refuses, waits_once, closes, begins_flight, cuts_queued, lands, tries_again, fails, cuts_flight, comes_home, opens, gives, posts_one, marks, recalls_one, clears, settles, orders, orders_forced, Legal, begins, goes_on, after_took}
use Rattle.un_journal.proofs.Lanes.MayFollow.{AllSound}
use Rattle.un_journal.proofs.Steps.StaySound.{legal_good}
use Rattle.un_journal.proofs.Lists.NewestFirst.{onto, onto_append, reverse_onto, filter_onto, sound_under}
use Rattle.un_journal.specs.Rules.{LaneRule, Rule, AllRuled}
use Rattle.un_journal.proofs.Steps.OrderLines.{AreStill, is_still_line, still_phase, onto_cut, onto_marked, onto_recalled, onto_dropped, onto_stop, stop_part, order_part, order_filter, order_still, pick, made_still, still_phases}
use Rattle.un_journal.proofs.Steps.LineRules.{legal_ruled, ruled_base}
use Rattle.un_journal.proofs.Lanes.PoolSums.{ends_made, returned_ends, ended_below, legal_sums, HomeSums}
use Rattle.un_journal.proofs.Lanes.SerialOrder.{is_up}
use Rattle.un_journal.proofs.Lists.Counting.{some_onto}
use Rattle.un_journal.proofs.Lists.Passing.{has, those_has}

-- every transfer that isn't over is marked
abbrev pub AllMarked : History → Type 0
AllMarked g = (k : ℕ) → k < made g → ended g k ≡ false → is_some (mark g k) ≡ true

pub record CalmLane (phase : Phase) (g : History) : Type 0 where
  pub emptied : works phase ≡ false → built g ≡ 0
  pub leaving : is_leaving phase ≡ true → AllMarked g × (posted g ≡ 0)
  pub gone : is_gone phase ≡ true → returned g ≡ made g

leaving_rests : (phase : Phase) → is_leaving phase ≡ true → (works phase ≡ false) × (is_awake phase ≡ false)
leaving_rests Leaving e = (refl, refl)
leaving_rests Up e = absurd (false≢true e)
leaving_rests Asleep e = absurd (false≢true e)
leaving_rests Stopping e = absurd (false≢true e)
leaving_rests Down e = absurd (false≢true e)
leaving_rests Away e = absurd (false≢true e)

gone_rests : (phase : Phase) → is_gone phase ≡ true → works phase ≡ false
gone_rests Leaving e = refl
gone_rests Up e = absurd (false≢true e)
gone_rests Asleep e = absurd (false≢true e)
gone_rests Stopping e = refl
gone_rests Down e = refl
gone_rests Away e = refl

-- ONE MORE LINE

ended_more : (b : Bool) (l x c : Bool) → ((b || l) || x || c) ≡ false → (l || x || c) ≡ false
ended_more true l x c e = absurd (false≢true (sym e))
ended_more false l x c e = e

ended_more_failed : (b : Bool) (l x c : Bool) → (l || (b || x) || c) ≡ false → (l || x || c) ≡ false
ended_more_failed true true x c e = absurd (false≢true (sym e))
ended_more_failed true false x c e = absurd (false≢true (sym e))
ended_more_failed false l x c e = e

ended_more_cut : (b : Bool) (l x c : Bool) → (l || x || (b || c)) ≡ false → (l || x || c) ≡ false
ended_more_cut true true x c e = absurd (false≢true (sym e))
ended_more_cut true false true c e = absurd (false≢true (sym e))
ended_more_cut true false false c e = absurd (false≢true (sym e))
ended_more_cut false l x c e = e

told_still : (b : Bool) (c : ℕ) (o : Option ℕ) → is_some o ≡ true → is_some (told_if b c o) ≡ true
told_still true c o e = refl
told_still false c o e = e

calm_line : (script : Script) (phase : Phase) (l : Lane) (e : Entry) (g : History) → is_still_line e ≡ true → LaneRule script phase l e g → IsSound (e ∷ g) → CalmLane phase g → CalmLane phase (e ∷ g)
calm_line script phase l (Took l' s, bytes) g still r sound w = record {
  emptied = λ q. absurd (false≢true (sym q ∙ r.is_working));
  leaving = λ q. absurd (false≢true (sym (leaving_rests phase q).0 ∙ r.is_working));
  gone = λ q. absurd (false≢true (sym (gone_rests phase q) ∙ r.is_working));
}
calm_line script phase l (Made l' k a b, bytes) g still r sound w = record {
  emptied = λ q. let none : built g ≡ 0 = w.emptied q in let begin : a ≡ cover g = sound.0.1.begins in let some : a < b = sound.0.1.is_some in let is_by : b ≤ taken g = sound.0.1.is_taken in absurd (omega arith);
  leaving = λ q. let none : built g ≡ 0 = w.emptied (leaving_rests phase q).0 in let begin : a ≡ cover g = sound.0.1.begins in let some : a < b = sound.0.1.is_some in let is_by : b ≤ taken g = sound.0.1.is_taken in absurd (omega arith);
  gone = λ q. let none : built g ≡ 0 = w.emptied (gone_rests phase q) in let begin : a ≡ cover g = sound.0.1.begins in let some : a < b = sound.0.1.is_some in let is_by : b ≤ taken g = sound.0.1.is_taken in absurd (omega arith);
}
calm_line script phase l (Dropped l' a b c, bytes) g still r sound w = record {
  emptied = λ q. let none : built g ≡ 0 = w.emptied q in let begin : a ≡ cover g = sound.0.begins in let some : a < b = sound.0.is_some in let is_by : b ≤ taken g = sound.0.is_taken in absurd (omega arith);
  leaving = w.leaving;
  gone = w.gone;
}
calm_line script phase l (Posted l', bytes) g still r sound w = record {
  emptied = w.emptied;
  leaving = λ q. absurd (false≢true (sym (leaving_rests phase q).1 ∙ r.0));
  gone = w.gone;
}
calm_line script phase l (Flying l' k, bytes) g still r sound w = record {
  emptied = w.emptied;
  leaving = λ q. ((w.leaving q).0, (let none : posted g ≡ 0 = (w.leaving q).1 in omega arith));
  gone = w.gone;
}
calm_line script phase l (Recalled l', bytes) g still r sound w = record {
  emptied = w.emptied;
  leaving = λ q. ((w.leaving q).0, (let none : posted g ≡ 0 = (w.leaving q).1 in omega arith));
  gone = w.gone;
}
calm_line script phase l (Landed l' j, bytes) g still r sound w = record {
  emptied = w.emptied;
  leaving = λ q. (λ k h e. (w.leaving q).0 k h (ended_more (j == k) (landed g k) (failed g k) (was_cut g k) e), (w.leaving q).1);
  gone = w.gone;
}
calm_line script phase l (Failed l' j kind, bytes) g still r sound w = record {
  emptied = w.emptied;
  leaving = λ q. (λ k h e. (w.leaving q).0 k h (ended_more_failed (j == k) (landed g k) (failed g k) (was_cut g k) e), (w.leaving q).1);
  gone = w.gone;
}
calm_line script phase l (Cut l' j c, bytes) g still r sound w = record {
  emptied = w.emptied;
  leaving = λ q. (λ k h e. (w.leaving q).0 k h (ended_more_cut (j == k) (landed g k) (failed g k) (was_cut g k) e), (w.leaving q).1);
  gone = w.gone;
}
calm_line script phase l (Marked l' j c, bytes) g still r sound w = record {
  emptied = w.emptied;
  leaving = λ q. (λ k h e. told_still (j == k) c (mark g k) ((w.leaving q).0 k h e), (w.leaving q).1);
  gone = w.gone;
}
calm_line script phase l (TxHome l' k, bytes) g still r sound w = record {
  emptied = w.emptied;
  leaving = w.leaving;
  gone = λ q. let all : returned g ≡ made g = w.gone q in
      let low : k < ends g = ended_below g sound.1 k sound.0.1 in let same : k ≡ returned g = sound.0.0 in let high : ends g + one_if (is_up g) ≤ made g = ends_made g sound.1 in absurd (omega arith);
}
calm_line script phase l (Line.Control c f, bytes) g still r sound w = absurd (false≢true still)
calm_line script phase l (Settled t1 r1 t2 r2, bytes) g still r sound w = absurd (false≢true still)
calm_line script phase l (e, bytes) g still r sound w = record { emptied = w.emptied; leaving = w.leaving; gone = w.gone }

-- MORE LINES

abbrev Sounds : History → Type 0
Sounds older = (l : Lane) → IsSound (filter (concerns l) older)

sound_base : (lines older : History) → Sounds (onto lines older) → Sounds older
sound_base [] older s l = s l
sound_base (e ∷ es) older s l = sound_under (concerns l e) e (filter (concerns l) older) (sound_base es (e ∷ older) s l)

calm_if : (script : Script) (phase : Phase) (l : Lane) (b : Bool) (e : Entry) (g : History) → is_still_line e ≡ true → (b ≡ true → LaneRule script phase l e g) → IsSound (if b then (e ∷ g) else g) → CalmLane phase g → CalmLane phase (if b then (e ∷ g) else g)
calm_if script phase l true e g still r sound w = calm_line script phase l e g still (r refl) sound w
calm_if script phase l false e g still r sound w = w

calm_lines : (script : Script) (phase : Phase) (lines older : History) → AreStill lines → phase_after script.controls older ≡ phase → AllRuled script (onto lines older) → Sounds (onto lines older)
    → ((l : Lane) → CalmLane phase (filter (concerns l) older)) → (l : Lane) → CalmLane phase (filter (concerns l) (onto lines older))
calm_lines script phase [] older still p all sound w l = w l
calm_lines script phase (e ∷ es) older still p all sound w l =
    calm_lines script phase es (e ∷ older) still.1 (still_phase script.controls e older still.0 ∙ p) all sound
    (λ i. calm_if script phase i (concerns i e) e (filter (concerns i) older) still.0
    (λ c. subst (λ q. LaneRule script q i e (filter (concerns i) older)) p ((ruled_base script es (e ∷ older) all).0.of_lane i c))
    (sound_base es (e ∷ older) sound i) (w i)) l

abbrev pub Calm : Script → History → Type 0
Calm script h = (l : Lane) → CalmLane (phase_of script h) (past l h)

-- a step that changes no phase
still_calm : (script : Script) (h lines : History) → AreStill lines → AllRuled script (reverse (h ++ lines)) → AllSound (h ++ lines) → Calm script h → Calm script (h ++ lines)
still_calm script h lines still all sound w l =
    subst (λ r. CalmLane (phase_after script.controls r) (filter (concerns l) r)) (sym (reverse_onto lines h))
    (subst (λ p. CalmLane p (filter (concerns l) (onto lines (reverse h)))) (sym (still_phases script.controls lines (reverse h) still))
    (calm_lines script (phase_of script h) lines (reverse h) still refl (subst (AllRuled script) (reverse_onto lines h) all) (λ i. subst (λ r. IsSound (filter (concerns i) r)) (reverse_onto lines h) (sound i)) w l))

-- A SETTLED LINE

settled_calm_lane : (phase : Phase) (g : History) → (is_stopping phase || is_leaving phase) ≡ true → returned g ≡ made g → CalmLane phase g → (e : Entry) → built (e ∷ g) ≡ built g → returned (e ∷ g) ≡ returned g → made (e ∷ g) ≡ made g → CalmLane (after_settled phase) (e ∷ g)
settled_calm_lane Stopping g s all w e b r m = record { emptied = λ q. b ∙ w.emptied refl; leaving = λ q. absurd (false≢true q); gone = λ q. r ∙ all ∙ sym m }
settled_calm_lane Leaving g s all w e b r m = record { emptied = λ q. b ∙ w.emptied refl; leaving = λ q. absurd (false≢true q); gone = λ q. r ∙ all ∙ sym m }
settled_calm_lane Up g s all w e b r m = absurd (false≢true s)
settled_calm_lane Asleep g s all w e b r m = absurd (false≢true s)
settled_calm_lane Down g s all w e b r m = absurd (false≢true s)
settled_calm_lane Away g s all w e b r m = absurd (false≢true s)

settled_calm : (script : Script) (h : History) (t1 r1 t2 r2 : ℕ) → (is_stopping (phase_of script h) || is_leaving (phase_of script h)) ≡ true
    → ((l : Lane) → returned (past l h) ≡ made (past l h)) → Calm script h → Calm script (h ++ bare (Settled t1 r1 t2 r2) ∷ [])
settled_calm script h t1 r1 t2 r2 s all w l =
    subst (λ r. CalmLane (phase_after script.controls r) (filter (concerns l) r)) (sym (reverse_onto (bare (Settled t1 r1 t2 r2) ∷ []) h))
    (settled_calm_lane (phase_of script h) (past l h) s (all l) (w l) (bare (Settled t1 r1 t2 r2)) refl refl refl)

-- all transmit requests at home: every transfer's came back
pub all_returned : (script : Script) (l : Lane) (g : History) → IsSound g → HomeSums script.params l g → tx_home script.params l g ≡ tx_size script.params l → returned g ≡ made g
all_returned script l g sound sums e =
    let t : made g + tx_home script.params l g + claim script.params l g ≡ tx_size script.params l + returned g = sums.transmit in
    let re : returned g ≤ ends g = returned_ends g sound in
    let en : ends g + one_if (is_up g) ≤ made g = ends_made g sound in omega arith

-- A CONTROL

cut_keeps : (l : Lane) (c : ℕ) (ks : List ℕ) (g : History) (k : ℕ) → was_cut g k ≡ true → was_cut (onto (cut_each l c ks) g) k ≡ true
cut_keeps l c ks g k e = some_onto _ (cut_each l c ks) g e

cut_has : (l : Lane) (c : ℕ) (ks : List ℕ) (g : History) (k : ℕ) → has k ks ≡ true → was_cut (onto (cut_each l c ks) g) k ≡ true
cut_has l c [] g k e = absurd (false≢true e)
cut_has l c (x ∷ ks) g k e = elim (or_cases (x == k) (has k ks) e) [
  | inl same ↦ cut_keeps l c ks (bare (Cut l x c) ∷ g) k (or_left (x == k) (was_cut g k) same)
  | inr rest ↦ cut_has l c ks (bare (Cut l x c) ∷ g) k rest
]

mark_keeps : (l : Lane) (c : ℕ) (ks : List ℕ) (g : History) (k : ℕ) → is_some (mark g k) ≡ true → is_some (mark (onto (marked_each l c ks) g) k) ≡ true
mark_keeps l c [] g k e = e
mark_keeps l c (x ∷ ks) g k e = mark_keeps l c ks (bare (Marked l x c) ∷ g) k (told_still (x == k) c (mark g k) e)

told_here : (b : Bool) (c : ℕ) (o : Option ℕ) → b ≡ true → is_some (told_if b c o) ≡ true
told_here true c o e = refl
told_here false c o e = absurd (false≢true e)

mark_has : (l : Lane) (c : ℕ) (ks : List ℕ) (g : History) (k : ℕ) → has k ks ≡ true → is_some (mark (onto (marked_each l c ks) g) k) ≡ true
mark_has l c [] g k e = absurd (false≢true e)
mark_has l c (x ∷ ks) g k e = elim (or_cases (x == k) (has k ks) e) [
  | inl same ↦ mark_keeps l c ks (bare (Marked l x c) ∷ g) k (told_here (x == k) c (mark g k) same)
  | inr rest ↦ mark_has l c ks (bare (Marked l x c) ∷ g) k rest
]

recalled_posted : (l : Lane) (n : ℕ) (g : History) → posted (onto (recalled_each l n) g) ≡ posted g - n
recalled_posted l zero g = omega arith
recalled_posted l (suc n) g = let e : posted (onto (recalled_each l n) (bare (Recalled l) ∷ g)) ≡ posted (bare (Recalled l) ∷ g) - n = recalled_posted l n (bare (Recalled l) ∷ g) in omega arith

dropped_empty : (l : Lane) (c : ℕ) (g g' : History) → taken g' ≡ taken g → built g' ≡ built g → built (onto (dropped_built l c g) g') ≡ 0
dropped_empty l c g g' t b = go (built g == 0) refl
  where
    go : (v : Bool) → (built g == 0) ≡ v → built (onto (if v then [] else (bare (Dropped l (cover g) (taken g) c) ∷ [])) g') ≡ 0
    go true e = let none : built g ≡ 0 = eqb-true (built g) 0 e in omega arith
    go false e = omega arith

pub stop_empty : (l : Lane) (c : ℕ) (phase : Phase) (g : History) → built (onto (stop_part l c phase g) g) ≡ 0
stop_empty Outward c phase g =
    ap built (onto_append (cut_each Outward c (deferred phase Outward g)) (dropped_built Outward c g) g)
    ∙ dropped_empty Outward c g (onto (cut_each Outward c (deferred phase Outward g)) g) (onto_cut taken Outward c (λ k i. refl) (deferred phase Outward g) g) (onto_cut built Outward c (λ k i. refl) (deferred phase Outward g) g)
stop_empty Inward c phase g = dropped_empty Inward c g g refl refl

-- what isn't over after the stop flew or waited, and isn't deferred
alive : (f l x c v : Bool) → ((f || (not v && (not f && not (l || x || c)))) ≡ false) → (l || x || c) ≡ false → v ≡ true
alive true l x c v e h = absurd (false≢true (sym e))
alive false l x c true e h = refl
alive false true x c false e h = absurd (false≢true (sym h))
alive false false true c false e h = absurd (false≢true (sym h))
alive false false false true false e h = absurd (false≢true (sym h))
alive false false false false false e h = absurd (false≢true (sym e))

not_flying_waits : (f l x c v : Bool) → ((f || (not v && (not f && not (l || x || c)))) ≡ false) → (l || x || c) ≡ false → (not f && not (l || x || c)) ≡ true
not_flying_waits true l x c v e h = absurd (false≢true (sym e))
not_flying_waits false l x c v e h = rw h refl

cut_ended : (l x c : Bool) → c ≡ true → (l || x || c) ≡ true
cut_ended true x c e = refl
cut_ended false true c e = refl
cut_ended false false c e = e

deferred_all : (phase : Phase) (l : Lane) (g : History) → is_deferring phase l ≡ true → (c k : ℕ) → waits g k ≡ true → k < made g → was_cut (onto (stop_part l c phase g) g) k ≡ true
deferred_all Asleep Outward g d c k w h =
    ap (λ i. was_cut i k) (onto_append (cut_each Outward c (waiting g)) (dropped_built Outward c g) g)
    ∙ onto_dropped (λ i. was_cut i k) Outward c (λ a b i. refl) g (onto (cut_each Outward c (waiting g)) g) ∙ cut_has Outward c (waiting g) g k (those_has (waits g) (made g) k w h)
deferred_all Asleep Inward g d c k w h = absurd (false≢true d)
deferred_all Up l g d c k w h = absurd (false≢true d)
deferred_all Stopping l g d c k w h = absurd (false≢true d)
deferred_all Leaving l g d c k w h = absurd (false≢true d)
deferred_all Down l g d c k w h = absurd (false≢true d)
deferred_all Away l g d c k w h = absurd (false≢true d)

cut_back : (l : Lane) (c : ℕ) (ks : List ℕ) (g : History) (k : ℕ) → ended (onto (cut_each l c ks) g) k ≡ false → ended g k ≡ false
cut_back l c [] g k e = e
cut_back l c (x ∷ ks) g k e = ended_more_cut (x == k) (landed g k) (failed g k) (was_cut g k) (cut_back l c ks (bare (Cut l x c) ∷ g) k e)

stop_back : (l : Lane) (c : ℕ) (phase : Phase) (g : History) (k : ℕ) → ended (onto (stop_part l c phase g) g) k ≡ false → ended g k ≡ false
stop_back Outward c phase g k e =
    cut_back Outward c (deferred phase Outward g) g k
    (sym (ap (λ i. ended i k) (onto_append (cut_each Outward c (deferred phase Outward g)) (dropped_built Outward c g) g)
    ∙ onto_dropped (λ i. ended i k) Outward c (λ a b i. refl) g (onto (cut_each Outward c (deferred phase Outward g)) g)) ∙ e)
stop_back Inward c phase g k e = sym (onto_dropped (λ i. ended i k) Inward c (λ a b i. refl) g g) ∙ e

unplug_marks : (phase : Phase) (l : Lane) (c : ℕ) (g : History) → AllMarked (onto (marked_each l c (unmarked phase l g)) (onto (stop_part l c phase g) g))
unplug_marks phase l c g k h e = go (is_some (mark g k)) refl (flies g k || (not (is_deferring phase l) && waits g k)) refl
  where
    g1 : History
    g1 = onto (stop_part l c phase g) g

    low : k < made g
    low = let same : made (onto (marked_each l c (unmarked phase l g)) g1) ≡ made g = onto_marked made l c (λ i j. refl) (unmarked phase l g) g1 ∙ onto_stop made l c phase (λ i j. refl) (λ a b j. refl) g in omega arith

    open1 : ended g1 k ≡ false
    open1 = sym (onto_marked (λ i. ended i k) l c (λ i j. refl) (unmarked phase l g) g1) ∙ e

    open0 : ended g k ≡ false
    open0 = stop_back l c phase g k open1

    go : (m : Bool) → is_some (mark g k) ≡ m → (v : Bool) → (flies g k || (not (is_deferring phase l) && waits g k)) ≡ v → is_some (mark (onto (marked_each l c (unmarked phase l g)) g1) k) ≡ true
    go true m v u = mark_keeps l c (unmarked phase l g) g1 k (ap is_some (onto_stop (λ i. mark i k) l c phase (λ i j. refl) (λ a b j. refl) g) ∙ m)
    go false m true u = mark_has l c (unmarked phase l g) g1 k (those_has _ (made g) k (rw (u, m) refl) low)
    go false m false u =
        let d : is_deferring phase l ≡ true = alive (flies g k) (landed g k) (failed g k) (was_cut g k) (is_deferring phase l) u open0 in
        let w : waits g k ≡ true = not_flying_waits (flies g k) (landed g k) (failed g k) (was_cut g k) (is_deferring phase l) u open0 in
        absurd (false≢true (sym open1 ∙ cut_ended (landed g1 k) (failed g1 k) (was_cut g1 k) (deferred_all phase l g d c k w low)))

unplug_calm : (phase : Phase) (l : Lane) (c : ℕ) (g : History) → CalmLane Leaving (onto (order_part Order.Unplug l c phase g) g)
unplug_calm phase l c g = record {
  emptied = λ q. same built (λ i. refl) ∙ onto_marked built l c (λ k i. refl) (unmarked phase l g) g1 ∙ stop_empty l c phase g;
  leaving = λ q. (λ k h e. ap is_some (same (λ i. mark i k) (λ i. refl)) ∙ unplug_marks phase l c g k (subst (λ i. k < i) (same made (λ i. refl)) h) (sym (same (λ i. ended i k) (λ i. refl)) ∙ e), none);
  gone = λ q. absurd (false≢true q);
}
  where
    g1 : History
    g1 = onto (stop_part l c phase g) g

    g2 : History
    g2 = onto (marked_each l c (unmarked phase l g)) g1

    split : onto (order_part Order.Unplug l c phase g) g ≡ onto (recalled_each l (posted g)) g2
    split = onto_append (stop_part l c phase g ++ marked_each l c (unmarked phase l g)) (recalled_each l (posted g)) g ∙ ap (onto (recalled_each l (posted g))) (onto_append (stop_part l c phase g) (marked_each l c (unmarked phase l g)) g)

    same : {X : Type 0} (f : History → X) → ((i : History) → f (bare (Recalled l) ∷ i) ≡ f i) → f (onto (order_part Order.Unplug l c phase g) g) ≡ f g2
    same f r = ap f split ∙ onto_recalled f l r (posted g) g2

    none : posted (onto (order_part Order.Unplug l c phase g) g) ≡ 0
    none =
        let e : posted g2 ≡ posted g = onto_marked posted l c (λ k i. refl) (unmarked phase l g) g1 ∙ onto_stop posted l c phase (λ k i. refl) (λ a b i. refl) g in
        let r : posted (onto (recalled_each l (posted g)) g2) ≡ posted g2 - posted g = recalled_posted l (posted g) g2 in
        ap posted split ∙ omega arith

-- after a control's lines
order_calm_lane : (order : Order) (phase : Phase) (l : Lane) (c : ℕ) (g : History) → (order ≡ Order.Unlink Outward → CalmLane phase (onto (order_part order l c phase g) g)) → (order ≡ Order.Unlink Inward → CalmLane phase (onto (order_part order l c phase g) g)) → CalmLane (after_order order phase) (onto (order_part order l c phase g) g)
order_calm_lane Order.Suspend phase l c g p q = record { emptied = λ e. absurd (false≢true (sym e)); leaving = λ e. absurd (false≢true e); gone = λ e. absurd (false≢true e) }
order_calm_lane Order.Resume phase l c g p q = record { emptied = λ e. absurd (false≢true (sym e)); leaving = λ e. absurd (false≢true e); gone = λ e. absurd (false≢true e) }
order_calm_lane Order.Up phase l c g p q = record { emptied = λ e. absurd (false≢true (sym e)); leaving = λ e. absurd (false≢true e); gone = λ e. absurd (false≢true e) }
order_calm_lane (Order.Unlink Outward) phase l c g p q = p refl
order_calm_lane (Order.Unlink Inward) phase l c g p q = q refl
order_calm_lane Order.Down phase l c g p q = record { emptied = λ e. stop_empty l c phase g; leaving = λ e. absurd (false≢true e); gone = λ e. absurd (false≢true e) }
order_calm_lane Order.Unplug phase l c g p q = unplug_calm phase l c g

order_calm : (script : Script) (h : History) (f : Bool) (due : Due) → slice_get script.controls (controls_done (reverse h)) ≡ Some due
    → AllRuled script (reverse (h ++ (bare (Line.Control (controls_done (reverse h)) f) ∷ order_lines due.control (controls_done (reverse h)) (phase_of script h) (past Outward h) (past Inward h))))
    → AllSound (h ++ (bare (Line.Control (controls_done (reverse h)) f) ∷ order_lines due.control (controls_done (reverse h)) (phase_of script h) (past Outward h) (past Inward h)))
    → Calm script h → Calm script (h ++ (bare (Line.Control (controls_done (reverse h)) f) ∷ order_lines due.control (controls_done (reverse h)) (phase_of script h) (past Outward h) (past Inward h)))
order_calm script h f due e all sound w l =
    subst (λ r. CalmLane (phase_after script.controls r) (filter (concerns l) r)) (sym whole)
    (subst (λ p. CalmLane p (filter (concerns l) (onto lines (did ∷ reverse h)))) (sym (still_phases script.controls lines (did ∷ reverse h) still ∙ after))
    (subst (CalmLane (after_order due.control (phase_of script h))) (sym parts)
    (order_calm_lane due.control (phase_of script h) l c (past l h) unlinked unlinked)))
  where
    c : ℕ
    c = controls_done (reverse h)

    did : Entry
    did = bare (Line.Control c f)

    lines : History
    lines = order_lines due.control c (phase_of script h) (past Outward h) (past Inward h)

    still : AreStill lines
    still = order_still due.control c (phase_of script h) (past Outward h) (past Inward h)

    whole : reverse (h ++ (did ∷ lines)) ≡ onto lines (did ∷ reverse h)
    whole = reverse_onto (did ∷ lines) h

    after : phase_after script.controls (did ∷ reverse h) ≡ after_order due.control (phase_of script h)
    after = ap (λ o. after_control o (phase_of script h)) e

    picked : (i : Lane) → pick i (past Outward h) (past Inward h) ≡ past i h
    picked Outward = refl
    picked Inward = refl

    parts : filter (concerns l) (onto lines (did ∷ reverse h)) ≡ onto (order_part due.control l c (phase_of script h) (past l h)) (past l h)
    parts =
        filter_onto (concerns l) lines (did ∷ reverse h)
        ∙ ap (λ x. onto x (past l h)) (order_filter due.control l c (phase_of script h) (past Outward h) (past Inward h) ∙ ap (order_part due.control l c (phase_of script h)) (picked l))

    unlinked : {i : Lane} → due.control ≡ Order.Unlink i → CalmLane (phase_of script h) (onto (order_part due.control l c (phase_of script h) (past l h)) (past l h))
    unlinked o =
        subst (CalmLane (phase_of script h)) parts
        (calm_lines script (phase_of script h) lines (did ∷ reverse h) still (after ∙ ap (λ x. after_order x (phase_of script h)) o) (subst (AllRuled script) whole all)
        (λ i. subst (λ r. IsSound (filter (concerns i) r)) whole (sound i)) w l)

-- EVERY ROW

step_calm : (script : Script) (h lines : History) (act : Act) → Legal script h → AllRuled script (reverse (h ++ lines)) → AllSound (h ++ lines) → Calm script h → Fits script h act lines → Calm script (h ++ lines)
step_calm script h lines act legal all sound w (takes lane sender frame wk e v home) = still_calm script h _ (refl, made_still script lane (after_took lane sender (past lane h)) _) all sound w
step_calm script h lines act legal all sound w (refuses lane sender frame why wk e v n) = still_calm script h _ (refl, tt) all sound w
step_calm script h lines act legal all sound w (waits_once lane p) = still_calm script h _ (refl, tt) all sound w
step_calm script h lines act legal all sound w (closes lane b p n) = still_calm script h _ (refl, tt) all sound w
step_calm script h lines act legal all sound w (begins_flight lane k a none e m ha p) = still_calm script h _ (refl, tt) all sound w
step_calm script h lines act legal all sound w (cuts_queued lane k c none e m) = still_calm script h _ (refl, tt) all sound w
step_calm script h lines act legal all sound w (lands lane k f m p) = still_calm script h _ (refl, tt) all sound w
step_calm script h lines act legal all sound w (tries_again lane k f m p) = still_calm script h _ (refl, tt) all sound w
step_calm script h lines act legal all sound w (fails lane k kind f m p) = still_calm script h _ (refl, tt) all sound w
step_calm script h lines act legal all sound w (cuts_flight lane k c f m) = still_calm script h _ (refl, tt) all sound w
step_calm script h lines act legal all sound w (comes_home lane e) = still_calm script h _ (refl, tt) all sound w
step_calm script h lines act legal all sound w (opens lane k none e) = still_calm script h _ (refl, tt) all sound w
step_calm script h lines act legal all sound w (gives lane k n c e) = still_calm script h _ (refl, tt) all sound w
step_calm script h lines act legal all sound w (posts_one lane a r) = still_calm script h _ (refl, tt) all sound w
step_calm script h lines act legal all sound w (marks lane k s e) = still_calm script h _ (refl, tt) all sound w
step_calm script h lines act legal all sound w (recalls_one lane s e p) = still_calm script h _ (refl, tt) all sound w
step_calm script h lines act legal all sound w (clears lane a e) = still_calm script h _ (refl, tt) all sound w
step_calm script h lines act legal all sound w (settles s e) =
    settled_calm script h _ _ _ _ s (λ l. all_returned script l (past l h) ((legal_good script h legal).sound l) (legal_sums script h legal l) (sizes l)) w
  where
    rule : Rule script (bare (settled_line script h)) (reverse h)
    rule = (subst (AllRuled script) (reverse_onto (bare (settled_line script h) ∷ []) h) all).0

    sizes : (l : Lane) → tx_home script.params l (past l h) ≡ tx_size script.params l
    sizes l = (rule.of_lane l refl).0
step_calm script h lines act legal all sound w (orders force due e p d z) = order_calm script h false due e all sound w
step_calm script h lines act legal all sound w (orders_forced due e p d q z) = order_calm script h true due e all sound w

pub legal_calm : (script : Script) (h : History) → Legal script h → Calm script h
legal_calm script h begins = λ l. record { emptied = λ e. refl; leaving = λ e. absurd (false≢true e); gone = λ e. refl }
legal_calm script h (goes_on h0 lines act legal fits) =
    step_calm script h0 lines act legal (legal_ruled script (h0 ++ lines) (goes_on h0 lines act legal fits)) (legal_good script (h0 ++ lines) (goes_on h0 lines act legal fits)).sound (legal_calm script h0 legal) fits
