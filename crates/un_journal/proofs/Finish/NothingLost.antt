-- A script that loses nothing: everything accepted is given, and every good frame is accepted.
use Rattle.std.proofs.Common.{◌≡◌, ◌≢◌, ℕ, zero, suc, ◌+◌, ◌-◌, ◌<◌, ◌≤◌, Bool, true, false, ◌||◌, ◌==◌, List, [], ◌∷◌, ◌++◌, length, Option, Some, None, ◌⊎◌, inl, inr, refl, sym, ap, ◌∙◌, subst, arith, if◌then◌else◌, filter, reverse, slice_get, take, unwrap_or, append-nil}
use Rattle.std.proofs.lemmas.Bool.{false≢true, eqb-true, or_cases}
use Rattle.un_frame.specs.declared.params.Lane.{Lane}
use Rattle.un_frame.specs.declared.kinds.Phase.{Phase}
use Rattle.un_frame.specs.declared.kinds.Phase.TheVariants.{Up, Asleep}
use Rattle.un_frame.specs.declared.kinds.FaultKind.{FaultKind}
use Rattle.un_frame.specs.declared.kinds.Planned.{Planned}
use Rattle.un_frame.specs.declared.kinds.Planned.TheVariants.{Clean, Proto, Halt}
use Rattle.un_frame.specs.declared.params.Params.{Params}
use Rattle.un_frame.specs.declared.kinds.Verdict.{Verdict}
use Rattle.un_frame.specs.declared.kinds.Verdict.TheVariants.{Take, Short, Long, Filtered}
use Rattle.un_frame.specs.Verdict.{verdict_of}
use Rattle.un_journal.specs.declared.lines.Line.{Line}
use Rattle.un_journal.specs.declared.lines.Line.TheVariants.{Took, Refused, Failed, Cut, Dropped, Gave, Settled}
use Rattle.un_journal.specs.declared.controls.Control.{Control as Order}
use Rattle.un_journal.specs.declared.controls.Due.{Due}
use Rattle.un_frame.specs.Attempts.{FailsAfter, ArrivesLast}
use Rattle.un_journal.specs.Script.{Script, Frame, frames_of, planned, planned_in}
use Rattle.un_journal.specs.History.{Entry, History, attempts, past, concerns, taken, consumed, failed, was_cut, dropped, gave, given, serial_of, for_serial, row_from, more_if}
use Rattle.un_journal.specs.Lookup.{phase_of, phase_after, after_order, after_control, is_awake, is_stopping, is_leaving, controls_done, feed_head}
use Rattle.un_journal.specs.Places.{IsRising, IsBelowAll, IsAllBelow}
use Rattle.un_journal.specs.Licence.{Cuts, Stops, Licensed, AllLicensed}
use Rattle.un_journal.proofs.Bounds.Parameters.{HavePools}
use Rattle.un_journal.specs.Done.{IsFinished, IsSpread}
use Rattle.un_journal.specs.Loss.{LosesNothing, loses, is_take, accepted, good_frames}
use Rattle.un_journal.specs.Fits.{IsDone}
use Rattle.un_journal.proofs.Lanes.GivenOrder.{given_rises, given_taken}
use Rattle.un_journal.proofs.Steps.StaySound.{legal_good, Good}
use Rattle.un_journal.proofs.Steps.Licences.{legal_licensed}
use Rattle.un_journal.specs.Rules.{AllRuled, AllLane}
use Rattle.un_journal.proofs.Steps.LineRules.{legal_ruled}
use Rattle.un_journal.proofs.Lanes.PoolSums.{lane_ruled}
use Rattle.un_journal.proofs.Lists.Passing.{has, has_last, has_append}
use Rattle.un_journal.proofs.Finish.Finished.{done_finished}

-- NOTHING IS LOST

no_plan : (p : Planned) (r : ℕ) (kind : FaultKind) → ArrivesLast p → FailsAfter p r kind → ⊥
no_plan Clean r kind e w = w
no_plan (Proto times) r kind e w = let low : times ≤ 3 = e in let less : r < times = w.0 in let three : r ≡ 3 = w.1 in omega arith
no_plan Halt r kind e w = e

-- where the script has no fault and no control, no line that loses anything is licensed
no_control : (c : ℕ) (due : Due) → slice_get [] c ≡ Some due → ⊥
no_control c due q = cc

pub plain_line : (script : Script) (older : History) (e : Entry) → script.faults ≡ [] → script.controls ≡ [] → Licensed script older e → loses e.0 ≡ false
plain_line script older (Failed l k kind, bytes) faults controls w =
    absurd (subst (λ fs. FailsAfter (planned_in fs l k) (attempts (filter (concerns l) older) k) kind) faults w.by_plan)
plain_line script older (Cut l k c, bytes) faults controls w = absurd (no_control c w.due (subst (λ cs. slice_get cs c ≡ Some w.due) controls w.is_control))
plain_line script older (Dropped l a b c, bytes) faults controls w = absurd (no_control c w.due (subst (λ cs. slice_get cs c ≡ Some w.due) controls w.is_control))
plain_line script older (e, bytes) faults controls w = refl

no_cut : (order : Order) (l : Lane) → (order ≡ Order.Suspend) ⊎ (order ≡ Order.Resume) → Cuts order l → ⊥
no_cut order l (inl e) c = subst (λ o. Cuts o l) e c
no_cut order l (inr e) c = subst (λ o. Cuts o l) e c

no_stop : (order : Order) → (order ≡ Order.Suspend) ⊎ (order ≡ Order.Resume) → Stops order → ⊥
no_stop order (inl e) c = subst Stops e c
no_stop order (inr e) c = subst Stops e c

pub record Unlost (g : History) (k : ℕ) : Type 0 where
  pub not_failed : failed g k ≡ false
  pub not_cut : was_cut g k ≡ false
  pub not_dropped : dropped g k ≡ false

unlost : (script : Script) → LosesNothing script → (older : History) → AllLicensed script older → (l : Lane) (k : ℕ) → Unlost (filter (concerns l) older) k
unlost script w [] all l k = record { not_failed = refl; not_cut = refl; not_dropped = refl }
unlost script w ((Failed l' j kind, bytes) ∷ older) all l k = absurd (no_plan (planned script l' j) _ kind (w.no_fault l' j) all.0.by_plan)
unlost script w ((Cut l' j c, bytes) ∷ older) all l k = absurd (no_cut all.0.due.control l' (w.only_sleeps c all.0.due all.0.is_control) all.0.is_kind)
unlost script w ((Dropped l' a b c, bytes) ∷ older) all l k = absurd (no_stop all.0.due.control (w.only_sleeps c all.0.due all.0.is_control) all.0.is_kind)
unlost script w (e ∷ older) all l k = go (concerns l e) (unlost script w older all.1 l k)
  where
    go : (b : Bool) → Unlost (filter (concerns l) older) k → Unlost (if b then (e ∷ filter (concerns l) older) else filter (concerns l) older) k
    go true r = record { not_failed = r.not_failed; not_cut = r.not_cut; not_dropped = r.not_dropped }
    go false r = r

-- UP AT THE END

pub record SleepsBy (script : Script) (older : History) : Type 0 where
  pub due : Due
  pub is_last : slice_get script.controls (controls_done older - 1) ≡ Some due
  pub some_done : 0 < controls_done older
  pub is_suspend : due.control ≡ Order.Suspend

pub data WakeCase (script : Script) (older : History) (phase : Phase) : Type 0 where
  wakes : phase ≡ Up → WakeCase script older phase
  sleeps : phase ≡ Asleep → SleepsBy script older → WakeCase script older phase

wake_case : (script : Script) → LosesNothing script → (older : History) → AllRuled script older → WakeCase script older (phase_after script.controls older)
wake_case script w [] all = wakes refl
wake_case script w ((Line.Control c f, bytes) ∷ older) all = go (w.only_sleeps c due all.0.of_link.is_control)
  where
    due : Due
    due = all.0.of_link.due

    now : phase_after script.controls ((Line.Control c f, bytes) ∷ older) ≡ after_order due.control (phase_after script.controls older)
    now = ap (λ o. after_control o (phase_after script.controls older)) all.0.of_link.is_control

    place : controls_done older + 1 - 1 ≡ c
    place = let n : c ≡ controls_done older = all.0.of_link.is_next in omega arith

    go : (due.control ≡ Order.Suspend) ⊎ (due.control ≡ Order.Resume) → WakeCase script ((Line.Control c f, bytes) ∷ older) (phase_after script.controls ((Line.Control c f, bytes) ∷ older))
    go (inl e) = sleeps (now ∙ ap (λ o. after_order o (phase_after script.controls older)) e) (record { due = due; is_last = rw place all.0.of_link.is_control; some_done = omega arith; is_suspend = e })
    go (inr e) = wakes (now ∙ ap (λ o. after_order o (phase_after script.controls older)) e)
wake_case script w ((Settled t1 r1 t2 r2, bytes) ∷ older) all = absurd (go (wake_case script w older all.1))
  where
    go : WakeCase script older (phase_after script.controls older) → ⊥
    go (wakes e) = false≢true (sym (ap (λ p. is_stopping p || is_leaving p) e) ∙ all.0.of_link)
    go (sleeps e s) = false≢true (sym (ap (λ p. is_stopping p || is_leaving p) e) ∙ all.0.of_link)
wake_case script w (e ∷ older) all = go (wake_case script w older all.1)
  where
    go : WakeCase script older (phase_after script.controls older) → WakeCase script (e ∷ older) (phase_after script.controls (e ∷ older))
    go (wakes p) = wakes p
    go (sleeps p s) = sleeps p (record { due = s.due; is_last = s.is_last; some_done = s.some_done; is_suspend = s.is_suspend })

up_at_end : (script : Script) (h : History) → LosesNothing script → AllRuled script (reverse h) → controls_done (reverse h) ≡ length script.controls → is_awake (phase_of script h) ≡ true
up_at_end script h w all e = go (wake_case script w (reverse h) all)
  where
    go : WakeCase script (reverse h) (phase_of script h) → is_awake (phase_of script h) ≡ true
    go (wakes p) = ap is_awake p
    go (sleeps p s) =
        absurd (w.ends_awake s.due (let some : 0 < controls_done (reverse h) = s.some_done in omega arith) (subst (λ i. slice_get script.controls (i - 1) ≡ Some s.due) e s.is_last) s.is_suspend)

-- EVERY NUMBER

gave_has : (g : History) (n : ℕ) → gave g n ≡ true → has n (given g) ≡ true
gave_has [] n e = absurd (false≢true e)
gave_has ((Gave l m, bytes) ∷ g) n e = elim (or_cases (m == n) (gave g n) e) [
  | inl same ↦ subst (λ i. has i (given g ++ m ∷ []) ≡ true) (eqb-true m n same) (has_last m (given g))
  | inr before ↦ has_append n (given g) (m ∷ []) (gave_has g n before)
]
gave_has (e' ∷ g) n e = gave_has g n e

not_among : (k x : ℕ) (xs : List ℕ) → k ≤ x → IsBelowAll x xs → has k xs ≡ true → ⊥
not_among k x [] h b e = false≢true e
not_among k x (y ∷ ys) h b e = elim (or_cases (y == k) (has k ys) e) [
  | inl same ↦ let yk : y ≡ k = eqb-true y k same in let low : x < y = b.0 in omega arith
  | inr rest ↦ not_among k x ys h b.1 rest
]

abbrev AtLeast : ℕ → List ℕ → Type 0
AtLeast a [] = Unit {0}
AtLeast a (x ∷ xs) = (a ≤ x) × AtLeast a xs

above_least : (x : ℕ) (xs : List ℕ) → IsBelowAll x xs → AtLeast (x + 1) xs
above_least x [] b = tt
above_least x (y ∷ ys) b = (let low : x < y = b.0 in omega arith, above_least x ys b.1)

row_is : (m a : ℕ) (xs : List ℕ) → IsRising xs → AtLeast a xs → IsAllBelow xs (a + m) → ((i : ℕ) → a ≤ i → i < a + m → has i xs ≡ true) → xs ≡ row_from a m
row_is zero a [] r l b h = refl
row_is zero a (x ∷ xs) r l b h = absurd (let low : a ≤ x = l.0 in let high : x < a + 0 = b.0 in omega arith)
row_is (suc m) a [] r l b h = absurd (false≢true (h a (omega arith) (omega arith)))
row_is (suc m) a (x ∷ xs) r l b h =
    let same : x ≡ a = first_is in
    rw same (ap (λ ys. a ∷ ys) (row_is m (a + 1) xs r.1 (subst (λ i. AtLeast (i + 1) xs) same (above_least x xs r.0)) (subst (IsAllBelow xs) shift b.1) (λ i p q. later i p (h i (omega arith) (omega arith)))))
  where
    first_is : x ≡ a
    first_is = elim (or_cases (x == a) (has a xs) (h a (omega arith) (omega arith))) [
      | inl e ↦ eqb-true x a e
      | inr e ↦ absurd (not_among a x xs l.0 r.0 e)
    ]

    shift : a + suc m ≡ a + 1 + m
    shift = omega arith

    later : (i : ℕ) → a + 1 ≤ i → has i (x ∷ xs) ≡ true → has i xs ≡ true
    later i p e = elim (or_cases (x == i) (has i xs) e) [ inl q ↦ absurd (let xi : x ≡ i = eqb-true x i q in let xa : x ≡ a = first_is in omega arith) | inr q ↦ q ]

at_least_zero : (xs : List ℕ) → AtLeast 0 xs
at_least_zero [] = tt
at_least_zero (x ∷ xs) = (omega arith, at_least_zero xs)

all_given : (g : History) → IsRising (given g) → IsAllBelow (given g) (taken g) → IsSpread g → ((k : ℕ) → Unlost g k) → given g ≡ row_from 0 (taken g)
all_given g rises below spread none = row_is (taken g) 0 (given g) rises (at_least_zero (given g)) (subst (IsAllBelow (given g)) start below) (λ i p q. gave_has g i (at_peer_is i (omega arith)))
  where
    start : taken g ≡ 0 + taken g
    start = omega arith

    at_peer_is : (n : ℕ) → n < taken g → gave g n ≡ true
    at_peer_is n h = go (serial_of g n) (spread n h)
      where
        go : (o : Option ℕ) → (gave g n || (for_serial (λ k. failed g k || was_cut g k) o || dropped g n)) ≡ true → gave g n ≡ true
        go None e = left (gave g n) (dropped g n) (none n).not_dropped e
          where
            left : (a b : Bool) → b ≡ false → (a || (false || b)) ≡ true → a ≡ true
            left true b p q = refl
            left false b p q = absurd (false≢true (sym p ∙ q))
        go (Some k) e = left (gave g n) (failed g k) (was_cut g k) (dropped g n) (none k).not_failed (none k).not_cut (none n).not_dropped e
          where
            left : (a x c d : Bool) → x ≡ false → c ≡ false → d ≡ false → (a || ((x || c) || d)) ≡ true → a ≡ true
            left true x c d p q r e = refl
            left false true c d p q r e = absurd (false≢true (sym p))
            left false false true d p q r e = absurd (false≢true (sym q))
            left false false false d p q r e = absurd (false≢true (sym r ∙ e))

-- EVERY GOOD FRAME

pub take_one : (n : ℕ) (xs : List Frame) (x : Frame) → slice_get xs n ≡ Some x → take (n + 1) xs ≡ take n xs ++ x ∷ []
take_one n [] x e = absurd (cc)
take_one zero (y ∷ xs) x e = ap (λ i. i ∷ []) (cc)
take_one (suc n) (y ∷ xs) x e = subst (λ i. take i (y ∷ xs) ≡ y ∷ (take n xs ++ x ∷ [])) one_more (ap (λ i. y ∷ i) (take_one n xs x e))
  where
    one_more : suc (n + 1) ≡ suc n + 1
    one_more = omega arith

good_append : (params : Params) (l : Lane) (xs : List Frame) (x : Frame) → good_frames params l (xs ++ x ∷ []) ≡ good_frames params l xs ++ (if is_take (verdict_of params l x) then x ∷ [] else [])
good_append params l [] x = go (is_take (verdict_of params l x))
  where
    go : (b : Bool) → (if b then (x ∷ []) else []) ≡ (if b then x ∷ [] else [])
    go true = refl
    go false = refl
good_append params l (y ∷ xs) x = go (is_take (verdict_of params l y)) (good_append params l xs x)
  where
    go : (b : Bool) → good_frames params l (xs ++ x ∷ []) ≡ good_frames params l xs ++ (if is_take (verdict_of params l x) then x ∷ [] else [])
        → (if b then (y ∷ good_frames params l (xs ++ x ∷ [])) else good_frames params l (xs ++ x ∷ [])) ≡ (if b then (y ∷ good_frames params l xs) else good_frames params l xs) ++ (if is_take (verdict_of params l x) then x ∷ [] else [])
    go true e = ap (λ i. y ∷ i) e
    go false e = e

not_take : (v : Verdict) → v ≢ Take → is_take v ≡ false
not_take Take n = absurd (n refl)
not_take Short n = refl
not_take Long n = refl
not_take Filtered n = refl

accepted_took : (params : Params) (l : Lane) (v : Bool) (s i c : ℕ) (xs acc : List Frame) (x : Frame) → (v ≡ true → slice_get xs c ≡ Some x) → verdict_of params l x ≡ Take → acc ≡ good_frames params l (take c xs)
    → (if v then acc ++ x ∷ [] else acc) ≡ good_frames params l (take (more_if v c) xs)
accepted_took params l true s i c xs acc x e g a = rw (take_one c xs x (e refl), good_append params l (take c xs) x, g, a) refl
accepted_took params l false s i c xs acc x e g a = a

accepted_refused : (params : Params) (l : Lane) (v : Bool) (c : ℕ) (xs acc : List Frame) (x : Frame) → (v ≡ true → slice_get xs c ≡ Some x) → is_take (verdict_of params l x) ≡ false → acc ≡ good_frames params l (take c xs)
    → acc ≡ good_frames params l (take (more_if v c) xs)
accepted_refused params l true c xs acc x e g a = rw (take_one c xs x (e refl), good_append params l (take c xs) x, g, append-nil, a) refl
accepted_refused params l false c xs acc x e g a = a

accepted_is : (script : Script) (l : Lane) (g : History) → AllLane script l g → (i : ℕ) → accepted script l g i ≡ good_frames script.params l (take (consumed g i) (frames_of script l i))
accepted_is script l [] all i = refl
accepted_is script l ((Took l' s, bytes) ∷ g) all i =
    let r = all.0.rule in
    subst (λ x. (if s == i then accepted script l g i ++ unwrap_or x [] ∷ [] else accepted script l g i) ≡ good_frames script.params l (take (more_if (s == i) (consumed g i)) (frames_of script l i))) (sym r.is_head)
    (accepted_took script.params l (s == i) s i (consumed g i) (frames_of script l i) (accepted script l g i) r.frame
    (λ t. subst (λ j. feed_head script l g j ≡ Some r.frame) (eqb-true s i t) r.is_head) r.is_good (accepted_is script l g all.1 i))
accepted_is script l ((Refused l' s why, bytes) ∷ g) all i =
    let r = all.0.rule in
    accepted_refused script.params l (s == i) (consumed g i) (frames_of script l i) (accepted script l g i) r.frame
    (λ t. subst (λ j. feed_head script l g j ≡ Some r.frame) (eqb-true s i t) r.is_head) (ap is_take r.is_bad ∙ not_take why r.not_taken) (accepted_is script l g all.1 i)
accepted_is script l (e ∷ g) all i = accepted_is script l g all.1 i

take_all : (n : ℕ) (xs : List Frame) → slice_get xs n ≡ None → take n xs ≡ xs
take_all zero [] e = refl
take_all zero (x ∷ xs) e = absurd (cc)
take_all (suc n) [] e = refl
take_all (suc n) (x ∷ xs) e = ap (λ i. x ∷ i) (take_all n xs e)

-- THE LAW

pub record Whole (script : Script) (h : History) (l : Lane) : Type 0 where
  pub all_given : given (past l h) ≡ row_from 0 (taken (past l h))
  pub all_accepted : (sender : ℕ) → accepted script l (past l h) sender ≡ good_frames script.params l (frames_of script l sender)

pub nothing_lost : (script : Script) (h : History) → HavePools script.params → LosesNothing script → IsDone script h → (l : Lane) → Whole script h l
nothing_lost script h pools w d l = record {
  all_given = all_given (past l h) (given_rises (past l h) (good.sound l)) (given_taken (past l h) (good.sound l)) (f.spread_up up l) (λ k. unlost script w (reverse h) (legal_licensed script h d.is_legal) l k);
  all_accepted = λ sender.
      accepted_is script l (past l h) (lane_ruled script (reverse h) ruled l) sender
      ∙ ap (good_frames script.params l) (take_all (consumed (past l h) sender) (frames_of script l sender) (f.consumed_up up l sender));
}
  where
    good : Good script h
    good = legal_good script h d.is_legal

    ruled : AllRuled script (reverse h)
    ruled = legal_ruled script h d.is_legal

    f : IsFinished script h
    f = done_finished script h pools d

    up : is_awake (phase_of script h) ≡ true
    up = up_at_end script h w ruled f.all_ordered
