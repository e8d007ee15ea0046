-- Where every request is at home and the link is away with no control left, no step fits: its settled line is its last.
use Rattle.std.proofs.Common.{◌≡◌, ℕ, ◌+◌, ◌-◌, ◌<◌, ◌≤◌, Bool, true, false, not, ◌&&◌, ◌||◌, ◌==◌, [], ◌∷◌, ◌++◌, length, Option, Some, None, inl, inr, refl, sym, ap, ◌∙◌, subst, arith, if◌then◌else◌, reverse, slice_get}
use Rattle.std.proofs.lemmas.Bool.{false≢true, eqb-true, eq-eqb, ne_eqb, cases_lt, and_parts, or_cases, not-true}
use Rattle.std.proofs.lemmas.Option.{slice_get_past, none-some, same_Some}
use Rattle.un_facts.proofs.Lists.{empty_is}
use Rattle.un_facts.specs.Lists.{is_empty}
use Rattle.un_facts.specs.Numbers.{one_if}
use Rattle.un_frame.specs.Lanes.{tx_size, rx_size}
use Rattle.un_frame.specs.declared.params.Lane.{Lane}
use Rattle.un_frame.specs.declared.params.Lane.TheVariants.{Outward, Inward}
use Rattle.un_frame.specs.declared.kinds.Phase.{Phase}
use Rattle.un_frame.specs.declared.kinds.Phase.TheVariants.{Away}
use Rattle.un_journal.specs.declared.lines.Line.{Line}
use Rattle.un_journal.specs.declared.lines.Line.TheVariants.{Made}
use Rattle.un_journal.specs.declared.controls.Control.{Control as Order}
use Rattle.un_journal.specs.declared.controls.Due.{Due}
use Rattle.un_journal.specs.Script.{Script}
use Rattle.un_journal.specs.History.{Entry, History, past, those, first, made, built, posted, flies, waits, ended, landed, opened, span, serial_of, arrived, current, left_of, delivered, returned, ends}
use Rattle.un_journal.specs.Lookup.{phase_of, phase_after, after_order, after_control, works, is_awake, is_stopping, is_leaving, controls_done, tx_home, rx_home, queued}
use Rattle.un_journal.specs.LaneSteps.{bare}
use Rattle.un_journal.specs.Step.{all_home, settled_line}
use Rattle.un_journal.specs.Done.{is_gone}
use Rattle.un_journal.specs.Sound.{IsSound}
use Rattle.un_journal.specs.Fits.{Act, Fits, takes, refuses, waits_once, closes, begins_flight, cuts_queued, lands, tries_again, fails, cuts_flight, comes_home, opens, gives, posts_one, marks, recalls_one, clears, settles, orders, orders_forced, Legal, begins, goes_on, after_took}
use Rattle.un_journal.specs.Unplug.{EndsSettled}
use Rattle.un_journal.proofs.Lists.Passing.{those_first, those_count, those_less}
use Rattle.un_journal.proofs.Lanes.SerialOrder.{is_up}
use Rattle.un_journal.proofs.Lanes.MayFollow.{landed_made, owns_span, has_span, whole_gave}
use Rattle.un_journal.proofs.Lanes.Owners.{opened_landed, GivenFrom, given_from}
use Rattle.un_journal.proofs.Steps.StaySound.{legal_good}
use Rattle.un_journal.proofs.Steps.OneStep.{pending_built}
use Rattle.un_journal.proofs.Lists.NewestFirst.{past_onto, reverse_onto}
use Rattle.un_journal.proofs.Steps.OrderLines.{AreStill, order_still, made_still, still_phases, controls_kept, controls_onto}
use Rattle.un_journal.proofs.Steps.LineRules.{home_four}
use Rattle.un_journal.proofs.Lanes.PoolSums.{legal_sums, landed_lines, landed_count, delivered_landed, up_of, returned_ends, ends_made, ended_below, below_ended}
use Rattle.un_journal.proofs.Finish.AfterStop.{legal_calm}

-- with as many transfers given whole as landed, each that landed is
whole_given : (g : History) → IsSound g → length (delivered g) ≡ landed_lines g → (k : ℕ) → landed g k ≡ true → left_of g k ≡ []
whole_given g sound same k e = empty_is (left_of g k) (go (is_empty (left_of g k)) refl)
  where
    test : ℕ → Bool
    test j = landed g j && is_empty (left_of g j)

    with_k : ℕ → Bool
    with_k j = k == j || test j

    go : (b : Bool) → is_empty (left_of g k) ≡ b → b ≡ true
    go true f = refl
    go false f =
        let more : length (those with_k (made g)) ≡ length (those test (made g)) + (if with_k k then 1 else 0) =
        those_count test with_k k (rw (e, f) refl) (λ j apart. rw (ne_eqb k j (λ i. apart (sym i))) refl) (made g) (landed_made g sound k e) in
        let one : ◌≡◌ {A = ℕ} (if with_k k then 1 else 0) 1 = rw (eq-eqb k k refl) refl in
        let less : length (those with_k (made g)) ≤ length (those (landed g) (made g)) =
        those_less with_k (landed g) (made g) (λ j h t. elim (or_cases (k == j) (test j) t) [
          | inl i ↦ subst (λ x. landed g x ≡ true) (eqb-true k j i) e
          | inr i ↦ (and_parts (landed g j) (is_empty (left_of g j)) i).0
        ]) in
        let all : length (those (landed g) (made g)) ≡ landed_lines g = landed_count g sound in
        absurd (omega arith)

-- every transfer has a number, so one that landed and isn't opened has one left
record HasSome (o : Option (ℕ × ℕ)) : Type 0 where
  from : ℕ
  to : ℕ
  is_span : o ≡ Some (from, to)
  is_some : from < to

span_some : (g : History) → IsSound g → (k : ℕ) → k < made g → HasSome (span g k)
span_some [] sound k low = absurd (omega arith)
span_some ((Made l j a b, bytes) ∷ g) sound k low = elim (cases_lt k (made g)) [
  | inl before ↦ rw (ne_eqb j k (λ e. let same : j ≡ made g = sound.0.0 in omega arith)) (span_some g sound.1 k before)
  | inr after ↦ rw (eq-eqb j k (let same : j ≡ made g = sound.0.0 in omega arith)) (record { from = a; to = b; is_span = refl; is_some = sound.0.1.is_some })
]
span_some (e ∷ g) sound k low = span_some g sound.1 k low

unopened_left : (g : History) → IsSound g → (k : ℕ) → landed g k ≡ true → opened g k ≡ false → left_of g k ≡ [] → ⊥
unopened_left g sound k l o none = false≢true (sym o ∙ subst (λ i. opened g i ≡ true) (same_Some r.serial k (sym r.is_owner ∙ mine)) r.was_opened)
  where
    s : HasSome (span g k)
    s = span_some g sound k (landed_made g sound k l)

    mine : serial_of g s.from ≡ Some k
    mine = (owns_span g sound k (s.from, s.to) s.is_span).owns s.from (omega arith) s.is_some

    r : GivenFrom (serial_of g s.from) (opened g)
    r = given_from g sound s.from (whole_gave g k s.from (ap is_empty none) (has_span g sound s.from k mine))

waits_open : (f x : Bool) → (not f && not x) ≡ true → x ≡ true → ⊥
waits_open f x e p = false≢true (sym (not-true x (and_parts (not f) (not x) e).1) ∙ p)

module _ (script : Script) (h : History) (legal : Legal script h) (gone : phase_of script h ≡ Away) (home : all_home script h ≡ true) where
  sound : (l : Lane) → IsSound (past l h)
  sound l = (legal_good script h legal).sound l

  homes : (l : Lane) → rx_home script.params l (past l h) ≡ rx_size script.params l
  homes l = pick l (
      home_four (tx_home script.params Outward (past Outward h), tx_size script.params Outward) (rx_home script.params Outward (past Outward h), rx_size script.params Outward)
      (tx_home script.params Inward (past Inward h), tx_size script.params Inward) (rx_home script.params Inward (past Inward h), rx_size script.params Inward) home
      )
    where
      pick : (l : Lane) → (tx_home script.params Outward (past Outward h) ≡ tx_size script.params Outward) × (rx_home script.params Outward (past Outward h) ≡ rx_size script.params Outward)
          × (tx_home script.params Inward (past Inward h) ≡ tx_size script.params Inward) × (rx_home script.params Inward (past Inward h) ≡ rx_size script.params Inward)
          → rx_home script.params l (past l h) ≡ rx_size script.params l
      pick Outward parts = parts.1
      pick Inward parts = parts.3

  empty : (l : Lane) → built (past l h) ≡ 0
  empty l = (legal_calm script h legal l).emptied (ap works gone)

  grounded : (l : Lane) (k : ℕ) → flies (past l h) k ≡ true → ⊥
  grounded l k f =
      let up : one_if (is_up (past l h)) ≡ 1 = ap one_if (up_of (past l h) (sound l) k f) in
      let r : rx_home script.params l (past l h) ≡ rx_size script.params l = homes l in
      let d : length (delivered (past l h)) ≤ landed_lines (past l h) = delivered_landed (past l h) (sound l) in
      let s : rx_home script.params l (past l h) + posted (past l h) + one_if (is_up (past l h)) + landed_lines (past l h) ≡ rx_size script.params l + length (delivered (past l h)) = (legal_sums script h legal l).receive_all in omega arith

  given_whole : (l : Lane) (k : ℕ) → landed (past l h) k ≡ true → left_of (past l h) k ≡ []
  given_whole l = whole_given (past l h) (sound l) (
      let r : rx_home script.params l (past l h) ≡ rx_size script.params l = homes l in
      let d : length (delivered (past l h)) ≤ landed_lines (past l h) = delivered_landed (past l h) (sound l) in
      let s : rx_home script.params l (past l h) + posted (past l h) + one_if (is_up (past l h)) + landed_lines (past l h) ≡ rx_size script.params l + length (delivered (past l h)) = (legal_sums script h legal l).receive_all in omega arith
      )

  all_back : (l : Lane) → (returned (past l h) ≡ ends (past l h)) × (ends (past l h) ≡ made (past l h))
  all_back l =
      let b : returned (past l h) ≡ made (past l h) = (legal_calm script h legal l).gone (ap is_gone gone) in
      let low : returned (past l h) ≤ ends (past l h) = returned_ends (past l h) (sound l) in
      let high : ends (past l h) + one_if (is_up (past l h)) ≤ made (past l h) = ends_made (past l h) (sound l) in (omega arith, omega arith)

  none_queued : (l : Lane) (k : ℕ) → first (queued (phase_of script h) l (past l h)) ≡ Some k → ⊥
  none_queued l k e =
      let f = those_first (waits (past l h)) (made (past l h)) k (subst (λ p. first (queued p l (past l h)) ≡ Some k) gone e) in
      let low : k < made (past l h) = f.is_below in
      let over : ends (past l h) ≡ made (past l h) = (all_back l).1 in
      waits_open (flies (past l h) k) (ended (past l h) k) f.passes (below_ended (past l h) (sound l) k (omega arith))

  none_arrived : (l : Lane) (k : ℕ) → first (arrived (past l h)) ≡ Some k → ⊥
  none_arrived l k e = none
    where
      r : (landed (past l h) k ≡ true) × (not (opened (past l h) k) ≡ true)
      r = and_parts (landed (past l h) k) (not (opened (past l h) k)) (those_first (λ j. landed (past l h) j && not (opened (past l h) j)) (made (past l h)) k e).passes

      none : ⊥
      none = unopened_left (past l h) (sound l) k r.0 (not-true (opened (past l h) k) r.1) (given_whole l k r.0)

  none_current : (l : Lane) (k n : ℕ) → current (past l h) ≡ Some k → first (left_of (past l h) k) ≡ Some n → ⊥
  none_current l k n c e =
      let f = those_first (λ j. opened (past l h) j && not (is_empty (left_of (past l h) j))) (made (past l h)) k c in
      let o : opened (past l h) k ≡ true = (and_parts (opened (past l h) k) _ f.passes).0 in
      none-some n (sym (ap first (given_whole l k (opened_landed (past l h) (sound l) k o))) ∙ e)

  resting : (P : Phase → Bool) → P Away ≡ false → P (phase_of script h) ≡ true → ⊥
  resting P w e = false≢true (sym w ∙ (sym (ap P gone) ∙ e))

  module _ (over : controls_done (reverse h) ≡ length script.controls) where
    ordered : (due : Due) → slice_get script.controls (controls_done (reverse h)) ≡ Some due → ⊥
    ordered due e = none_due due (sym (slice_get_past script.controls (controls_done (reverse h)) (omega arith)) ∙ e)
      where
        none_due : (due : Due) → None ≡ Some due → ⊥
        none_due due q = cc

    pub none_fits : (act : Act) (lines : History) → Fits script h act lines → ⊥
    none_fits act lines (takes lane sender frame w e v home) = resting works refl w
    none_fits act lines (refuses lane sender frame why w e v n) = resting works refl w
    none_fits act lines (waits_once lane p) = let b : 0 < built (past lane h) = pending_built script.params lane (past lane h) p in let z : built (past lane h) ≡ 0 = empty lane in absurd (omega arith)
    none_fits act lines (closes lane b p n) = let z : built (past lane h) ≡ 0 = empty lane in absurd (omega arith)
    none_fits act lines (begins_flight lane k a none e m ha p) = none_queued lane k e
    none_fits act lines (cuts_queued lane k c none e m) = none_queued lane k e
    none_fits act lines (lands lane k f m p) = grounded lane k f
    none_fits act lines (tries_again lane k f m p) = grounded lane k f
    none_fits act lines (fails lane k kind f m p) = grounded lane k f
    none_fits act lines (cuts_flight lane k c f m) = grounded lane k f
    none_fits act lines (comes_home lane e) =
        let low : returned (past lane h) < ends (past lane h) = ended_below (past lane h) (sound lane) (returned (past lane h)) e in
        let same : returned (past lane h) ≡ ends (past lane h) = (all_back lane).0 in absurd (omega arith)
    none_fits act lines (opens lane k none e) = none_arrived lane k e
    none_fits act lines (gives lane k n c e) = none_current lane k n c e
    none_fits act lines (posts_one lane a r) = resting is_awake refl a
    none_fits act lines (marks lane k s e) = resting is_stopping refl s
    none_fits act lines (recalls_one lane s e p) = resting is_stopping refl s
    none_fits act lines (clears lane a e) = resting is_awake refl a
    none_fits act lines (settles s e) = resting (λ p. is_stopping p || is_leaving p) refl s
    none_fits act lines (orders force due e p d z) = ordered due e
    none_fits act lines (orders_forced due e p d q z) = ordered due e

-- THE LAST LINE

-- a step settles, is a control's, or keeps the phase and the controls
data StepCase (script : Script) (h : History) : History → Type 0 where
  keeps : (lines : History) → AreStill lines → StepCase script h lines
  ends_stop : (is_stopping (phase_of script h) || is_leaving (phase_of script h)) ≡ true → all_home script h ≡ true → StepCase script h (bare (settled_line script h) ∷ [])
  begins_order : (f : Bool) (due : Due) (rest : History) → slice_get script.controls (controls_done (reverse h)) ≡ Some due → AreStill rest
      → StepCase script h (bare (Line.Control (controls_done (reverse h)) f) ∷ rest)

step_case : (script : Script) (h lines : History) (act : Act) → Fits script h act lines → StepCase script h lines
step_case script h lines act (takes lane sender frame w e v home) = keeps _ (refl, made_still script lane (after_took lane sender (past lane h)) _)
step_case script h lines act (refuses lane sender frame why w e v n) = keeps _ (refl, tt)
step_case script h lines act (waits_once lane p) = keeps _ (refl, tt)
step_case script h lines act (closes lane b p n) = keeps _ (refl, tt)
step_case script h lines act (begins_flight lane k a none e m ha p) = keeps _ (refl, tt)
step_case script h lines act (cuts_queued lane k c none e m) = keeps _ (refl, tt)
step_case script h lines act (lands lane k f m p) = keeps _ (refl, tt)
step_case script h lines act (tries_again lane k f m p) = keeps _ (refl, tt)
step_case script h lines act (fails lane k kind f m p) = keeps _ (refl, tt)
step_case script h lines act (cuts_flight lane k c f m) = keeps _ (refl, tt)
step_case script h lines act (comes_home lane e) = keeps _ (refl, tt)
step_case script h lines act (opens lane k none e) = keeps _ (refl, tt)
step_case script h lines act (gives lane k n c e) = keeps _ (refl, tt)
step_case script h lines act (posts_one lane a r) = keeps _ (refl, tt)
step_case script h lines act (marks lane k s e) = keeps _ (refl, tt)
step_case script h lines act (recalls_one lane s e p) = keeps _ (refl, tt)
step_case script h lines act (clears lane a e) = keeps _ (refl, tt)
step_case script h lines act (settles s e) = ends_stop s e
step_case script h lines act (orders force due e p d z) = begins_order false due _ e (order_still due.control _ _ _ _)
step_case script h lines act (orders_forced due e p d q z) = begins_order true due _ e (order_still due.control _ _ _ _)

-- the settled line leaves the requests where they are
home_after : (script : Script) (h : History) → all_home script h ≡ true → all_home script (h ++ bare (settled_line script h) ∷ []) ≡ true
home_after script h e = rw (past_onto Outward h (bare (settled_line script h) ∷ []), past_onto Inward h (bare (settled_line script h) ∷ [])) e

module _ (script : Script) (due : Due) (is_last : slice_get script.controls (length script.controls - 1) ≡ Some due) (is_unplug : due.control ≡ Order.Unplug) where
  -- an unplug that was ordered leaves the link leaving
  unplugged : (h rest : History) (f : Bool) (d : Due) → slice_get script.controls (controls_done (reverse h)) ≡ Some d → AreStill rest
      → controls_done (reverse (h ++ bare (Line.Control (controls_done (reverse h)) f) ∷ rest)) ≡ length script.controls
      → phase_of script (h ++ bare (Line.Control (controls_done (reverse h)) f) ∷ rest) ≡ Away → ⊥
  unplugged h rest f d e still over gone = leaving≢away (sym left ∙ gone)
    where
      did : Entry
      did = bare (Line.Control (controls_done (reverse h)) f)

      one : controls_done (reverse h) + 1 ≡ length script.controls
      one = sym (controls_onto rest (did ∷ reverse h) still) ∙ (ap controls_done (sym (reverse_onto (did ∷ rest) h)) ∙ over)

      place : length script.controls - 1 ≡ controls_done (reverse h)
      place = let o = one in omega arith

      left : phase_of script (h ++ did ∷ rest) ≡ Phase.Leaving
      left =
          ap (phase_after script.controls) (reverse_onto (did ∷ rest) h) ∙ still_phases script.controls rest (did ∷ reverse h) still
          ∙ (ap (λ o. after_control o (phase_of script h)) (subst (λ i. slice_get script.controls i ≡ Some due) place is_last) ∙ ap (λ o. after_order o (phase_of script h)) is_unplug)

      leaving≢away : Phase.Leaving ≡ Away → ⊥
      leaving≢away q = cc

  pub ends_settled : (h : History) → Legal script h → phase_of script h ≡ Away → controls_done (reverse h) ≡ length script.controls → EndsSettled script h
  ends_settled h begins gone over = absurd (let q : Phase.Up ≡ Away = gone in (cc))
  ends_settled h (goes_on h0 lines act legal fits) gone over = go lines (ends_settled h0 legal) (step_case script h0 lines act fits) fits gone over
    where
      go : (xs : History) → (phase_of script h0 ≡ Away → controls_done (reverse h0) ≡ length script.controls → EndsSettled script h0)
          → StepCase script h0 xs → Fits script h0 act xs → phase_of script (h0 ++ xs) ≡ Away → controls_done (reverse (h0 ++ xs)) ≡ length script.controls → EndsSettled script (h0 ++ xs)
      go xs before (keeps ys still) f p o =
          let p0 : phase_of script h0 ≡ Away = sym (ap (phase_after script.controls) (reverse_onto xs h0) ∙ still_phases script.controls xs (reverse h0) still) ∙ p in
          let o0 : controls_done (reverse h0) ≡ length script.controls = sym (controls_kept h0 xs still) ∙ o in
          absurd (none_fits script h0 legal p0 (before p0 o0).is_home o0 act xs f)
      go xs before (ends_stop s e) f p o = record { before = h0; is_last = refl; found_home = e; is_home = home_after script h0 e }
      go xs before (begins_order b d rest e still) f p o = absurd (unplugged h0 rest b d e still o p)
