-- What holds of a history after which no step fits.
use Rattle.un_journal.proofs.Steps.Landings.{land_line}
use Rattle.un_journal.proofs.Lanes.Attempts.{legal_attempts}
use Rattle.std.proofs.Common.{◌≡◌, ℕ, zero, suc, ◌+◌, ◌<◌, ◌≤◌, Bool, true, false, not, ◌&&◌, ◌||◌, List, [], ◌∷◌, ◌++◌, length, Option, Some, None, inl, inr, refl, sym, ap, ◌∙◌, arith, if◌then◌else◌, reverse, slice_get, is_some}
use Rattle.std.specs.List.{list_all}
use Rattle.std.proofs.lemmas.Bool.{false≢true, eq-eqb, cases_lt, or_left, or_right, and_parts, not-true}
use Rattle.std.proofs.lemmas.Option.{slice_get_within}
use Rattle.un_facts.proofs.Booleans.{and_not}
use Rattle.un_facts.specs.Lists.{is_empty}
use Rattle.un_facts.specs.Numbers.{one_if}
use Rattle.un_frame.specs.declared.params.Lane.{Lane}
use Rattle.un_frame.specs.declared.params.Lane.TheVariants.{Outward, Inward}
use Rattle.un_frame.specs.declared.kinds.Phase.{Phase}
use Rattle.un_frame.specs.declared.kinds.Phase.TheVariants.{Up, Asleep, Stopping, Leaving, Down, Away}
use Rattle.un_frame.specs.declared.kinds.Verdict.{Verdict}
use Rattle.un_frame.specs.declared.kinds.Verdict.TheVariants.{Take, Short, Long, Filtered}
use Rattle.un_frame.specs.declared.params.Params.{Params}
use Rattle.un_frame.specs.Lanes.{packs, tx_size, rx_size}
use Rattle.un_frame.specs.Verdict.{verdict_of}
use Rattle.un_journal.specs.declared.lines.Line.{Line}
use Rattle.un_journal.specs.declared.controls.Control.{Control as Order}
use Rattle.un_journal.specs.declared.controls.Due.{Due}
use Rattle.un_journal.specs.Script.{Script, Frame}
use Rattle.un_journal.specs.History.{attempts, History, past, first, taken, made, cover, built, took_last, posted, flies, flying, waits, waiting, ended, landed, failed, was_cut, opened, gave, arrived, current, left_of, delivered, mark, returned, halted, serial_of, dropped, for_serial, ends}
use Rattle.un_journal.specs.Lookup.{phase_of, works, is_awake, is_asleep, is_stopping, is_leaving, controls_done, feed_head, tx_home, rx_home, offer_needs_home, tick_needs_home, pending, queued, unmarked, span_after_took, block_open, claim}
use Rattle.un_journal.specs.LaneSteps.{Outcome, Writes, Answers}
use Rattle.un_journal.specs.Step.{Work, work, is_still, lane_works, quiet, all_home, hinders, is_due, land_from}
use Rattle.un_journal.proofs.Bounds.Parameters.{HavePools}
use Rattle.un_journal.specs.Done.{IsSpread, IsGivenOut, IsStuck, IsFinished, is_gone}
use Rattle.un_journal.specs.Fits.{Act, Works, Controls, Fits, takes, refuses, waits_once, closes, begins_flight, cuts_queued, comes_home, opens, gives, posts_one, marks, recalls_one, clears, settles, orders, orders_forced, Legal, IsDone, after_took}
use Rattle.un_journal.proofs.Lanes.Status.{status_of}
use Rattle.un_journal.proofs.Lanes.Owners.{owned}
use Rattle.un_journal.proofs.Lanes.SerialOrder.{is_up, in_order}
use Rattle.un_journal.proofs.Lanes.GivenOrder.{cover_below}
use Rattle.un_journal.proofs.Lists.Passing.{those_first, those_none, first_none, those_empty, those_same}
use Rattle.un_journal.proofs.Lanes.MayFollow.{none_flies, landed_made, whole_gave, has_span}
use Rattle.un_journal.proofs.Steps.StaySound.{legal_good}
use Rattle.un_journal.proofs.Steps.OutcomesFit.{outcome_fits}
use Rattle.un_journal.specs.Rules.{AllRuled}
use Rattle.un_journal.proofs.Steps.LineRules.{legal_ruled}
use Rattle.un_journal.proofs.Lanes.PoolSums.{HomeSums, legal_sums, landed_lines, landed_count, ends_made, returned_ends, ended_below, below_ended}
use Rattle.un_journal.proofs.Finish.AfterStop.{CalmLane, legal_calm}
use Rattle.un_journal.specs.Sound.{IsSound}

pub claim_none : (params : Params) (l : Lane) (g : History) → built g ≡ 0 → claim params l g ≡ 0
claim_none params Outward g e = rw e (go (packs params.class Outward))
  where
    go : (b : Bool) → ◌≡◌ {A = ℕ} (if b && false && took_last g then 1 else 0) 0
    go true = refl
    go false = refl
claim_none params Inward g e = refl

-- every sender's controls are counted within the script
pub controls_within : (script : Script) (older : History) → AllRuled script older → controls_done older ≤ length script.controls
controls_within script [] all = omega arith
controls_within script ((Line.Control c f, bytes) ∷ older) all =
    let low : c < length script.controls = slice_get_within script.controls c all.0.of_link.due all.0.of_link.is_control in
    let same : c ≡ controls_done older = all.0.of_link.is_next in omega arith
controls_within script (e ∷ older) all = controls_within script older all.1

is_phase_up : (phase : Phase) → is_awake phase ≡ true → phase ≡ Up
is_phase_up Up e = refl
is_phase_up Asleep e = absurd (false≢true e)
is_phase_up Stopping e = absurd (false≢true e)
is_phase_up Leaving e = absurd (false≢true e)
is_phase_up Down e = absurd (false≢true e)
is_phase_up Away e = absurd (false≢true e)

pub data PhaseCase (phase : Phase) : Type 0 where
  in_up : phase ≡ Up → PhaseCase phase
  in_asleep : phase ≡ Asleep → PhaseCase phase
  in_stopping : phase ≡ Stopping → PhaseCase phase
  in_leaving : phase ≡ Leaving → PhaseCase phase
  in_gone : is_gone phase ≡ true → works phase ≡ false → (is_stopping phase || is_leaving phase) ≡ false → ((l : Lane) (g : History) → queued phase l g ≡ waiting g) → PhaseCase phase

pub phase_case : (phase : Phase) → PhaseCase phase
phase_case Up = in_up refl
phase_case Asleep = in_asleep refl
phase_case Stopping = in_stopping refl
phase_case Leaving = in_leaving refl
phase_case Down = in_gone refl refl refl (λ l g. refl)
phase_case Away = in_gone refl refl refl (λ l g. refl)

-- no transfer waits where none is left
waits_open : (g : History) (k : ℕ) → waits g k ≡ true → ended g k ≡ false
waits_open g k w = not-true (ended g k) (and_parts (not (flies g k)) (not (ended g k)) w).1

-- every transfer is over: every datagram of the cover is at the peer or lost
over_spread : (l x c v : Bool) → (l || x || c) ≡ true → (l ≡ true → v ≡ true) → (v || (x || c)) ≡ true
over_spread true x c true e h = refl
over_spread true x c false e h = absurd (false≢true (h refl))
over_spread false x c true e h = refl
over_spread false x c false e h = e

pub spread : (g : History) → IsSound g → IsGivenOut g → built g ≡ 0 → ends g ≡ made g → IsSpread g
spread g sound out empty over n h = go (serial_of g n) refl
  where
    low : n < cover g
    low = let c : cover g ≤ taken g = cover_below g sound in omega arith

    or_false : (a b : Bool) → a ≡ true → (a || b) ≡ true
    or_false a b e = or_left a b e

    go : (o : Option ℕ) → serial_of g n ≡ o → (gave g n || (for_serial (λ k. failed g k || was_cut g k) o || dropped g n)) ≡ true
    go None e =
        or_right (gave g n) (dropped g n) (let b : is_some (serial_of g n) ≡ not (dropped g n) = (owned g sound n).below low in drop (dropped g n) (sym (ap is_some e) ∙ b))
      where
        drop : (d : Bool) → false ≡ not d → d ≡ true
        drop true q = refl
        drop false q = absurd (false≢true q)
    go (Some k) e =
        let km : k < made g = (owned g sound n).known k e in
        let all : (gave g n || (failed g k || was_cut g k)) ≡ true = over_spread (landed g k) (failed g k) (was_cut g k) (gave g n) (below_ended g sound k (omega arith)) (λ l. out k n l e) in
        three (gave g n) (failed g k || was_cut g k) (dropped g n) all
      where
        three : (a b c : Bool) → (a || b) ≡ true → (a || (b || c)) ≡ true
        three true b c q = refl
        three false true c q = refl
        three false false c q = absurd (false≢true q)

-- NO STEP FITS

module _ (script : Script) (h : History) (pools : HavePools script.params) (legal : Legal script h) (none : (act : Act) (lines : History) → Fits script h act lines → ⊥) where
  sound : (l : Lane) → IsSound (past l h)
  sound l = (legal_good script h legal).sound l

  sums : (l : Lane) → HomeSums script.params l (past l h)
  sums l = legal_sums script h legal l

  calm : (l : Lane) → CalmLane (phase_of script h) (past l h)
  calm l = legal_calm script h legal l

  flight_none : (l : Lane) → flying (past l h) ≡ []
  flight_none l = go (flying (past l h)) refl
    where
      go : (xs : List ℕ) → flying (past l h) ≡ xs → flying (past l h) ≡ []
      go [] e = e
      go (k ∷ ks) e =
          let r = land_line script l k (attempts (past l h) k) (mark (past l h) k) (legal_attempts script h legal l k) in
          absurd (none (Works (Work.Land l)) _ (outcome_fits script h (r.line ∷ []) (Works (Work.Land l)) (ap (λ xs. land_from script l (past l h) xs) e ∙ r.is_line)))

  grounded : (l : Lane) (k : ℕ) → flies (past l h) k ≡ false
  grounded l k = none_flies (past l h) (sound l) (flight_none l) k

  none_up : (l : Lane) → one_if (is_up (past l h)) ≡ 0
  none_up l = go (is_up (past l h)) refl
    where
      go : (b : Bool) → is_up (past l h) ≡ b → one_if b ≡ 0
      go false e = refl
      go true e =
          absurd (false≢true (sym (grounded l (ends (past l h))) ∙ ((status_of (past l h) (sound l) (ends (past l h))).flies_is ∙ (in_order (past l h) (sound l) (ends (past l h))).aloft_at e refl)))

  -- THE RECEIVING END

  current_none : (l : Lane) → current (past l h) ≡ None
  current_none l = go (current (past l h)) refl
    where
      stands : (k : ℕ) → current (past l h) ≡ Some k → not (is_empty (left_of (past l h) k)) ≡ true → (xs : List ℕ) → left_of (past l h) k ≡ xs → ⊥
      stands k c e [] f = false≢true (sym (ap (λ x. not (is_empty x)) f) ∙ e)
      stands k c e (n ∷ ns) f = none (Works (Work.Deliver l)) _ (gives l k n c (ap first f))

      go : (o : Option ℕ) → current (past l h) ≡ o → current (past l h) ≡ None
      go None e = e
      go (Some k) e =
          absurd (stands k e (and_parts (opened (past l h) k) _ (those_first (λ j. opened (past l h) j && not (is_empty (left_of (past l h) j))) (made (past l h)) k e).passes).1 (left_of (past l h) k) refl)

  arrived_none : (l : Lane) → arrived (past l h) ≡ []
  arrived_none l = go (arrived (past l h)) refl
    where
      go : (xs : List ℕ) → arrived (past l h) ≡ xs → arrived (past l h) ≡ []
      go [] e = e
      go (k ∷ ks) e = absurd (none (Works (Work.RxDone l)) _ (opens l k (current_none l) (ap first e)))

  left_none : (l : Lane) (k : ℕ) → landed (past l h) k ≡ true → is_empty (left_of (past l h) k) ≡ true
  left_none l k e =
      let low : k < made (past l h) = landed_made (past l h) (sound l) k e in
      let o : opened (past l h) k ≡ true = and_not (landed (past l h) k) (opened (past l h) k) (those_none (λ j. landed (past l h) j && not (opened (past l h) j)) (made (past l h)) (arrived_none l) k low) e in
      and_not (opened (past l h) k) (is_empty (left_of (past l h) k)) (those_none (λ j. opened (past l h) j && not (is_empty (left_of (past l h) j))) (made (past l h)) (first_none _ (current_none l)) k low) o

  given_out : (l : Lane) → IsGivenOut (past l h)
  given_out l k n e i = whole_gave (past l h) k n (left_none l k e) (has_span (past l h) (sound l) n k i)

  all_delivered : (l : Lane) → length (delivered (past l h)) ≡ landed_lines (past l h)
  all_delivered l =
      ap length (those_same (λ k. landed (past l h) k && is_empty (left_of (past l h) k)) (landed (past l h)) (made (past l h)) (λ k i. same k (landed (past l h) k) refl))
      ∙ landed_count (past l h) (sound l)
    where
      same : (k : ℕ) (b : Bool) → landed (past l h) k ≡ b → (b && is_empty (left_of (past l h) k)) ≡ b
      same k false e = refl
      same k true e = left_none l k e

  -- THE TRANSMITTING END

  all_back : (l : Lane) → returned (past l h) ≡ ends (past l h)
  all_back l =
      let low : returned (past l h) ≤ ends (past l h) = returned_ends (past l h) (sound l) in
      elim (cases_lt (returned (past l h)) (ends (past l h))) [
        | inl less ↦ absurd (none (Works (Work.TxDone l)) _ (comes_home l (below_ended (past l h) (sound l) (returned (past l h)) less)))
        | inr more ↦ omega arith
      ]

  queue_none : (l : Lane) → ((k : ℕ) → mark (past l h) k ≡ None → first (queued (phase_of script h) l (past l h)) ≡ Some k → ⊥) → queued (phase_of script h) l (past l h) ≡ []
  queue_none l free = go (queued (phase_of script h) l (past l h)) refl
    where
      marked : (k : ℕ) → first (queued (phase_of script h) l (past l h)) ≡ Some k → (m : Option ℕ) → mark (past l h) k ≡ m → ⊥
      marked k e None m = free k m e
      marked k e (Some c) m = none (Works (Work.Take l)) _ (cuts_queued l k c (flight_none l) e m)

      go : (xs : List ℕ) → queued (phase_of script h) l (past l h) ≡ xs → queued (phase_of script h) l (past l h) ≡ []
      go [] e = e
      go (k ∷ ks) e = absurd (marked k (ap first e) (mark (past l h) k) refl)

  all_over : (l : Lane) → waiting (past l h) ≡ [] → ends (past l h) ≡ made (past l h)
  all_over l e =
      let high : ends (past l h) + one_if (is_up (past l h)) ≤ made (past l h) = ends_made (past l h) (sound l) in
      elim (cases_lt (ends (past l h)) (made (past l h))) [
        | inl less ↦ absurd (open_end (ended (past l h) (ends (past l h))) refl less)
        | inr more ↦ omega arith
      ]
    where
      open_end : (b : Bool) → ended (past l h) (ends (past l h)) ≡ b → ends (past l h) < made (past l h) → ⊥
      open_end true o less = let low : ends (past l h) < ends (past l h) = ended_below (past l h) (sound l) (ends (past l h)) o in omega arith
      open_end false o less =
          false≢true (sym (those_none (waits (past l h)) (made (past l h)) e (ends (past l h)) less) ∙ rw (grounded l (ends (past l h)), o) refl)

  -- with everything over and nothing built, every transmit request is at home
  tx_whole : (l : Lane) → ends (past l h) ≡ made (past l h) → claim script.params l (past l h) ≡ 0 → tx_home script.params l (past l h) ≡ tx_size script.params l
  tx_whole l over free =
      let back : returned (past l h) ≡ ends (past l h) = all_back l in
      let s : made (past l h) + tx_home script.params l (past l h) + claim script.params l (past l h) ≡ tx_size script.params l + returned (past l h) = (sums l).transmit in omega arith

  rx_whole : (l : Lane) → rx_home script.params l (past l h) + posted (past l h) ≡ rx_size script.params l
  rx_whole l =
      let up : one_if (is_up (past l h)) ≡ 0 = none_up l in
      let d : length (delivered (past l h)) ≡ landed_lines (past l h) = all_delivered l in
      let s : rx_home script.params l (past l h) + posted (past l h) + one_if (is_up (past l h)) + landed_lines (past l h) ≡ rx_size script.params l + length (delivered (past l h)) = (sums l).receive_all in omega arith

  -- UP

  up_rx : is_awake (phase_of script h) ≡ true → (l : Lane) → 0 < posted (past l h)
  up_rx a l =
      let w : rx_home script.params l (past l h) + posted (past l h) ≡ rx_size script.params l = rx_whole l in
      let some : 0 < rx_size script.params l = (pools l).1 in
      elim (cases_lt 0 (rx_home script.params l (past l h))) [ inl home ↦ absurd (none (Works (Work.Refill l)) _ (posts_one l a home)) | inr out ↦ omega arith ]

  up_halt : is_awake (phase_of script h) ≡ true → (l : Lane) → halted (past l h) ≡ false
  up_halt a l = go (halted (past l h)) refl
    where
      go : (b : Bool) → halted (past l h) ≡ b → halted (past l h) ≡ false
      go true e = absurd (none (Works (Work.ClearHalt l)) _ (clears l a e))
      go false e = e

  up_waiting : phase_of script h ≡ Up → (l : Lane) → waiting (past l h) ≡ []
  up_waiting p l =
      sym (ap (λ i. queued i l (past l h)) p)
      ∙ queue_none l (λ k m e. none (Works (Work.Take l)) _ (begins_flight l k (ap is_asleep p) (flight_none l) e m (up_halt (ap is_awake p) l) (up_rx (ap is_awake p) l)))

  up_built : phase_of script h ≡ Up → (l : Lane) → built (past l h) ≡ 0
  up_built p l = elim (cases_lt 0 (built (past l h))) [
    | inl some ↦ absurd (elim (cases_lt 0 (pending script.params l (past l h))) [
      | inl wait ↦ none (Works (Work.Tick l)) _ (waits_once l wait)
      | inr now ↦ none (Works (Work.Tick l)) _ (closes l some (omega arith) (needs l))
    ])
    | inr no_built ↦ omega arith
  ]
    where
      over : (i : Lane) → ends (past i h) ≡ made (past i h)
      over i = all_over i (up_waiting p i)

      claims : (b : Bool) → not b ≡ true → ◌≡◌ {A = ℕ} (if b then 1 else 0) 0
      claims true e = absurd (false≢true e)
      claims false e = refl

      needs : (i : Lane) → tick_needs_home script.params i (past i h) ≡ true → 0 < tx_home script.params i (past i h)
      needs Outward e =
          let w : tx_home script.params Outward (past Outward h) ≡ tx_size script.params Outward = tx_whole Outward (over Outward) (claims (block_open script.params Outward (past Outward h)) e) in
          let some : 0 < tx_size script.params Outward = (pools Outward).0 in omega arith
      needs Inward e =
          let w : tx_home script.params Inward (past Inward h) ≡ tx_size script.params Inward = tx_whole Inward (over Inward) refl in
          let some : 0 < tx_size script.params Inward = (pools Inward).0 in omega arith

  -- FEEDS

  stuck : works (phase_of script h) ≡ true → (l : Lane) (s : ℕ) (frame : Frame) → feed_head script l (past l h) s ≡ Some frame → IsStuck script l s frame (past l h)
  stuck w l s frame e = judged (verdict_of script.params l frame) refl
    where
      needs : Bool
      needs = offer_needs_home script.params l (past l h) (span_after_took script l (after_took l s (past l h)))

      busy : verdict_of script.params l frame ≡ Take → (b : Bool) → needs ≡ b → IsStuck script l s frame (past l h)
      busy v false n = absurd (none (Works (Work.Offer l s)) _ (takes l s frame w e v (λ t. absurd (false≢true (sym n ∙ t)))))
      busy v true n = elim (cases_lt 0 (tx_home script.params l (past l h))) [
        | inl home ↦ absurd (none (Works (Work.Offer l s)) _ (takes l s frame w e v (λ t. home)))
        | inr out ↦ record { is_good = v; needs = n; none_home = omega arith }
      ]

      judged : (v : Verdict) → verdict_of script.params l frame ≡ v → IsStuck script l s frame (past l h)
      judged Take v = busy v needs refl
      judged Short v = absurd (none (Works (Work.Offer l s)) _ (refuses l s frame Short w e v (λ q. cc)))
      judged Long v = absurd (none (Works (Work.Offer l s)) _ (refuses l s frame Long w e v (λ q. cc)))
      judged Filtered v = absurd (none (Works (Work.Offer l s)) _ (refuses l s frame Filtered w e v (λ q. cc)))

  up_feeds : phase_of script h ≡ Up → (l : Lane) (s : ℕ) → feed_head script l (past l h) s ≡ None
  up_feeds p l s = go (feed_head script l (past l h) s) refl
    where
      home : tx_home script.params l (past l h) ≡ tx_size script.params l
      home = tx_whole l (all_over l (up_waiting p l)) (claim_none script.params l (past l h) (up_built p l))

      go : (o : Option Frame) → feed_head script l (past l h) s ≡ o → feed_head script l (past l h) s ≡ None
      go None e = e
      go (Some frame) e = let z : tx_home script.params l (past l h) ≡ 0 = (stuck (ap works p) l s frame e).none_home in let some : 0 < tx_size script.params l = (pools l).0 in let hm = home in absurd (omega arith)

  -- A STOP IS SETTLED

  four_home : ((l : Lane) → (tx_home script.params l (past l h) ≡ tx_size script.params l) × (rx_home script.params l (past l h) ≡ rx_size script.params l)) → all_home script h ≡ true
  four_home w =
      rw (eq-eqb _ _ (w Outward).0, eq-eqb _ _ (w Outward).1, eq-eqb _ _ (w Inward).0, eq-eqb _ _ (w Inward).1) refl

  stop_ends : works (phase_of script h) ≡ false → (is_stopping (phase_of script h) || is_leaving (phase_of script h)) ≡ true → ((l : Lane) → waiting (past l h) ≡ []) → ((l : Lane) → posted (past l h) ≡ 0) → ⊥
  stop_ends w s idle back =
      none (Works Work.Settle) _ (settles s (four_home (λ l. (
        tx_whole l (all_over l (idle l)) (claim_none script.params l (past l h) ((calm l).emptied w)),
        (let p : posted (past l h) ≡ 0 = back l in let r : rx_home script.params l (past l h) + posted (past l h) ≡ rx_size script.params l = rx_whole l in omega arith),
      ))))

  never_stopping : phase_of script h ≡ Stopping → ⊥
  never_stopping p = stop_ends (ap works p) (ap (λ i. is_stopping i || is_leaving i) p) idle back
    where
      unmarked_none : (l : Lane) → unmarked (phase_of script h) l (past l h) ≡ []
      unmarked_none l = go (unmarked (phase_of script h) l (past l h)) refl
        where
          go : (xs : List ℕ) → unmarked (phase_of script h) l (past l h) ≡ xs → unmarked (phase_of script h) l (past l h) ≡ []
          go [] e = e
          go (k ∷ ks) e = absurd (none (Works (Work.Unlink l)) _ (marks l k (ap is_stopping p) (ap first e)))

      back : (l : Lane) → posted (past l h) ≡ 0
      back l = elim (cases_lt 0 (posted (past l h))) [ inl some ↦ absurd (none (Works (Work.Unlink l)) _ (recalls_one l (ap is_stopping p) (unmarked_none l) some)) | inr out ↦ omega arith ]

      idle : (l : Lane) → waiting (past l h) ≡ []
      idle l = sym (ap (λ i. queued i l (past l h)) p) ∙ queue_none l unwanted
        where
          unwanted : (k : ℕ) → mark (past l h) k ≡ None → first (queued (phase_of script h) l (past l h)) ≡ Some k → ⊥
          unwanted k m e =
              let f = those_first (waits (past l h)) (made (past l h)) k (sym (ap (λ i. first (queued i l (past l h))) p) ∙ e) in
              let test : ((flies (past l h) k || (true && waits (past l h) k)) && not (is_some (mark (past l h) k))) ≡ true = rw (f.passes, grounded l k, m) refl in
              false≢true (sym (those_none _ (made (past l h)) (sym (ap (λ i. unmarked i l (past l h)) p) ∙ unmarked_none l) k f.is_below) ∙ test)

  never_leaving : phase_of script h ≡ Leaving → ⊥
  never_leaving p = stop_ends (ap works p) (ap (λ i. is_stopping i || is_leaving i) p) idle (λ l. ((calm l).leaving (ap is_leaving p)).1)
    where
      idle : (l : Lane) → waiting (past l h) ≡ []
      idle l = sym (ap (λ i. queued i l (past l h)) p) ∙ queue_none l unwanted
        where
          unwanted : (k : ℕ) → mark (past l h) k ≡ None → first (queued (phase_of script h) l (past l h)) ≡ Some k → ⊥
          unwanted k m e =
              let f = those_first (waits (past l h)) (made (past l h)) k (sym (ap (λ i. first (queued i l (past l h))) p) ∙ e) in
              false≢true (sym (ap is_some m) ∙ ((calm l).leaving (ap is_leaving p)).0 k f.is_below (waits_open (past l h) k f.passes))

  -- DOWN AND AWAY

  gone_over : is_gone (phase_of script h) ≡ true → (l : Lane) → ends (past l h) ≡ made (past l h)
  gone_over g l =
      let all : returned (past l h) ≡ made (past l h) = (calm l).gone g in
      let low : returned (past l h) ≤ ends (past l h) = returned_ends (past l h) (sound l) in
      let high : ends (past l h) + one_if (is_up (past l h)) ≤ made (past l h) = ends_made (past l h) (sound l) in omega arith

  over_waiting : (l : Lane) → ends (past l h) ≡ made (past l h) → waiting (past l h) ≡ []
  over_waiting l e = those_empty (waits (past l h)) (made (past l h)) (λ j i. rw (grounded l j, below_ended (past l h) (sound l) j (omega arith)) refl)

  -- CONTROLS

  still_all : (ws : List Work) → list_all (λ w. is_still (work script h w)) ws ≡ true
  still_all [] = refl
  still_all (w ∷ ws) = rw (still (work script h w) refl, still_all ws) refl
    where
      still : (o : Outcome) → work script h w ≡ o → is_still o ≡ true
      still (Writes xs) e = absurd (none (Works w) xs (outcome_fits script h xs (Works w) e))
      still (Answers a) e = refl

  pub is_quiet : quiet script h ≡ true
  is_quiet = rw (still_all (lane_works Outward ++ lane_works Inward ++ Work.Settle ∷ []), flight_none Outward, flight_none Inward) refl

  not_hindered : (order : Order) → queued (phase_of script h) Outward (past Outward h) ≡ [] → hinders order (phase_of script h) (past Outward h) (past Inward h) ≡ 0
  not_hindered Order.Suspend e = rw (e, flight_none Outward, flight_none Inward) refl
  not_hindered Order.Resume e = refl
  not_hindered Order.Up e = refl
  not_hindered Order.Down e = refl
  not_hindered Order.Unplug e = refl
  not_hindered (Order.Unlink l) e = refl

  ordered : (is_stopping (phase_of script h) || is_leaving (phase_of script h)) ≡ false → queued (phase_of script h) Outward (past Outward h) ≡ [] → controls_done (reverse h) ≡ length script.controls
  ordered s q =
      let within : controls_done (reverse h) ≤ length script.controls = controls_within script (reverse h) (legal_ruled script h legal) in
      elim (cases_lt (controls_done (reverse h)) (length script.controls)) [ inl less ↦ absurd (next (slice_get script.controls (controls_done (reverse h))) refl less) | inr more ↦ omega arith ]
    where
      order_fits : (due : Due) → slice_get script.controls (controls_done (reverse h)) ≡ Some due → (b : Bool) → is_due script h due ≡ b → ⊥
      order_fits due e true d = none (Controls true) _ (orders true due e s d (not_hindered due.control q))
      order_fits due e false d = none (Controls true) _ (orders_forced due e s d is_quiet (not_hindered due.control q))

      some_read : (n : ℕ) (xs : List Due) → slice_get xs n ≡ None → n < length xs → ⊥
      some_read n [] e h = omega arith
      some_read zero (x ∷ xs) e h = cc
      some_read (suc n) (x ∷ xs) e h = some_read n xs e (omega arith)

      next : (o : Option Due) → slice_get script.controls (controls_done (reverse h)) ≡ o → controls_done (reverse h) < length script.controls → ⊥
      next None e less = some_read (controls_done (reverse h)) script.controls e less
      next (Some due) e less = order_fits due e (is_due script h due) refl

  -- THE LAW

  finish_up : phase_of script h ≡ Up → IsFinished script h
  finish_up p = record {
    all_ordered = ordered (ap (λ i. is_stopping i || is_leaving i) p) (ap (λ i. queued i Outward (past Outward h)) p ∙ up_waiting p Outward);
    none_flies = grounded;
    is_settled = ap (λ i. is_stopping i || is_leaving i) p;
    given_out = given_out;
    consumed_up = λ a. up_feeds p;
    spread_up = λ a l. spread (past l h) (sound l) (given_out l) (up_built p l) (all_over l (up_waiting p l));
    spread_gone = λ a. absurd (false≢true (sym (ap is_gone p) ∙ a));
    stuck_asleep = λ a. absurd (false≢true (sym (ap is_asleep p) ∙ a));
  }

  finish_asleep : phase_of script h ≡ Asleep → IsFinished script h
  finish_asleep p = record {
    all_ordered = ordered (ap (λ i. is_stopping i || is_leaving i) p) (ap (λ i. queued i Outward (past Outward h)) p);
    none_flies = grounded;
    is_settled = ap (λ i. is_stopping i || is_leaving i) p;
    given_out = given_out;
    consumed_up = λ a. absurd (false≢true (sym (ap is_awake p) ∙ a));
    spread_up = λ a. absurd (false≢true (sym (ap is_awake p) ∙ a));
    spread_gone = λ a. absurd (false≢true (sym (ap is_gone p) ∙ a));
    stuck_asleep = λ a. stuck (ap works p);
  }

  not_awake : works (phase_of script h) ≡ false → is_awake (phase_of script h) ≡ true → ⊥
  not_awake w a = false≢true (sym w ∙ or_left (is_awake (phase_of script h)) (is_asleep (phase_of script h)) a)

  not_asleep : works (phase_of script h) ≡ false → is_asleep (phase_of script h) ≡ true → ⊥
  not_asleep w a = false≢true (sym w ∙ or_right (is_awake (phase_of script h)) (is_asleep (phase_of script h)) a)

  finish_gone : is_gone (phase_of script h) ≡ true → works (phase_of script h) ≡ false → (is_stopping (phase_of script h) || is_leaving (phase_of script h)) ≡ false → ((l : Lane) (g : History) → queued (phase_of script h) l g ≡ waiting g) → IsFinished script h
  finish_gone g w s q = record {
    all_ordered = ordered s (q Outward (past Outward h) ∙ over_waiting Outward (gone_over g Outward));
    none_flies = grounded;
    is_settled = s;
    given_out = given_out;
    consumed_up = λ a. absurd (not_awake w a);
    spread_up = λ a. absurd (not_awake w a);
    spread_gone = λ a l. spread (past l h) (sound l) (given_out l) ((calm l).emptied w) (gone_over g l);
    stuck_asleep = λ a. absurd (not_asleep w a);
  }

  pub finished : IsFinished script h
  finished = go (phase_case (phase_of script h))
    where
      go : PhaseCase (phase_of script h) → IsFinished script h
      go (in_up p) = finish_up p
      go (in_asleep p) = finish_asleep p
      go (in_stopping p) = absurd (never_stopping p)
      go (in_leaving p) = absurd (never_leaving p)
      go (in_gone g w s q) = finish_gone g w s q

pub done_finished : (script : Script) (h : History) → HavePools script.params → IsDone script h → IsFinished script h
done_finished script h pools d = finished script h pools d.is_legal d.none_fits
