-- A finished history is done, no legal history goes on after it, and an unplug that is left to the drain ends away.
use Rattle.std.proofs.Common.{◌≡◌, ℕ, zero, suc, ◌+◌, ◌-◌, ◌<◌, ◌≤◌, Bool, true, ◌&&◌, ◌||◌, List, [], ◌∷◌, ◌++◌, length, Some, refl, sym, ap, ◌∙◌, subst, arith, filter, reverse, slice_get, append-nil, append_assoc}
use Rattle.std.specs.List.{list_all}
use Rattle.std.proofs.lemmas.Bool.{false≢true, and_parts}
use Rattle.std.proofs.lemmas.Option.{slice_get_past}
use Rattle.un_facts.proofs.Lists.{empty_is}
use Rattle.un_facts.specs.Lists.{is_empty}
use Rattle.un_frame.specs.declared.params.Lane.{Lane}
use Rattle.un_frame.specs.declared.params.Lane.TheVariants.{Outward, Inward}
use Rattle.un_frame.specs.declared.kinds.Phase.{Phase}
use Rattle.un_frame.specs.declared.kinds.Phase.TheVariants.{Leaving, Away}
use Rattle.un_journal.specs.declared.lines.Line.{Line}
use Rattle.un_journal.specs.declared.lines.Line.TheVariants.{Gave, Settled}
use Rattle.un_journal.specs.declared.controls.Control.{Control as Order}
use Rattle.un_journal.specs.declared.controls.Due.{Due}
use Rattle.un_journal.specs.Script.{Script, feeds_of}
use Rattle.un_journal.specs.History.{History, past, concerns, flying, given}
use Rattle.un_journal.specs.Lookup.{phase_of, phase_after, after_order, after_control, after_settled, is_stopping, is_leaving, controls_done}
use Rattle.un_journal.specs.LaneSteps.{Outcome, lines_in}
use Rattle.un_journal.specs.Step.{Work, work, is_still, lane_works, quiet, control_head}
use Rattle.un_journal.specs.Drain.{drain}
use Rattle.un_journal.proofs.Bounds.Parameters.{HavePools}
use Rattle.un_journal.specs.Done.{IsFinished, is_gone, NoneFlies}
use Rattle.un_journal.specs.Unplug.{AwaitsUnplug, IsSettledAway, IsPrefix}
use Rattle.un_journal.specs.Fits.{Act, Works, Controls, Fits, Legal, IsDone, act_outcome}
use Rattle.un_journal.proofs.Lanes.MayFollow.{none_flies}
use Rattle.un_journal.proofs.Steps.StaySound.{legal_good}
use Rattle.un_journal.proofs.Lists.NewestFirst.{onto, past_onto}
use Rattle.un_journal.specs.Rules.{AllRuled}
use Rattle.un_journal.proofs.Steps.LineRules.{legal_ruled}
use Rattle.un_journal.proofs.Finish.Finished.{done_finished, is_quiet}
use Rattle.un_journal.proofs.Finish.SettledLast.{ends_settled}
use Rattle.un_journal.proofs.Finish.Drain.{no_fit, sends_head, land_idle, drain_done, Extends, four_feeds}

-- FINISHED

all_at : (p : Work → Bool) (ws : List Work) (i : ℕ) (w : Work) → list_all p ws ≡ true → slice_get ws i ≡ Some w → p w ≡ true
all_at p [] i w a e = absurd (cc)
all_at p (x ∷ ws) zero w a e = let same : x ≡ w = cc in subst (λ y. p y ≡ true) same (and_parts (p x) (list_all p ws) a).0
all_at p (x ∷ ws) (suc i) w a e = all_at p ws i w (and_parts (p x) (list_all p ws) a).1 e

still_lines : (o : Outcome) → is_still o ≡ true → lines_in o ≡ []
still_lines (Outcome.Writes xs) e = absurd (false≢true e)
still_lines (Outcome.Answers a) e = refl

module _ (script : Script) (h : History) (legal : Legal script h) (q : quiet script h ≡ true) (over : controls_done (reverse h) ≡ length script.controls) where
  works_all : List Work
  works_all = lane_works Outward ++ lane_works Inward ++ Work.Settle ∷ []

  parts : ((is_empty (flying (past Outward h)) && is_empty (flying (past Inward h))) ≡ true) × (list_all (λ w. is_still (work script h w)) (lane_works Outward ++ lane_works Inward ++ Work.Settle ∷ []) ≡ true)
  parts = and_parts (is_empty (flying (past Outward h)) && is_empty (flying (past Inward h))) _ q

  grounded : NoneFlies h
  grounded Outward k = none_flies (past Outward h) ((legal_good script h legal).sound Outward) (empty_is _ (and_parts (is_empty (flying (past Outward h))) _ parts.0).0) k
  grounded Inward k = none_flies (past Inward h) ((legal_good script h legal).sound Inward) (empty_is _ (and_parts (is_empty (flying (past Outward h))) _ parts.0).1) k

  idle : (i : ℕ) (w : Work) → slice_get (lane_works Outward ++ lane_works Inward ++ Work.Settle ∷ []) i ≡ Some w → lines_in (work script h w) ≡ []
  idle i w e = still_lines (work script h w) (all_at (λ v. is_still (work script h v)) (lane_works Outward ++ lane_works Inward ++ Work.Settle ∷ []) i w parts.1 e)

  offer_idle : (l : Lane) (s : ℕ) → s < 4 → lines_in (work script h (Work.Offer l s)) ≡ []
  offer_idle Outward zero k = idle 0 _ refl
  offer_idle Outward (suc zero) k = idle 1 _ refl
  offer_idle Outward (suc (suc zero)) k = idle 2 _ refl
  offer_idle Outward (suc (suc (suc zero))) k = idle 3 _ refl
  offer_idle Inward zero k = idle 12 _ refl
  offer_idle Inward (suc zero) k = idle 13 _ refl
  offer_idle Inward (suc (suc zero)) k = idle 14 _ refl
  offer_idle Inward (suc (suc (suc zero))) k = idle 15 _ refl
  offer_idle l (suc (suc (suc (suc n)))) k = absurd (omega arith)

  control_idle : (force : Bool) → lines_in (act_outcome script h (Controls force)) ≡ []
  control_idle force = ap (λ o. lines_in (control_head script h force o)) (slice_get_past script.controls (controls_done (reverse h)) (omega arith))

  none_left : (act : Act) (lines : History) → Fits script h act lines → ⊥
  none_left (Works (Work.Offer l s)) lines f =
      let low : s < length (feeds_of script l) = sends_head script h lines (Works (Work.Offer l s)) l s refl f in
      let high : length (feeds_of script l) ≤ 4 = four_feeds script l in
      no_fit script h lines (Works (Work.Offer l s)) legal (offer_idle l s (omega arith)) f
  none_left (Works (Work.Tick Outward)) lines f = no_fit script h lines _ legal (idle 4 (Work.Tick Outward) refl) f
  none_left (Works (Work.Tick Inward)) lines f = no_fit script h lines _ legal (idle 16 (Work.Tick Inward) refl) f
  none_left (Works (Work.Take Outward)) lines f = no_fit script h lines _ legal (idle 5 (Work.Take Outward) refl) f
  none_left (Works (Work.Take Inward)) lines f = no_fit script h lines _ legal (idle 17 (Work.Take Inward) refl) f
  none_left (Works (Work.Land l)) lines f = no_fit script h lines _ legal (land_idle script h l grounded) f
  none_left (Works (Work.TxDone Outward)) lines f = no_fit script h lines _ legal (idle 6 (Work.TxDone Outward) refl) f
  none_left (Works (Work.TxDone Inward)) lines f = no_fit script h lines _ legal (idle 18 (Work.TxDone Inward) refl) f
  none_left (Works (Work.RxDone Outward)) lines f = no_fit script h lines _ legal (idle 7 (Work.RxDone Outward) refl) f
  none_left (Works (Work.RxDone Inward)) lines f = no_fit script h lines _ legal (idle 19 (Work.RxDone Inward) refl) f
  none_left (Works (Work.Deliver Outward)) lines f = no_fit script h lines _ legal (idle 8 (Work.Deliver Outward) refl) f
  none_left (Works (Work.Deliver Inward)) lines f = no_fit script h lines _ legal (idle 20 (Work.Deliver Inward) refl) f
  none_left (Works (Work.Refill Outward)) lines f = no_fit script h lines _ legal (idle 9 (Work.Refill Outward) refl) f
  none_left (Works (Work.Refill Inward)) lines f = no_fit script h lines _ legal (idle 21 (Work.Refill Inward) refl) f
  none_left (Works (Work.Unlink Outward)) lines f = no_fit script h lines _ legal (idle 10 (Work.Unlink Outward) refl) f
  none_left (Works (Work.Unlink Inward)) lines f = no_fit script h lines _ legal (idle 22 (Work.Unlink Inward) refl) f
  none_left (Works (Work.ClearHalt Outward)) lines f = no_fit script h lines _ legal (idle 11 (Work.ClearHalt Outward) refl) f
  none_left (Works (Work.ClearHalt Inward)) lines f = no_fit script h lines _ legal (idle 23 (Work.ClearHalt Inward) refl) f
  none_left (Works Work.Settle) lines f = no_fit script h lines _ legal (idle 24 Work.Settle refl) f
  none_left (Controls force) lines f = no_fit script h lines (Controls force) legal (control_idle force) f

  pub quiet_done : IsDone script h
  quiet_done = record { is_legal = legal; none_fits = none_left }

-- and the other way
pub done_quiet : (script : Script) (h : History) → HavePools script.params → IsDone script h → (quiet script h ≡ true) × (controls_done (reverse h) ≡ length script.controls)
done_quiet script h pools d = (is_quiet script h pools d.is_legal d.none_fits, (done_finished script h pools d).all_ordered)

-- THE CUT

data StopCase (phase : Phase) : Type 0 where
  leaves : phase ≡ Leaving → StopCase phase
  has_left : phase ≡ Away → StopCase phase

-- with the unplug as the last control done, the link leaves or is away
stop_case : (script : Script) (due : Due) → slice_get script.controls (length script.controls - 1) ≡ Some due → due.control ≡ Order.Unplug → 0 < length script.controls
    → (older : History) → AllRuled script older → controls_done older ≡ length script.controls → StopCase (phase_after script.controls older)
stop_case script due e u some [] all n = absurd (omega arith)
stop_case script due e u some ((Line.Control c f, bytes) ∷ older) all n = leaves (ap (λ o. after_control o (phase_after script.controls older)) last ∙ ap (λ o. after_order o (phase_after script.controls older)) u)
  where
    place : length script.controls - 1 ≡ c
    place = let next : c ≡ controls_done older = all.0.of_link.is_next in omega arith

    last : slice_get script.controls c ≡ Some due
    last = subst (λ i. slice_get script.controls i ≡ Some due) place e
stop_case script due e u some ((Settled t1 r1 t2 r2, bytes) ∷ older) all n = go (stop_case script due e u some older all.1 n)
  where
    go : StopCase (phase_after script.controls older) → StopCase (after_settled (phase_after script.controls older))
    go (leaves p) = has_left (ap after_settled p)
    go (has_left p) = has_left (ap after_settled p)
stop_case script due e u some (x ∷ older) all n = stop_case script due e u some older all.1 n

-- what was given stays given, in its order
given_onto : (lines g : History) → IsPrefix (given g) (given (onto lines g))
given_onto [] g = record { rest = []; is_rest = sym (append-nil (given g)) }
given_onto ((Gave l n, bytes) ∷ es) g =
    let w = given_onto es ((Gave l n, bytes) ∷ g) in record { rest = n ∷ w.rest; is_rest = w.is_rest ∙ append_assoc (given g) (n ∷ []) w.rest }
given_onto (e ∷ es) g = let w = given_onto es (e ∷ g) in record { rest = w.rest; is_rest = w.is_rest }

pub given_prefix : (h h' : History) (l : Lane) → Extends h h' → IsPrefix (given (past l h)) (given (past l h'))
given_prefix h h' l w = subst (λ i. IsPrefix (given (past l h)) (given (past l i))) (sym w.is_more) (subst (λ g. IsPrefix (given (past l h)) (given g)) (sym (past_onto l h w.more)) (given_onto (filter (concerns l) w.more) (past l h)))

pub cut_off : (script : Script) (h : History) → HavePools script.params → Legal script h → AwaitsUnplug script h → IsSettledAway script (drain script h)
cut_off script h pools legal w = go (stop_case script w.due last w.is_unplug (let one : controls_done (reverse h) + 1 ≡ length script.controls = w.is_last in omega arith) (reverse d) (legal_ruled script d done.is_legal) f.all_ordered)
  where
    d : History
    d = drain script h

    done : IsDone script d
    done = drain_done script h legal w.none_flies

    f : IsFinished script d
    f = done_finished script d pools done

    last : slice_get script.controls (length script.controls - 1) ≡ Some w.due
    last = subst (λ i. slice_get script.controls i ≡ Some w.due) place w.is_next
      where
        place : controls_done (reverse h) ≡ length script.controls - 1
        place = let one : controls_done (reverse h) + 1 ≡ length script.controls = w.is_last in omega arith

    go : StopCase (phase_of script d) → IsSettledAway script (drain script h)
    go (leaves p) = absurd (false≢true (sym f.is_settled ∙ ap (λ i. is_stopping i || is_leaving i) p))
    go (has_left p) = record { is_away = p; settled = ends_settled script w.due last w.is_unplug d done.is_legal p f.all_ordered; spread = f.spread_gone (ap is_gone p) }
