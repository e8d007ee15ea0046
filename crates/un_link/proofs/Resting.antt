-- When a link is quiet, and when it is finished.
use Rattle.std.proofs.Common.{◌≡◌, ℕ, ◌<◌, Bool, true, false, not, ◌&&◌, ◌||◌, ◌==◌, ◌-◌, [], ◌∷◌, List, length, reverse, refl, sym, ap, ◌∙◌, arith, if◌then◌else◌}
use Rattle.std.proofs.lemmas.Bool.{ne_eqb, and_parts}
use Rattle.std.proofs.lemmas.Bool.Decides.{nat_tests}
use Rattle.un_frame.specs.declared.params.Lane.{Lane}
use Rattle.un_frame.specs.declared.params.Lane.TheVariants.{Outward, Inward}
use Rattle.un_frame.specs.declared.kinds.Phase.{Phase}
use Rattle.un_journal.specs.declared.actions.Answer.{Answer}
use Rattle.un_journal.specs.Script.{Script}
use Rattle.un_journal.specs.History.{History, past}
use Rattle.un_journal.specs.Lookup.{phase_of, is_stopping, is_leaving, is_asleep, controls_done, built_frames}
use Rattle.un_journal.specs.LaneSteps.{Writes, Answers}
use Rattle.un_journal.specs.Step.{Work, work, is_still, away, all_home, settled_line, quiet, offers_still}
use Rattle.un_journal.specs.Fits.{Legal, IsDone}
use Rattle.un_journal.specs.Done.{IsFinished}
use Rattle.un_journal.proofs.Theorems.{done_finished, have_pools, away_some, away_none, quiet_done}
use Rattle.un_journal.proofs.ForLink.{lane_still, quiet_parts}
use Rattle.un_lane.specs.Way.{Way}
use Rattle.un_lane.specs.Still.{is_lane_still}
use Rattle.un_lane.specs.Stands.{Stands}
use Rattle.un_lane.specs.Phases.{Agrees}
use Rattle.un_link.specs.Keeps.{Keeps}
use Rattle.un_link.specs.Link.{Link, Holds}
use Rattle.un_link.specs.Ends.{is_finished}

-- all requests are home exactly where none is away
pub away_is : (script : Script) (h : History) → Legal script h → (away script h == 0) ≡ all_home script h
away_is script h legal = go (all_home script h) refl
  where
    go : (b : Bool) → all_home script h ≡ b → (away script h == 0) ≡ b
    go true e = ap (λ n. n == 0) (away_none script h e)
    go false e = let low : 0 < away script h = away_some script h legal e in ne_eqb (away script h) 0 (λ z. absurd (omega (arith, z)))

-- whether a stop would settle
pub settle_still : (script : Script) (h : History) → Legal script h → is_still (work script h Work.Settle) ≡ not ((is_stopping (phase_of script h) || is_leaving (phase_of script h)) && (away script h == 0))
settle_still script h legal = go (is_stopping (phase_of script h) || is_leaving (phase_of script h)) (all_home script h) (sym (away_is script h legal))
  where
    go : (a b : Bool) → b ≡ (away script h == 0) → is_still (if not a then Answers Answer.Nothing else (if b then Writes ((settled_line script h, []) ∷ []) else Answers (Answer.Away (away script h)))) ≡ not (a && (away script h == 0))
    go false b e = refl
    go true true e = ap not e
    go true false e = ap not e

-- a lane is still where its path is
pub path_still : (script : Script) (h : History) (lane : Lane) (way : Way) → way.lane ≡ lane → way.tx.params ≡ script.params
    → is_lane_still way.tx.params (phase_of script h) way.lane (built_frames script lane (past lane h)) (controls_done (reverse h) - 1) (past lane h) ≡ lane_still script h lane
path_still script h lane way l p = rw (l, p) refl

pub quiet_is : (script : Script) (h : History) (out inward offers settles : Bool) → out ≡ lane_still script h Outward → inward ≡ lane_still script h Inward
    → offers ≡ (offers_still script h Outward && offers_still script h Inward) → is_still (work script h Work.Settle) ≡ settles
    → ((out && inward) && (offers && settles)) ≡ quiet script h
quiet_is script h out inward offers settles o i f s =
    ap (λ b. (b && inward) && (offers && settles)) o ∙ (ap (λ b. (lane_still script h Outward && b) && (offers && settles)) i
    ∙ (ap (λ b. (lane_still script h Outward && lane_still script h Inward) && (b && settles)) f ∙ (ap (λ b. (lane_still script h Outward && lane_still script h Inward) && ((offers_still script h Outward && offers_still script h Inward) && b)) (sym s) ∙ sym (quiet_parts script h))))

-- a finished link is done
pub finished_done : (script : Script) (h : History) → Legal script h → is_finished script h ≡ true → IsDone script h
finished_done script h legal e =
    let both = and_parts (quiet script h) (controls_done (reverse h) == length script.controls) e in
    quiet_done script h legal both.0 (same _ _ both.1)
  where
    same : (n m : ℕ) → (n == m) ≡ true → n ≡ m
    same n m e = grind (arith, nat_tests)

-- OF A LINK

pub would_settle_is : (link : Link) (n : ℕ) → Holds link → (is_stopping link.phase || is_leaving link.phase) ≡ true → n ≡ away link.script link.log.history → is_still (work link.script link.log.history Work.Settle) ≡ not (n == 0)
would_settle_is link n k e a =
    settle_still link.script link.log.history k.logged.legal
    ∙ (ap (λ b. not (b && (away link.script link.log.history == 0))) (ap (λ p. is_stopping p || is_leaving p) (sym k.phase_is) ∙ e) ∙ ap (λ m. not (m == 0)) (sym a))

-- what a path tells of a lane
abbrev pub Tells : Bool → Way → Phase → Type 0
Tells b way phase = (frames : List (List ℕ)) (cause : ℕ) (g : History) → Stands way g → Agrees (is_asleep phase) way → b ≡ is_lane_still way.tx.params phase way.lane frames cause g

tells_lane : (script : Script) (h : History) (phase : Phase) (lane : Lane) (way : Way) (b : Bool) → phase ≡ phase_of script h → way.lane ≡ lane → Keeps script phase way (past lane h) → Tells b way phase → b ≡ lane_still script h lane
tells_lane script h phase lane way b p l k t =
    t (built_frames script lane (past lane h)) (controls_done (reverse h) - 1) (past lane h) k.stands k.agrees
    ∙ (ap (λ i. is_lane_still way.tx.params i way.lane (built_frames script lane (past lane h)) (controls_done (reverse h) - 1) (past lane h)) p ∙ path_still script h lane way l k.params_are)

pub quiet_tells : (link : Link) (out inward offers settles : Bool) → Holds link → Tells out link.out link.phase → Tells inward link.inward link.phase
    → offers ≡ (offers_still link.script link.log.history Outward && offers_still link.script link.log.history Inward) → is_still (work link.script link.log.history Work.Settle) ≡ not settles
    → ((out && inward) && (offers && not settles)) ≡ quiet link.script link.log.history
quiet_tells link out inward offers settles k o i f s =
    quiet_is link.script link.log.history out inward offers (not settles)
    (tells_lane link.script link.log.history link.phase Outward link.out out k.phase_is k.out_lane k.out_keeps o)
    (tells_lane link.script link.log.history link.phase Inward link.inward inward k.phase_is k.in_lane k.in_keeps i) f s

pub finished_is : (link : Link) (n : ℕ) → Holds link → n ≡ length link.script.controls → quiet link.script link.log.history ≡ true → (link.next_control == n) ≡ true → IsDone link.script link.log.history
finished_is link n k c q e =
    finished_done link.script link.log.history k.logged.legal
    (ap (λ b. b && controls_done (reverse link.log.history) == length link.script.controls) q ∙ (ap (λ m. m == length link.script.controls) (sym k.next_control_is) ∙ (ap (λ m. link.next_control == m) (sym c) ∙ e)))

-- and what it means to be done
pub finished_says : (link : Link) (n : ℕ) → Holds link → n ≡ length link.script.controls → quiet link.script link.log.history ≡ true → (link.next_control == n) ≡ true → IsFinished link.script link.log.history
finished_says link n k c q e = done_finished link.script link.log.history (have_pools link.script.params k.logged.in_range) (finished_is link n k c q e)
