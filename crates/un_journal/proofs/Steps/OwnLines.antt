-- A step of one lane writes lines of that lane alone, which change no phase and are no controls.
use Rattle.std.proofs.Common.{◌≡◌, true, [], ◌∷◌, Option, Some, None, refl, subst}
use Rattle.std.proofs.lemmas.Option.{same_Some, none-some}
use Rattle.un_frame.specs.declared.params.Lane.{Lane}
use Rattle.un_journal.specs.Script.{Script}
use Rattle.un_journal.specs.History.{Entry, History, past}
use Rattle.un_journal.specs.Lookup.{span_after_took}
use Rattle.un_journal.specs.LaneSteps.{Outcome, Writes, Answers, lines_in}
use Rattle.un_journal.specs.Step.{Work, work}
use Rattle.un_journal.specs.Fits.{Act, Works, Controls, Fits, takes, refuses, waits_once, closes, begins_flight, cuts_queued, lands, tries_again, fails, cuts_flight, comes_home, opens, gives, posts_one, marks, recalls_one, clears, settles, orders, orders_forced, after_took}
use Rattle.un_journal.proofs.Lists.NewestFirst.{AllOf}
use Rattle.un_journal.proofs.Steps.OrderLines.{AreStill, is_still_line, made_still, made_of}
use Rattle.un_journal.proofs.Steps.OutcomesFit.{outcome_fits}

-- THE LINES OF A LANE'S WORK

pub record OwnLines (lane : Lane) (lines : History) : Type 0 where
  pub own : AllOf lane lines
  pub still : AreStill lines

-- the lane of a work, but for settling
abbrev pub lane_of : Work → Option Lane
lane_of (Work.Offer lane sender) = Some lane
lane_of (Work.Tick lane) = Some lane
lane_of (Work.Take lane) = Some lane
lane_of (Work.Land lane) = Some lane
lane_of (Work.TxDone lane) = Some lane
lane_of (Work.RxDone lane) = Some lane
lane_of (Work.Deliver lane) = Some lane
lane_of (Work.Refill lane) = Some lane
lane_of (Work.Unlink lane) = Some lane
lane_of (Work.ClearHalt lane) = Some lane
lane_of Work.Settle = None

abbrev act_lane : Act → Option Lane
act_lane (Works w) = lane_of w
act_lane (Controls force) = None

moved : (a lane : Lane) (lines : History) → Some a ≡ Some lane → OwnLines a lines → OwnLines lane lines
moved a lane lines e w = subst (λ l. OwnLines l lines) (same_Some a lane e) w

one_own : (lane : Lane) (e : Entry) → AllOf lane (e ∷ []) → is_still_line e ≡ true → OwnLines lane (e ∷ [])
one_own lane e a s = record { own = a; still = (s, tt) }

fits_own : (script : Script) (h lines : History) (act : Act) (lane : Lane) → Fits script h act lines → act_lane act ≡ Some lane → OwnLines lane lines
fits_own script h lines act lane (takes l s frame w e v home) q = moved l lane _ q (record {
  own = (λ i. refl, made_of script l (after_took l s (past l h)) (span_after_took script l (after_took l s (past l h))));
  still = (refl, made_still script l (after_took l s (past l h)) (span_after_took script l (after_took l s (past l h))));
})
fits_own script h lines act lane (refuses l s frame why w e v n) q = moved l lane _ q (one_own l _ (λ i. refl, tt) refl)
fits_own script h lines act lane (waits_once l p) q = moved l lane _ q (one_own l _ (λ i. refl, tt) refl)
fits_own script h lines act lane (closes l b p n) q = moved l lane _ q (one_own l _ (λ i. refl, tt) refl)
fits_own script h lines act lane (begins_flight l k a none e m ha p) q = moved l lane _ q (one_own l _ (λ i. refl, tt) refl)
fits_own script h lines act lane (cuts_queued l k c none e m) q = moved l lane _ q (one_own l _ (λ i. refl, tt) refl)
fits_own script h lines act lane (lands l k f m p) q = moved l lane _ q (one_own l _ (λ i. refl, tt) refl)
fits_own script h lines act lane (tries_again l k f m p) q = moved l lane _ q (one_own l _ (λ i. refl, tt) refl)
fits_own script h lines act lane (fails l k kind f m p) q = moved l lane _ q (one_own l _ (λ i. refl, tt) refl)
fits_own script h lines act lane (cuts_flight l k c f m) q = moved l lane _ q (one_own l _ (λ i. refl, tt) refl)
fits_own script h lines act lane (comes_home l e) q = moved l lane _ q (one_own l _ (λ i. refl, tt) refl)
fits_own script h lines act lane (opens l k none e) q = moved l lane _ q (one_own l _ (λ i. refl, tt) refl)
fits_own script h lines act lane (gives l k n c e) q = moved l lane _ q (one_own l _ (λ i. refl, tt) refl)
fits_own script h lines act lane (posts_one l a r) q = moved l lane _ q (one_own l _ (λ i. refl, tt) refl)
fits_own script h lines act lane (marks l k s e) q = moved l lane _ q (one_own l _ (λ i. refl, tt) refl)
fits_own script h lines act lane (recalls_one l s e p) q = moved l lane _ q (one_own l _ (λ i. refl, tt) refl)
fits_own script h lines act lane (clears l a e) q = moved l lane _ q (one_own l _ (λ i. refl, tt) refl)
fits_own script h lines act lane (settles s e) q = absurd (none-some lane q)
fits_own script h lines act lane (orders force due e p d z) q = absurd (none-some lane q)
fits_own script h lines act lane (orders_forced due e p d qu z) q = absurd (none-some lane q)

-- a lane's work writes lines of its lane, no control and no settled line
pub work_own : (script : Script) (h : History) (w : Work) (lane : Lane) → lane_of w ≡ Some lane → OwnLines lane (lines_in (work script h w))
work_own script h w lane q = go (work script h w) refl
  where
    go : (o : Outcome) → work script h w ≡ o → OwnLines lane (lines_in o)
    go (Writes lines) e = fits_own script h lines (Works w) lane (outcome_fits script h lines (Works w) e) q
    go (Answers answer) e = record { own = tt; still = tt }
