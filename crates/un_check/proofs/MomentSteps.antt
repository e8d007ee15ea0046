-- A legal history goes on by a step of an act that its next line names, and what an act writes leaves a legal history.
use Rattle.std.proofs.Common.{◌≡◌, false, [], ◌∷◌, take, refl, sym, subst, append_assoc, inl, inr}
use Rattle.un_journal.specs.Script.{Script}
use Rattle.un_journal.specs.History.{Entry, History}
use Rattle.un_journal.specs.Fits.{Act, Fits, takes, refuses, waits_once, closes, begins_flight, cuts_queued, lands, tries_again, fails, cuts_flight, comes_home, opens, gives, posts_one, marks, recalls_one, clears, settles, orders, orders_forced, Legal, goes_on}
use Rattle.un_journal.proofs.ForReader.{NextStep, next_step, fits_outcome, outcome_fits, legal_good}
use Rattle.un_check.specs.Moments.{ActOf}
use Rattle.un_check.specs.MomentLaws.{LineBeginsStep, StepIsLegal, ReadStepIsLegal}
use Rattle.un_check.proofs.MomentReads.{read_front}

-- the lines are a step of an act of the line e
record OfLine (script : Script) (h lines : History) (e : Entry) : Type 0 where
  act : Act
  is_of : ActOf e.0 act
  fits : Fits script h act lines

of_first : (script : Script) (h r more : History) (act : Act) (f e : Entry) → f ∷ r ≡ e ∷ more → Fits script h act (f ∷ r) → ActOf f.0 act → OfLine script h (f ∷ r) e
of_first script h r more act f e q fits of =
    let same : f ≡ e = cc in
    record { act = act; is_of = subst (λ i. ActOf i.0 act) same of; fits = fits }

of_line : (script : Script) (h lines more : History) (act : Act) (e : Entry) → Fits script h act lines → lines ≡ e ∷ more → OfLine script h lines e
of_line script h lines more act e (takes lane sender frame w p v home) q = of_first script h _ more _ _ e q (takes lane sender frame w p v home) refl
of_line script h lines more act e (refuses lane sender frame why w p v n) q = of_first script h _ more _ _ e q (refuses lane sender frame why w p v n) refl
of_line script h lines more act e (waits_once lane p) q = of_first script h _ more _ _ e q (waits_once lane p) refl
of_line script h lines more act e (closes lane b p n) q = of_first script h _ more _ _ e q (closes lane b p n) refl
of_line script h lines more act e (begins_flight lane k a none p m ha po) q = of_first script h _ more _ _ e q (begins_flight lane k a none p m ha po) refl
of_line script h lines more act e (cuts_queued lane k c none p m) q = of_first script h _ more _ _ e q (cuts_queued lane k c none p m) (inl refl)
of_line script h lines more act e (lands lane k f m p) q = of_first script h _ more _ _ e q (lands lane k f m p) refl
of_line script h lines more act e (tries_again lane k f m p) q = of_first script h _ more _ _ e q (tries_again lane k f m p) refl
of_line script h lines more act e (fails lane k kind f m p) q = of_first script h _ more _ _ e q (fails lane k kind f m p) refl
of_line script h lines more act e (cuts_flight lane k c f m) q = of_first script h _ more _ _ e q (cuts_flight lane k c f m) (inr refl)
of_line script h lines more act e (comes_home lane p) q = of_first script h _ more _ _ e q (comes_home lane p) refl
of_line script h lines more act e (opens lane k none p) q = of_first script h _ more _ _ e q (opens lane k none p) refl
of_line script h lines more act e (gives lane k n c p) q = of_first script h _ more _ _ e q (gives lane k n c p) refl
of_line script h lines more act e (posts_one lane a r) q = of_first script h _ more _ _ e q (posts_one lane a r) refl
of_line script h lines more act e (marks lane k s p) q = of_first script h _ more _ _ e q (marks lane k s p) refl
of_line script h lines more act e (recalls_one lane s p po) q = of_first script h _ more _ _ e q (recalls_one lane s p po) refl
of_line script h lines more act e (clears lane a p) q = of_first script h _ more _ _ e q (clears lane a p) refl
of_line script h lines more act e (settles s p) q = of_first script h _ more _ _ e q (settles s p) refl
-- a control that is due is one without force too
of_line script h lines more act e (orders force due p s d z) q = of_first script h _ more _ _ e q (orders false due p s d z) refl
of_line script h lines more act e (orders_forced due p s d qu z) q = of_first script h _ more _ _ e q (orders_forced due p s d qu z) refl

pub line_begins_step : LineBeginsStep
line_begins_step script h e legal m = record { act = own.act; is_of = own.is_of; more = next.lines; writes = fits_outcome script h _ own.act (legal_good script h legal) own.fits }
  where
    next : NextStep script h e m.rest
    next = next_step script h m.rest e legal (subst (Legal script) (append_assoc h (e ∷ []) m.rest) m.is_legal)

    own : OfLine script h (e ∷ next.lines) e
    own = of_line script h (e ∷ next.lines) next.lines next.act e next.fits refl

pub step_is_legal : StepIsLegal
step_is_legal script h act lines legal o = goes_on h lines act legal (outcome_fits script h lines act o)

pub read_step_is_legal : ReadStepIsLegal
read_step_is_legal script h at act lines next legal o r =
    subst (Legal script) (sym (read_front h at lines next r)) (step_is_legal script (take at h) act lines legal o)
