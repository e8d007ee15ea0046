-- What actions, rounds and the drain leave is legal, and an action that is refused leaves the history as it was.
use Rattle.std.proofs.Common.{◌≡◌, ℕ, zero, suc, Bool, true, false, List, [], ◌∷◌, ◌++◌, refl, subst, append_assoc, append-nil}
use Rattle.un_frame.specs.declared.params.Lane.{Lane}
use Rattle.un_journal.specs.declared.actions.Action.{Action}
use Rattle.un_journal.specs.declared.actions.Answer.{Answer}
use Rattle.un_journal.specs.Script.{Script}
use Rattle.un_journal.specs.History.{History}
use Rattle.un_journal.specs.LaneSteps.{Outcome, Writes, Answers, lines_in, answer_in}
use Rattle.un_journal.specs.Step.{Work, work, move_after, outcome, step_of}
use Rattle.un_journal.specs.Fits.{Act, Works, Controls, Legal, goes_on, act_outcome}
use Rattle.un_journal.specs.Drain.{run, round, drain_in, drain, same_length}
use Rattle.un_journal.specs.Laws.{RefusalsWriteNothing}
use Rattle.un_journal.proofs.Steps.OutcomesFit.{outcome_fits}

legal_outcome : (script : Script) (h : History) (act : Act) (o : Outcome) → Legal script h → act_outcome script h act ≡ o → Legal script (h ++ lines_in o)
legal_outcome script h act (Writes xs) legal e = goes_on h xs act legal (outcome_fits script h xs act e)
legal_outcome script h act (Answers a) legal e = rw append-nil legal

pub legal_act : (script : Script) (h : History) (act : Act) → Legal script h → Legal script (h ++ lines_in (act_outcome script h act))
legal_act script h act legal = legal_outcome script h act (act_outcome script h act) legal refl

legal_move : (script : Script) (h : History) (lane : Lane) (o : Outcome) → Legal script h → work script h (Work.Take lane) ≡ o → Legal script (h ++ lines_in (move_after script lane h o))
legal_move script h lane (Answers a) legal e = rw append-nil legal
legal_move script h lane (Writes xs) legal e =
    subst (Legal script) (append_assoc h xs (lines_in (work script (h ++ xs) (Work.Land lane))))
    (legal_act script (h ++ xs) (Works (Work.Land lane)) (legal_outcome script h (Works (Work.Take lane)) (Writes xs) legal e))

pub legal_step : (script : Script) (h : History) (action : Action) → Legal script h → Legal script (h ++ step_of script h action)
legal_step script h (Action.Offer lane sender) legal = legal_act script h (Works (Work.Offer lane sender)) legal
legal_step script h (Action.Tick lane) legal = legal_act script h (Works (Work.Tick lane)) legal
legal_step script h (Action.Move lane) legal = legal_move script h lane (work script h (Work.Take lane)) legal refl
legal_step script h (Action.TxDone lane) legal = legal_act script h (Works (Work.TxDone lane)) legal
legal_step script h (Action.RxDone lane) legal = legal_act script h (Works (Work.RxDone lane)) legal
legal_step script h (Action.Deliver lane) legal = legal_act script h (Works (Work.Deliver lane)) legal
legal_step script h (Action.Refill lane) legal = legal_act script h (Works (Work.Refill lane)) legal
legal_step script h (Action.Unlink lane) legal = legal_act script h (Works (Work.Unlink lane)) legal
legal_step script h (Action.ClearHalt lane) legal = legal_act script h (Works (Work.ClearHalt lane)) legal
legal_step script h (Action.Control force) legal = legal_act script h (Controls force) legal
legal_step script h Action.Settle legal = legal_act script h (Works Work.Settle) legal

pub legal_run : (script : Script) (h : History) (actions : List Action) → Legal script h → Legal script (run script h actions)
legal_run script h [] legal = legal
legal_run script h (a ∷ rest) legal = legal_run script (h ++ step_of script h a) rest (legal_step script h a legal)

still : (o : Outcome) → (answer_in o ≡ Answer.Did → ⊥) → lines_in o ≡ []
still (Writes xs) other = absurd (other refl)
still (Answers a) other = refl

pub refused : RefusalsWriteNothing
refused script h action other = still (outcome script h action) other

drain_choice : (P : History → Type 0) (a b : Bool) (x y z : History) → P x → P y → P z
    → P (elim a [ false ↦ x | true ↦ elim b [ false ↦ y | true ↦ z ] ])
drain_choice P false b x y z p q r = p
drain_choice P true false x y z p q r = q
drain_choice P true true x y z p q r = r

pub legal_drain_in : (n : ℕ) (script : Script) (h : History) → Legal script h → Legal script (drain_in n script h)
legal_drain_in zero script h legal = legal
legal_drain_in (suc n) script h legal =
    drain_choice (Legal script) (same_length h (run script h round)) (same_length h (h ++ step_of script h (Action.Control true))) _ _ _
    (legal_drain_in n script (run script h round) (legal_run script h round legal))
    (legal_drain_in n script (h ++ step_of script h (Action.Control true)) (legal_step script h (Action.Control true) legal))
    legal

pub legal_drain : (script : Script) (h : History) → Legal script h → Legal script (drain script h)
legal_drain script h legal = legal_drain_in _ script h legal
