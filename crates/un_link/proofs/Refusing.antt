-- Steps that write nothing.
use Rattle.std.proofs.Common.{◌≡◌, ℕ, ◌<◌, Bool, true, false, nat_lt, ◌∷◌, reverse, refl, sym, ap, subst, ◌∙◌, arith, if◌then◌else◌}
use Rattle.std.proofs.lemmas.Bool.Decides.{nat_tests}
use Rattle.un_frame.specs.declared.params.Lane.TheVariants.{Outward, Inward}
use Rattle.un_frame.specs.declared.kinds.Phase.{Phase}
use Rattle.un_journal.specs.declared.lines.Line.{Line}
use Rattle.un_journal.specs.declared.actions.Answer.{Answer}
use Rattle.un_journal.specs.declared.controls.Due.{Due}
use Rattle.un_journal.specs.Script.{Script}
use Rattle.un_journal.specs.History.{History, past}
use Rattle.un_journal.specs.Lookup.{phase_of, controls_done}
use Rattle.un_journal.specs.LaneSteps.{Outcome, Writes, Answers, bare}
use Rattle.un_journal.specs.Step.{order_lines, hinders, control_now}
use Rattle.un_lane.specs.Stands.{Stands}
use Rattle.un_lane.specs.Way.{Way}
use Rattle.un_link.specs.Link.{Link, Steps}
use Rattle.un_link.specs.Requests.{KeepsRequests}
use Rattle.un_link.proofs.Controlling.{same_steps}

where_true : (b : Bool) (x y : Outcome) → b ≡ true → (if b then x else y) ≡ x
where_true true x y e = refl
where_true false x y e = absurd (cc)

hindered : (script : Script) (h : History) (due : Due) (forced : Bool) (count : ℕ) → count ≡ hinders due.control (phase_of script h) (past Outward h) (past Inward h) → 0 < count
    → control_now script h due forced ≡ Answers (Answer.InFlight count)
hindered script h due forced count e low =
    let lines : History = bare (Line.Control (controls_done (reverse h)) forced) ∷ order_lines due.control (controls_done (reverse h)) (phase_of script h) (past Outward h) (past Inward h) in
    let some : nat_lt 0 count ≡ true = grind (arith, nat_tests, low) in
    ap (λ n. if nat_lt 0 n then Answers (Answer.InFlight n) else Writes lines) (sym e) ∙ where_true (nat_lt 0 count) (Answers (Answer.InFlight count)) (Writes lines) some

-- a control that transfers hinder
pub hindered_steps : (link : Link) (due : Due) (forced : Bool) (count : ℕ) → link.phase ≡ phase_of link.script link.log.history
    → count ≡ hinders due.control link.phase (past Outward link.log.history) (past Inward link.log.history) → 0 < count
    → Steps link link (control_now link.script link.log.history due forced) (Answer.InFlight count)
hindered_steps link due forced count p e low =
    same_steps link _ _ (hindered link.script link.log.history due forced count (subst (λ (i : Phase). count ≡ hinders due.control i (past Outward link.log.history) (past Inward link.log.history)) p e) low)

-- a standing path has each of its requests in one place
pub requests_kept : (way : Way) (g : History) → Stands way g → KeepsRequests way
requests_kept way g w = record {
  tx_in_one = λ n low. let least = w.placed.tx_some n low in let most = w.placed.tx_once n in omega (arith, least, most);
  rx_in_one = λ n low. let least = w.placed.rx_some n low in let most = w.placed.rx_once n in omega (arith, least, most);
  tx_all = w.placed.tx_all;
  rx_all = w.placed.rx_all;
}
