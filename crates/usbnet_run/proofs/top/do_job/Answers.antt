use Rattle.std.proofs.Common.{[], Err, refl, ap, subst, sym, ◌∙◌}
use Rattle.std.proofs.lemmas.Result.{err_from_is_err_and}
use Rattle.un_io.proofs.Known.{Consumes-none}
use Rattle.usbnet_run.specs.Command.{Answers}
use Rattle.usbnet_run.specs.Kept.{IsKept}
use Rattle.usbnet_run.specs.Loads.{Loads}
use Rattle.usbnet_run.specs.Reading.{OfInput}
use Rattle.usbnet_run.specs.Runs.{Runs}
use Rattle.usbnet_run.specs.Top.{MainAnswers}
use Rattle.usbnet_run.proofs.Endings.{does_as, is_answer, load_reads, one_refusal, run_reads}
use Rattle.usbnet_run.proofs.top.do_job.Goals as goal

pub returns-in_err-text-in-Run-clause-does : goal.returns-in_err-text-in-Run-clause-does
returns-in_err-text-in-Run-clause-does g c =
    let r = c.in_err-text-in-Run.ensures.given in
    let p = err_from_is_err_and c.from_residual.result c.from_residual.ensures.1 in
    rw (p.1, p.2) (r.0, r.1, (MainAnswers.answers_run _ (sym c.in-Run.ensures) (OfInput.stops _ r.2), refl, refl))

pub returns-in_err-text-in-Run-clause-read_fault : goal.returns-in_err-text-in-Run-clause-read_fault
returns-in_err-text-in-Run-clause-read_fault g c =
    let p = err_from_is_err_and c.from_residual.result c.from_residual.ensures.1 in
    λ e. c.in_err-text-in-Run.ensures.cause (ap (λ r. Err r) (sym p.2 ∙ one_refusal c.from_residual.result _ _ p.1 e))

pub returns-in_ok-text-in-Run-clause-does : goal.returns-in_ok-text-in-Run-clause-does
returns-in_ok-text-in-Run-clause-does g c =
    let r = c.in_ok-text-in-Run.ensures.given in (
      r.0,
      r.1,
      does_as (Runs IsKept _) (MainAnswers _ r.0 _) _ _ _ _ c.run.result
          (λ answer s. MainAnswers.answers_run answer (sym c.in-Run.ensures) (OfInput.reads answer r.2.1 (subst (λ t. Runs IsKept t answer) r.2.0 s))) c.run.ensures.does,
    )

pub returns-in_ok-text-in-Run-clause-read_fault : goal.returns-in_ok-text-in-Run-clause-read_fault
returns-in_ok-text-in-Run-clause-read_fault g c = λ e. absurd (run_reads IsKept _ _ (is_answer (Runs IsKept _) _ _ _ _ c.run.result _ c.run.ensures.does e) refl)

pub returns-in-Load-clause-does : goal.returns-in-Load-clause-does
returns-in-Load-clause-does g c = (
  [],
  Consumes-none (g.I.Source.left c.args.input.now),
  does_as (Loads c.in-Load.count) (MainAnswers _ [] _) _ _ _ _ c.load.result (λ answer l. MainAnswers.answers_load c.in-Load.count answer (sym c.in-Load.ensures) refl l) c.load.ensures.does,
)

pub returns-in-Load-clause-read_fault : goal.returns-in-Load-clause-read_fault
returns-in-Load-clause-read_fault g c = λ e. absurd (load_reads c.in-Load.count _ (is_answer (Loads c.in-Load.count) _ _ _ _ c.load.result _ c.load.ensures.does e) refl)

pub returns-in-Plain-clause-does : goal.returns-in-Plain-clause-does
returns-in-Plain-clause-does g c =
    let r = c.do_command.ensures.does in
    (r.0, r.1, does_as (Answers _ r.0 _) (MainAnswers _ r.0 _) _ _ _ _ c.do_command.result (λ answer a. MainAnswers.answers_plain answer (sym c.in-Plain.ensures) a) r.2)
