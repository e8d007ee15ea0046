use Rattle.std.proofs.Common.{[], Err, refl, ap, subst, sym, ◌∙◌}
use Rattle.std.proofs.lemmas.Result.{err_from_is_err_and}
use Rattle.un_io.proofs.Known.{Consumes-none}
use Rattle.usbnet_run.specs.Command.{Answers, IsDrained}
use Rattle.usbnet_run.specs.Decode.{Decodes}
use Rattle.usbnet_run.specs.Reading.{OfInput}
use Rattle.usbnet_run.specs.Runs.{Runs}
use Rattle.usbnet_run.proofs.Endings.{decode_asked, decode_reads, does_as, is_answer, one_refusal, run_reads, serial_asked, unread}
use Rattle.usbnet_run.proofs.command.do_command.Goals as goal

pub returns-in_default-clause-does : goal.returns-in_default-clause-does
returns-in_default-clause-does g c =
    ([], Consumes-none (g.I.Source.left c.args.input.now), (Answers.bad_words (sym c.in_default.ensures) refl, refl, refl))

pub returns-in_err-text-clause-does : goal.returns-in_err-text-clause-does
returns-in_err-text-clause-does g c =
    let r = c.in_err-text.ensures.given in
    let p = err_from_is_err_and c.from_residual.result c.from_residual.ensures.1 in
    rw (p.1, p.2) (r.0, r.1, (unread _ r.0 _ c.in-Some.command _ c.in-Some.ensures r.2, refl, refl))

pub returns-in_err-text-clause-read_fault : goal.returns-in_err-text-clause-read_fault
returns-in_err-text-clause-read_fault g c =
    let p = err_from_is_err_and c.from_residual.result c.from_residual.ensures.1 in
    λ e. c.in_err-text.ensures.cause (ap (λ r. Err r) (sym p.2 ∙ one_refusal c.from_residual.result _ _ p.1 e))

pub returns-in-Decode-clause-does : goal.returns-in-Decode-clause-does
returns-in-Decode-clause-does g c =
    let r = c.in_ok-text.ensures.given in
    let class = c.in-Decode.class in
    let asked = decode_asked _ c.in-Some.command class c.in-Some.ensures c.in-Decode.is in (
      r.0,
      r.1,
      does_as (Decodes class _) (Answers _ r.0 _) _ _ _ _ c.decode.result
          (λ answer d. Answers.answers_decode class answer asked (OfInput.reads answer r.2.1 (subst (λ t. Decodes class t answer) (c.deref.ensures.value ∙ r.2.0) d))) c.decode.ensures.does,
    )

pub returns-in-Decode-clause-read_fault : goal.returns-in-Decode-clause-read_fault
returns-in-Decode-clause-read_fault g c =
    λ e. absurd (decode_reads c.in-Decode.class _ _ (is_answer (Decodes c.in-Decode.class _) _ _ _ _ c.decode.result _ c.decode.ensures.does e) refl)

pub returns-in-Serial-clause-does : goal.returns-in-Serial-clause-does
returns-in-Serial-clause-does g c =
    let r = c.in_ok-text.ensures.given in
    let asked = serial_asked _ c.in-Some.command c.in-Some.ensures c.in-Serial.is in (
      r.0,
      r.1,
      does_as (Runs IsDrained _) (Answers _ r.0 _) _ _ _ _ c.serial.result
          (λ answer s. Answers.answers_serial answer asked (OfInput.reads answer r.2.1 (subst (λ t. Runs IsDrained t answer) r.2.0 s))) c.serial.ensures.does,
    )

pub returns-in-Serial-clause-read_fault : goal.returns-in-Serial-clause-read_fault
returns-in-Serial-clause-read_fault g c = λ e. absurd (run_reads IsDrained _ _ (is_answer (Runs IsDrained _) _ _ _ _ c.serial.result _ c.serial.ensures.does e) refl)
