use Rattle.std.proofs.Common.{[], refl, ap, ◌∙◌}
use Rattle.std.proofs.lemmas.Result.{err_from_is_err_and}
use Rattle.un_journal.specs.Drain.{drain}
use Rattle.un_journal.specs.Log.{Log}
use Rattle.usbnet_run.specs.Command.{IsDrained}
use Rattle.usbnet_run.specs.Runs.{Runs}
use Rattle.usbnet_run.proofs.Running.{drained_is_done, printed_so}
use Rattle.usbnet_run.proofs.serial.serial.Goals as goal

pub returns-in_err-link-clause-does : goal.returns-in_err-link-clause-does
returns-in_err-link-clause-does g c =
    let p = err_from_is_err_and c.from_residual.result c.from_residual.ensures.1 in
    rw (p.1, p.2) (Runs.refuses _ c.in_err-link.ensures.refused, refl, refl)

pub returns-clause-does : goal.returns-clause-does
returns-clause-does g c =
    let link = c.in_ok-link.field-0.link in
    let prepared = c.in_ok-link.ensures.prepared in
    let lent = ap (λ (l : Log). l.history) c.journal.ensures.log in
    let drained = c.drain.ensures.history ∙ ap (λ h. drain link.script h) prepared.fresh in
    printed_so IsDrained _ link c.in_ok-link.field-0.agreed (drain link.script []) _ _ _ _ _ _ c.print.result prepared refl (drained_is_done link.script _ refl)
    (c.script.ensures ∙ c.drain.ensures.script) (lent ∙ drained) c.print.ensures.entries c.print.ensures.writes
