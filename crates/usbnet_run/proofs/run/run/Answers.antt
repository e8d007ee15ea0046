use Rattle.std.proofs.Common.{refl, ap, ◌∙◌}
use Rattle.std.proofs.lemmas.Result.{err_from_is_err_and}
use Rattle.un_journal.specs.Log.{Log}
use Rattle.usbnet_run.specs.Kept.{IsKept}
use Rattle.usbnet_run.specs.Runs.{Refuses, Runs}
use Rattle.usbnet_run.specs.declared.refusal.Refusal.TheVariants.{NoMemory}
use Rattle.usbnet_run.proofs.Eleven.{kept_is_done}
use Rattle.usbnet_run.proofs.Running.{printed_so}
use Rattle.usbnet_run.proofs.run.run.Goals as goal

pub returns-in_err-link-clause-does : goal.returns-in_err-link-clause-does
returns-in_err-link-clause-does g c =
    let p = err_from_is_err_and c.from_residual.result c.from_residual.ensures.1 in
    rw (p.1, p.2) (Runs.refuses _ c.in_err-link.ensures.refused, refl, refl)

pub returns-in_err-link-2-clause-does : goal.returns-in_err-link-2-clause-does
returns-in_err-link-2-clause-does g c =
    let p = err_from_is_err_and c.from_residual-in_err-link-2.result c.from_residual-in_err-link-2.ensures.1 in
    rw (p.1, p.2) (Runs.refuses NoMemory (Refuses.wants_memory NoMemory refl), refl, refl)

pub returns-clause-does : goal.returns-clause-does
returns-clause-does g c =
    let link = c.in_ok-link.field-0.link in
    let history = c.in_ok-link-2.link.log.history in
    let kept = c.in_ok-link-2.ensures.kept in
    printed_so IsKept _ link c.in_ok-link.field-0.agreed history _ _ _ _ _ _ c.print.result c.in_ok-link.ensures.prepared kept (kept_is_done link.script history kept)
    (c.script.ensures ∙ c.in_ok-link-2.ensures.script) (ap (λ (l : Log). l.history) c.journal.ensures.log) c.print.ensures.entries c.print.ensures.writes
