use Rattle.std.proofs.Common.{refl}
use Rattle.std.proofs.lemmas.Result.{err_from_is_err_and}
use Rattle.usbnet_run.specs.Runs.{Refuses}
use Rattle.usbnet_run.specs.declared.refusal.Refusal.TheVariants.{NoMemory}
use Rattle.usbnet_run.proofs.Running.{prepared_of, refuses_of}
use Rattle.usbnet_run.proofs.prepare.prepare.Goals as goal

pub returns-in_err-script-clause-refused : goal.returns-in_err-script-clause-refused
returns-in_err-script-clause-refused c =
    let p = err_from_is_err_and c.from_residual.result c.from_residual.ensures.1 in
    rw (p.1, p.2) c.in_err-script.ensures.refused

pub returns-in_err-agreed-clause-refused : goal.returns-in_err-agreed-clause-refused
returns-in_err-agreed-clause-refused c =
    let p = err_from_is_err_and c.from_residual-in_err-agreed.result c.from_residual-in_err-agreed.ensures.1 in
    let no = rw c.params.ensures at c.in_err-agreed.ensures in
    rw (p.1, p.2) (refuses_of _ c.in_ok-script.script _ c.in_ok-script.ensures.script no.agreed no.decides)

pub returns-in_err-link-clause-refused : goal.returns-in_err-link-clause-refused
returns-in_err-link-clause-refused c =
    let p = err_from_is_err_and c.from_residual-in_err-link.result c.from_residual-in_err-link.ensures.1 in
    rw (p.1, p.2) (Refuses.wants_memory NoMemory refl)

pub returns-clause-prepared : goal.returns-clause-prepared
returns-clause-prepared c =
    let agreed = rw c.params.ensures at c.in_ok-agreed.ensures in
    let new = c.in_ok-link.ensures in
    prepared_of _ c.in_ok-script.script c.in_ok-link.link c.in_ok-agreed.agreed c.in_ok-script.ensures.script c.prove_ready.ensures.in_range agreed.decides agreed.agreed new.0 new.1 new.3
