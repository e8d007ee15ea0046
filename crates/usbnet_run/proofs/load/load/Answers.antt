use Rattle.std.proofs.Common.{refl}
use Rattle.std.proofs.lemmas.Result.{err_from_is_err_and}
use Rattle.usbnet_run.specs.Loads.{Loads, load_line}
use Rattle.usbnet_run.proofs.load.load.Goals as goal

pub returns-in_err-link-clause-does : goal.returns-in_err-link-clause-does
returns-in_err-link-clause-does g c =
    let p = err_from_is_err_and c.from_residual.result c.from_residual.ensures.1 in
    rw (p.1, p.2) (Loads.wants_memory, refl, refl)

pub returns-clause-does : goal.returns-clause-does
returns-clause-does g c = (load_line c.args.count, Loads.loaded c.in_ok-link.link.log.history c.in_ok-link.ensures.load, c.print_sums.ensures.writes)
