use Rattle.std.proofs.lemmas.Result.{err_from_is_err_and}
use Rattle.un_io.proofs.Known.{Stopped-more}
use Rattle.usbnet_run.proofs.Endings.{writes_then}
use Rattle.usbnet_run.proofs.serial.print.Goals as goal

pub returns-in_err-write_trace-clause-writes : goal.returns-in_err-write_trace-clause-writes
returns-in_err-write_trace-clause-writes g c =
    let p = err_from_is_err_and c.from_residual.result c.from_residual.ensures.1 in
    rw p.1 (Stopped-more _ _ _ _ c.in_err-write_trace.ensures.stopped, c.in_err-write_trace.ensures.cause)

pub returns-clause-writes : goal.returns-clause-writes
returns-clause-writes g c =
    let w = c.write.ensures in
    writes_then _ _ _ _ _ _ _ _ c.write.result c.in_ok-write_trace.ensures.written c.write_trace.ensures.never_falls w.written w.stopped w.cause
