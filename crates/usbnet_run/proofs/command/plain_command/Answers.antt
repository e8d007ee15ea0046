use Rattle.std.proofs.Common.{sym, ◌∙◌}
use Rattle.usbnet_run.specs.Command.{Answers, ends}
use Rattle.usbnet_run.proofs.Endings.{finished, read_fault, write_fault}
use Rattle.usbnet_run.proofs.command.plain_command.Goals as goal

pub returns-clause-ends : goal.returns-clause-ends
returns-clause-ends g c =
    let r = c.do_command.ensures.does in
    let f = finished (Answers _ r.0 _) _ _ _ _ _ _ c.do_command.result r.2 c.finish.ensures.told in
    (r.0, r.1, rw c.finish.ensures.status (ends f.0 f.1 f.2))

pub returns-clause-read_fault : goal.returns-clause-read_fault
returns-clause-read_fault g c = λ e. c.do_command.ensures.read_fault (read_fault c.do_command.result (sym c.finish.ensures.status ∙ e))

pub returns-clause-write_fault : goal.returns-clause-write_fault
returns-clause-write_fault g c =
    λ e. let r = c.do_command.ensures.does in
    let f = finished (Answers _ r.0 _) _ _ _ _ _ _ c.do_command.result r.2 c.finish.ensures.told in
    write_fault _ _ _ _ f.0 _ f.2 (sym c.finish.ensures.status ∙ e)
