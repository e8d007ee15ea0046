use Rattle.std.proofs.Common.{sym, ◌∙◌}
use Rattle.un_link.proofs.Flights.{finished_none}
use Rattle.un_link.proofs.link.machine.LinkOverMachine.finished.Goals as goal

pub returns-clause-none_out : goal.returns-clause-none_out
returns-clause-none_out g c = λ e. finished_none c.args.self.now (rw c.self.view_is at c.self.invariant) (sym c.finished.ensures.answer ∙ e)
