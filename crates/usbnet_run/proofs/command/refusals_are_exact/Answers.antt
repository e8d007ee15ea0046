use Rattle.usbnet_run.proofs.Completeness.{exact}
use Rattle.usbnet_run.proofs.command.refusals_are_exact.Goals as goal

pub returns : goal.returns
returns c = exact
