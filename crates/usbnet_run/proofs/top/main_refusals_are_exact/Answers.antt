use Rattle.usbnet_run.proofs.TopLaws.{main_exact}
use Rattle.usbnet_run.proofs.top.main_refusals_are_exact.Goals as goal

pub returns : goal.returns
returns c = main_exact
