use Rattle.usbnet_run.proofs.TopLaws.{complete}
use Rattle.usbnet_run.proofs.top.run_is_complete.Goals as goal

pub returns : goal.returns
returns c = complete
