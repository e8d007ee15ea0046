use Rattle.usbnet_run.proofs.Eleven.{load_if}
use Rattle.usbnet_run.proofs.load.loaded.Goals as goal

pub returns-clause-load : goal.returns-clause-load
returns-clause-load g c = load_if c.work.result _ c.args.count c.in_ok-load_link.ensures.0 c.work.ensures.kept
