use Rattle.usbnet_run.proofs.SinkLaw.{holds, main_holds}
use Rattle.usbnet_run.proofs.sinks.sink_at_each_status.Goals as goal

pub returns : goal.returns
returns c = record { commands = holds; program = main_holds }
