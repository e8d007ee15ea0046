use Rattle.usbnet_run.proofs.Completeness.{complete, decode_complete}
use Rattle.usbnet_run.proofs.command.command_is_complete.Goals as goal

pub returns : goal.returns
returns c = record { serial = complete; decode = decode_complete }
