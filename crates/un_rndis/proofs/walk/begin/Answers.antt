use Rattle.un_rndis.proofs.Steps.{places_start}
use Rattle.un_rndis.proofs.Reading.{on_start, transfer_read}
use Rattle.un_rndis.proofs.walk.begin.Goals as goal

pub returns-clause-found : goal.returns-clause-found
returns-clause-found c = transfer_read c.args.bytes.now c.in_ok-check.ensures

pub returns-clause-on : goal.returns-clause-on
returns-clause-on c = on_start c.args.bytes.now c.in_ok-check.ensures

pub returns-clause-places : goal.returns-clause-places
returns-clause-places c = places_start c.args.bytes.now
