use Rattle.std.proofs.lemmas.Option.{slice_get-get_or}
use Rattle.un_journal.specs.Drain.{round}
use Rattle.un_link.proofs.link.drain.action_at.Goals as goal

pub returns : goal.returns
returns c = slice_get-get_or round c.args.index _ c.requires
