use Rattle.un_journal.proofs.StoredEntries.{entries_get, got}
use Rattle.un_journal.proofs.journal.entry.Goals as goal

pub returns : goal.returns
returns c = entries_get c.args.bytes.now c.args.lines.now c.args.index _ (got c.args.lines.now c.args.index _ c.requires.within)
