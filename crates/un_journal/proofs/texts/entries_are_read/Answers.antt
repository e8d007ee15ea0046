use Rattle.un_journal.proofs.Text.OneText.{entries}
use Rattle.un_journal.proofs.texts.entries_are_read.Goals as goal

pub returns : goal.returns
returns c = entries
