use Rattle.un_journal.proofs.Text.OneText.{traces}
use Rattle.un_journal.proofs.texts.traces_are_read.Goals as goal

pub returns : goal.returns
returns c = traces
