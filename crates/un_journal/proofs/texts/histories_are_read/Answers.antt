use Rattle.un_journal.proofs.Text.OneText.{histories}
use Rattle.un_journal.proofs.texts.histories_are_read.Goals as goal

pub returns : goal.returns
returns c = histories
