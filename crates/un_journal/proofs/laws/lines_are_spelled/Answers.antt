use Rattle.un_journal.proofs.Bytes.Spelled.{spelled_at}
use Rattle.un_journal.proofs.Bounds.Parameters.{wire_holds}
use Rattle.un_journal.proofs.laws.lines_are_spelled.Goals as goal

pub returns : goal.returns
returns c script before after line bytes ranges agree legal = spelled_at script before after line bytes (wire_holds script.params ranges agree) legal
