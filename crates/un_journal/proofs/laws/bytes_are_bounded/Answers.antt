use Rattle.un_journal.proofs.Bounds.ByteBound.{legal_room}
use Rattle.un_journal.proofs.Bounds.Parameters.{wire_holds}
use Rattle.un_journal.proofs.laws.bytes_are_bounded.Goals as goal

pub returns : goal.returns
returns c script h ranges agree legal = legal_room script h (wire_holds script.params ranges agree) legal
