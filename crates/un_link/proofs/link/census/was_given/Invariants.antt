use Rattle.std.proofs.Common.{◌≡◌, take, false}
use Rattle.un_journal.specs.History.{gave, past}
use Rattle.un_link.proofs.link.census.was_given.Given as goal

abbrev pub invariant-loop-index : goal.invariant-loop-index
invariant-loop-index l = record {
  none : gave (past l.lane (take l.index l.journal.history)) l.number ≡ false;
}
