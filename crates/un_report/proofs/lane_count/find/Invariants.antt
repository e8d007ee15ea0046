use Rattle.std.proofs.Common.{◌≡◌, take}
use Rattle.un_journal.specs.History.{past, made}
use Rattle.un_report.proofs.lane_count.find.Given as goal

abbrev pub invariant-loop-at : goal.invariant-loop-at
invariant-loop-at l = record { same : made (past l.lane (take l.at l.journal.history)) ≡ made (past l.lane (take l.fn.from l.journal.history)) }
