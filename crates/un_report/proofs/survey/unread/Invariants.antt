use Rattle.std.proofs.Common.{◌-◌, ◌≤◌, length}
use Rattle.un_journal.specs.Script.{frames_of}
use Rattle.un_report.proofs.survey.unread.Given as goal

abbrev pub invariant-loop-index : goal.invariant-loop-index
invariant-loop-index l = record {
  low : l.done ≤ l.index;
  high : l.index - l.done ≤ length (frames_of l.script l.lane l.sender) - l.done;
}

abbrev pub decreases-loop-index : goal.decreases-loop-index
decreases-loop-index l = l.end - l.index
