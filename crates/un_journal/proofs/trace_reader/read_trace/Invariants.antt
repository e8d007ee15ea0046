use Rattle.std.proofs.Common.{◌≡◌, ◌+◌, ◌≤◌, length, vec_len}
use Rattle.std.specs.List.{All}
use Rattle.un_journal.specs.Log.{IsStored, entries_of}
use Rattle.un_journal.proofs.Text.TracesRead.{Behind}
use Rattle.un_journal.proofs.trace_reader.read_trace.Given as goal

abbrev pub invariant-loop-line : goal.invariant-loop-line
invariant-loop-line l = record {
  stored : All (IsStored (vec_len l.kept)) l.lines.items;
  behind : Behind l.fn.bytes (entries_of l.kept.items l.lines.items) l.rest;
  number : l.number ≡ length (entries_of l.kept.items l.lines.items) + 2;
  few : l.number + length l.rest ≤ 2 + length l.fn.bytes;
}

abbrev pub decreases-loop-line : goal.decreases-loop-line
decreases-loop-line l = length l.rest
