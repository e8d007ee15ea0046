use Rattle.std.proofs.Common.{◌≡◌, ◌+◌, ◌≤◌, length, take}
use Rattle.std.specs.List.{sum_by}
use Rattle.un_journal.specs.Script.{frames_of}
use Rattle.un_journal.specs.Bytes.{frame_room}
use Rattle.un_link.proofs.room.feed_bytes.Given as goal

abbrev pub invariant-loop-index : goal.invariant-loop-index
invariant-loop-index l = record {
  bytes : l.bytes ≡ l.before + sum_by frame_room (take l.index (frames_of l.script l.lane l.sender));
  within : l.index ≤ length (frames_of l.script l.lane l.sender);
}
