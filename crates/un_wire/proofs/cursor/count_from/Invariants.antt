use Rattle.std.proofs.Common.{◌≡◌, ◌+◌, length}
use Rattle.un_wire.specs.Places.{IsSoundAt, parts_at}
use Rattle.un_wire.proofs.cursor.count_from.Given as goal

abbrev pub invariant-loop-cursor : goal.invariant-loop-cursor
invariant-loop-cursor l = record {
  sound : IsSoundAt l.bytes l.cursor.place;
  counted : l.count + length (parts_at l.bytes l.cursor.place) ≡ length (parts_at l.bytes l.fn.cursor.place);
}

abbrev pub decreases-loop-cursor : goal.decreases-loop-cursor
decreases-loop-cursor l = length (parts_at l.bytes l.cursor.place)
