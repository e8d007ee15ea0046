use Rattle.std.proofs.Common.{◌≡◌, ◌+◌, length}
use Rattle.un_wire.specs.Places.{IsSoundAt, places_at}
use Rattle.un_wire.specs.Spans.{filled}
use Rattle.un_wire.proofs.SpanLemmas.{filled_from}
use Rattle.un_wire.proofs.spans.fill.Given as goal

abbrev pub invariant-loop-span : goal.invariant-loop-span
invariant-loop-span l = record {
  sound : IsSoundAt l.bytes l.cursor.place;
  counted : l.count + length (places_at l.bytes l.cursor.place) ≡ length (places_at l.bytes l.fn.cursor.place);
  filled : filled_from l.count (places_at l.bytes l.cursor.place) l.spans ≡ filled (places_at l.bytes l.fn.cursor.place) l.fn.spans;
}

abbrev pub decreases-loop-span : goal.decreases-loop-span
decreases-loop-span l = length (places_at l.bytes l.cursor.place)
