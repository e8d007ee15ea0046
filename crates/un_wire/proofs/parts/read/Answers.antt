use Rattle.std.proofs.Common.{arith}
use Rattle.un_wire.specs.Places.{commands_in, parts_at}
use Rattle.un_wire.proofs.CountLemmas.{frames_count}
use Rattle.un_wire.proofs.parts.read.Goals as goal

pub invariant_of-result : goal.invariant_of-result
invariant_of-result c =
    let class = c.args.class in
    let bytes = c.args.bytes.now in
    record {
      sound = c.in_ok-cursor.ensures.first.sound;
      few = frames_count class bytes (parts_at bytes c.in_ok-cursor.cursor.place) (commands_in class bytes) (λ i. omega (arith, c.type_inv.bytes i)) (omega arith) c.in_ok-cursor.ensures.first.found;
    }
