use Rattle.std.proofs.Common.{◌++◌, ◌∷◌, []}
use Rattle.un_wire.specs.Codings.{coding_of}
use Rattle.un_wire.proofs.OpenSteps.{begun, grown}
use Rattle.un_byte_tests.proofs.wire_tests.write_both.Goals as goal

pub close-requires-2-clause-left : goal.close-requires-2-clause-left
close-requires-2-clause-left c =
    let frame = c.args.frame.now in
    let o = begun (coding_of c.args.codec.now) (coding_of c.start.new.self) c.args.request.now c.start.new.request c.start.ensures.coding c.start.ensures.request in
    let one = grown (coding_of c.start.new.self) (coding_of c.append.new.self) c.start.new.request c.append.new.request [] frame o c.append.ensures.coding (c.append.ensures.request [] o) in
    let frames = [] ++ frame ∷ [] in (
      frames ++ frame ∷ [],
      grown (coding_of c.append.new.self) (coding_of c.append-2.new.self) c.append.new.request c.append-2.new.request frames frame one c.append-2.ensures.coding (c.append-2.ensures.request frames one),
    )
