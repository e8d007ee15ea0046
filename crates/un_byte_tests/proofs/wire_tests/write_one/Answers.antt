use Rattle.std.proofs.Common.{◌++◌, ◌∷◌, []}
use Rattle.un_wire.specs.Codings.{coding_of}
use Rattle.un_wire.proofs.OpenSteps.{begun, grown}
use Rattle.un_byte_tests.proofs.wire_tests.write_one.Goals as goal

pub append-requires-clause-left : goal.append-requires-clause-left
append-requires-clause-left c =
    ([], begun (coding_of c.args.codec.now) (coding_of c.start.new.self) c.args.request.now c.start.new.request c.start.ensures.coding c.start.ensures.request)

pub close-requires-clause-left : goal.close-requires-clause-left
close-requires-clause-left c =
    let o = begun (coding_of c.args.codec.now) (coding_of c.start.new.self) c.args.request.now c.start.new.request c.start.ensures.coding c.start.ensures.request in (
      [] ++ c.args.frame.now ∷ [],
      grown (coding_of c.start.new.self) (coding_of c.append.new.self) c.start.new.request c.append.new.request [] c.args.frame.now o c.append.ensures.coding (c.append.ensures.request [] o),
    )
