use Rattle.std.proofs.Common.{◌-◌}
use Rattle.un_wire.specs.Codings.{coding_of}
use Rattle.un_receive.proofs.OpenLemmas.{opened}
use Rattle.un_receive.proofs.receiver.open.Goals as goal

pub first_part-cursor-requires : goal.first_part-cursor-requires
first_part-cursor-requires c = rw c.bytes.ensures.bytes ((c.args.request.to - c.args.request.from), c.requires.reads)

pub returns-clause-reading : goal.returns-clause-reading
returns-clause-reading c =
    rw c.from-next.ensures (opened (coding_of c.args.codec.now).params c.args.request c.first_part-cursor.result c.requires
    (rw c.bytes.ensures.bytes at c.first_part-cursor.ensures.at) (rw c.bytes.ensures.bytes at c.first_part-cursor.ensures.first))
