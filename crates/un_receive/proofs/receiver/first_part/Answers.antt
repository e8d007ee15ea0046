use Rattle.std.proofs.Common.{◌≡◌, None, Some, arith}
use Rattle.un_frame.specs.Wire.{fault_of}
use Rattle.un_wire.specs.Codings.{coding_of}
use Rattle.un_receive.proofs.OpenLemmas.{no_fault}
use Rattle.un_receive.proofs.receiver.first_part.Goals as goal

pub unreachable-requires : goal.unreachable-requires
unreachable-requires c =
    let class = (coding_of c.args.codec.now).params.class in
    let bytes = c.args.bytes.now in
    let none : fault_of class bytes ≡ None = no_fault class bytes c.requires.0 (λ i. omega (arith, c.type_inv.bytes i)) c.requires.1 in
    let fault : Some c.in-Err.field-0 ≡ fault_of class bytes = c.in-Err.ensures.fault in
    cc
