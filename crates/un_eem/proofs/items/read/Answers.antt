use Rattle.std.proofs.Common.{arith}
use Rattle.un_eem.proofs.Reading.{sound_start, transfer_read, transfer_reads}
use Rattle.un_eem.proofs.items.read.Goals as goal

pub invariant_of-result : goal.invariant_of-result
invariant_of-result c = sound_start c.args.bytes.now c.in_ok-check.ensures.fault

pub returns-clause-found : goal.returns-clause-found
returns-clause-found c =
    let sound = sound_start c.args.bytes.now c.in_ok-check.ensures.fault in
    transfer_reads c.args.bytes.now _ (transfer_read c.args.bytes.now (λ i. omega (arith, c.type_inv.bytes i)) sound.none)

pub returns-clause-packets : goal.returns-clause-packets
returns-clause-packets c =
    let sound = sound_start c.args.bytes.now c.in_ok-check.ensures.fault in
    transfer_read c.args.bytes.now (λ i. omega (arith, c.type_inv.bytes i)) sound.none
