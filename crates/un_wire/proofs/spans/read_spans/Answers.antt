use Rattle.std.proofs.Common.{◌<◌, List, length, sym, subst, arith}
use Rattle.un_frame.specs.Bytes.{Place}
use Rattle.un_frame.specs.Wire.{ReadsAt}
use Rattle.un_wire.specs.Places.{commands_in}
use Rattle.un_wire.proofs.SpanLemmas.{places_few, reads_there}
use Rattle.un_wire.proofs.spans.read_spans.Goals as goal

pub fill-frames-requires-clause-few : goal.fill-frames-requires-clause-few
fill-frames-requires-clause-few c =
    let few = places_few c.args.class c.args.bytes.now (λ i. omega (arith, c.type_inv.bytes i)) (omega arith) in
    subst (λ (places : List Place). length places < 18446744073709551616) (sym c.in_ok-cursor.ensures.first.placed) few

pub returns-clause-found : goal.returns-clause-found
returns-clause-found c =
    let first = c.in_ok-cursor.ensures.first in
    subst (ReadsAt c.args.class c.args.bytes.now _) (sym c.commands.ensures) (reads_there c.args.class c.args.bytes.now _ (commands_in c.args.class c.args.bytes.now) first.found)
