use Rattle.std.proofs.Common.{arith}
use Rattle.un_rndis.proofs.Steps.{first_checked}
use Rattle.un_rndis.proofs.walk.span_of.Goals as goal

pub number-requires : goal.number-requires
number-requires c =
    let header = (first_checked c.args.bytes.now c.args.at c.requires.more c.requires.on).header in
    omega (arith, header)

pub number-requires-2 : goal.number-requires-2
number-requires-2 c =
    let header = (first_checked c.args.bytes.now c.args.at c.requires.more c.requires.on).header in
    omega (arith, header)

pub returns-clause-inside : goal.returns-clause-inside
returns-clause-inside c =
    let first = first_checked c.args.bytes.now c.args.at c.requires.more c.requires.on in
    let inside = first.inside in
    let whole = first.whole in
    let offset = c.number.ensures.value in
    let size = c.number-2.ensures.value in
    omega (arith, inside, whole, offset, size)
