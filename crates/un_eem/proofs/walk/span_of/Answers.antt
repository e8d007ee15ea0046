use Rattle.std.proofs.Common.{ap, ◌∙◌, arith}
use Rattle.un_frame.specs.Eem.{is_data}
use Rattle.un_eem.proofs.Lending.{packet_left, least_data, size_of_data}
use Rattle.un_eem.proofs.walk.span_of.Goals as goal

pub overflow_sub-result : goal.overflow_sub-result
overflow_sub-result c =
    let least = least_data c.args.bytes.now c.args.at c.header_of.result c.requires.within c.requires.sound c.header_of.ensures (ap is_data c.header_of.ensures ∙ c.requires.frame) in
    omega (arith, least)

pub returns-clause-size : goal.returns-clause-size
returns-clause-size c =
    let least = least_data c.args.bytes.now c.args.at c.header_of.result c.requires.within c.requires.sound c.header_of.ensures (ap is_data c.header_of.ensures ∙ c.requires.frame) in
    let same = c.header_of.ensures in
    omega (arith, least, same)

pub returns-clause-inside : goal.returns-clause-inside
returns-clause-inside c =
    let kind = ap is_data c.header_of.ensures ∙ c.requires.frame in
    let least = least_data c.args.bytes.now c.args.at c.header_of.result c.requires.within c.requires.sound c.header_of.ensures kind in
    let size = size_of_data c.args.bytes.now c.args.at c.header_of.result c.requires.within c.requires.sound c.header_of.ensures kind in
    let left = packet_left c.args.bytes.now c.args.at c.header_of.result c.requires.within c.requires.sound c.header_of.ensures in
    omega (arith, least, size, left)
