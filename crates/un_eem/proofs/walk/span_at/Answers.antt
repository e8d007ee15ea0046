use Rattle.std.proofs.Common.{◌+◌, refl}
use Rattle.un_frame.specs.Bytes.{number_at}
use Rattle.un_frame.specs.Eem.{packet_size}
use Rattle.un_eem.specs.Frames.{places_from}
use Rattle.un_eem.proofs.Lending.{span_there}
use Rattle.un_eem.proofs.PlaceSteps.{places_data, places_end}
use Rattle.un_eem.proofs.walk.span_at.Goals as goal

pub returns-then-bytes-at-clause-end : goal.returns-then-bytes-at-clause-end
returns-then-bytes-at-clause-end c = places_end c.args.bytes.now c.args.at c.if-bytes-at.true

pub returns-clause-span : goal.returns-clause-span
returns-clause-span c =
    let bytes = c.args.bytes.now in
    let next = c.args.at + packet_size (number_at 2 bytes c.args.at) in
    let kind = c.requires.frame c.if-bytes-at.false in
    let here = places_data bytes c.args.at next c.if-bytes-at.false kind refl in
    (places_from bytes next, span_there bytes c.args.at c.span_of.result (places_from bytes next) c.if-bytes-at.false c.requires.sound kind c.span_of.ensures.first c.span_of.ensures.size here)
