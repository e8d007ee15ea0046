use Rattle.std.proofs.Common.{◌∙◌, sym, ap, ◌+◌, ◌-◌, ℕ, length, take, drop, arith, refl, length-take, length-drop}
use Rattle.un_frame.specs.Bytes.{number_at}
use Rattle.un_frame.specs.Eem.{Command}
use Rattle.un_eem.proofs.Lending.{two_left, packet_left, sound_next, least_data, size_of_data, shows_empty, shows_data, shows_command, size_of_command}
use Rattle.un_eem.proofs.items.item_at.Goals as goal

pub header_at-header-requires : goal.header_at-header-requires
header_at-header-requires c = two_left c.args.bytes.now c.args.at (number_at 2 c.args.bytes.now c.args.at) c.requires.within c.requires.sound refl

pub slice_bounds-rest-count : goal.slice_bounds-rest-count
slice_bounds-rest-count c = two_left c.args.bytes.now c.args.at c.header_at-header.result c.requires.within c.requires.sound c.header_at-header.ensures

pub slice_bounds-rest-start : goal.slice_bounds-rest-start
slice_bounds-rest-start c = two_left c.args.bytes.now c.args.at c.header_at-header.result c.requires.within c.requires.sound c.header_at-header.ensures

pub returns-then-header-eq0-clause-item : goal.returns-then-header-eq0-clause-item
returns-then-header-eq0-clause-item c = shows_empty c.args.bytes.now c.args.at c.header_at-header.result c.requires.within c.requires.sound c.header_at-header.ensures c.if-header-eq0.true

pub returns-then-header-eq0-clause-sound : goal.returns-then-header-eq0-clause-sound
returns-then-header-eq0-clause-sound c = sound_next c.args.bytes.now c.args.at c.header_at-header.result c.requires.within c.requires.sound c.header_at-header.ensures c.packet_size.result c.packet_size.ensures.size

pub slice_bounds-result-count : goal.slice_bounds-result-count
slice_bounds-result-count c =
    let least = least_data c.args.bytes.now c.args.at c.header_at-header.result c.requires.within c.requires.sound c.header_at-header.ensures (sym c.is_data.ensures ∙ c.if-is_data.true) in
    omega (arith, least)

pub slice_bounds-result-length : goal.slice_bounds-result-length
slice_bounds-result-length c =
    let size = size_of_data c.args.bytes.now c.args.at c.header_at-header.result c.requires.within c.requires.sound c.header_at-header.ensures (sym c.is_data.ensures ∙ c.if-is_data.true) in
    let left = packet_left c.args.bytes.now c.args.at c.header_at-header.result c.requires.within c.requires.sound c.header_at-header.ensures in
    simp (length-take, length-drop) (omega (arith, size, left))

pub returns-then-is_data-clause-item : goal.returns-then-is_data-clause-item
returns-then-is_data-clause-item c = shows_data c.args.bytes.now c.args.at c.header_at-header.result c.requires.within c.requires.sound c.header_at-header.ensures (sym c.is_data.ensures ∙ c.if-is_data.true)

pub returns-then-is_data-clause-sound : goal.returns-then-is_data-clause-sound
returns-then-is_data-clause-sound c = sound_next c.args.bytes.now c.args.at c.header_at-header.result c.requires.within c.requires.sound c.header_at-header.ensures c.packet_size.result c.packet_size.ensures.size

pub slice_bounds-echo-end : goal.slice_bounds-echo-end
slice_bounds-echo-end c =
    let size = size_of_command c.args.bytes.now c.args.at c.header_at-header.result c.requires.within c.requires.sound c.header_at-header.ensures (sym c.is_data.ensures ∙ c.if-is_data.false) c.if-header-eq0.false in
    let left = packet_left c.args.bytes.now c.args.at c.header_at-header.result c.requires.within c.requires.sound c.header_at-header.ensures in
    let echo = c.echo_length.ensures.length in
    simp (length-take, length-drop) (omega (arith, size, left, echo))

pub returns-clause-item : goal.returns-clause-item
returns-clause-item c =
    let shown = shows_command c.args.bytes.now c.args.at c.header_at-header.result c.requires.within c.requires.sound c.header_at-header.ensures (sym c.is_data.ensures ∙ c.if-is_data.false) c.if-header-eq0.false in
    let rest = take (length c.args.bytes.now - (c.args.at + 2)) (drop (c.args.at + 2) c.args.bytes.now) in
    (c.header_at-header.result, shown ∙ ap (λ (n : ℕ). Command c.header_at-header.result (take n rest)) (sym c.echo_length.ensures.length), c.command_code.ensures, c.command_parameter.ensures)

pub returns-clause-sound : goal.returns-clause-sound
returns-clause-sound c = sound_next c.args.bytes.now c.args.at c.header_at-header.result c.requires.within c.requires.sound c.header_at-header.ensures c.packet_size.result c.packet_size.ensures.size
