use Rattle.std.proofs.Common.{◌+◌, ◌∷◌, refl, sym, ap, ◌∙◌}
use Rattle.un_frame.specs.Bytes.{Place}
use Rattle.un_frame.specs.Rndis.{message_length}
use Rattle.un_rndis.specs.Walk.{places_from}
use Rattle.un_rndis.proofs.Steps.{places_end, places_on}
use Rattle.un_rndis.proofs.walk.span_at.Goals as goal

pub returns-then-is_past-clause-end : goal.returns-then-is_past-clause-end
returns-then-is_past-clause-end c = places_end c.args.bytes.now c.args.at (sym c.is_past.ensures ∙ c.if-is_past.true)

pub returns-clause-span : goal.returns-clause-span
returns-clause-span c =
    let bytes = c.args.bytes.now in
    let next = c.args.at + message_length bytes c.args.at in
    (places_from bytes next, places_on bytes c.args.at next (sym c.is_past.ensures ∙ c.if-is_past.false) c.requires refl ∙ ap (λ (place : Place). place ∷ places_from bytes next) (sym c.span_of.ensures.place))
