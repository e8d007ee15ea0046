use Rattle.std.proofs.Common.{List, ℕ, ◌+◌, drop, refl, sym, ap, ◌∙◌, arith}
use Rattle.un_frame.specs.Bytes.{Place, slice_at}
use Rattle.un_frame.specs.Rndis.{message_frame}
use Rattle.un_rndis.proofs.FrameSteps.{frames_end, frames_on}
use Rattle.un_rndis.proofs.Steps.{first_checked, next_on, places_end, places_on}
use Rattle.un_rndis.proofs.walk.next.Goals as goal

pub returns-then-is_past-clause-one : goal.returns-then-is_past-clause-one
returns-then-is_past-clause-one c =
    let none = frames_end c.args.bytes.now c.args.at (sym c.is_past.ensures ∙ c.if-is_past.true) in
    none ∙ sym (ap (λ (frames : List (List ℕ)). drop 1 frames) none)

pub number-requires : goal.number-requires
number-requires c =
    let header = (first_checked c.args.bytes.now c.args.at (sym c.is_past.ensures ∙ c.if-is_past.false) c.requires).header in
    omega (arith, header)

pub returns-clause-on : goal.returns-clause-on
returns-clause-on c = next_on c.args.bytes.now c.args.at (c.args.at + c.number.result) (sym c.is_past.ensures ∙ c.if-is_past.false) c.requires (ap (λ (n : ℕ). c.args.at + n) c.number.ensures.value)

pub returns-clause-one : goal.returns-clause-one
returns-clause-one c =
    let bytes = c.args.bytes.now in
    let step = frames_on bytes c.args.at (c.args.at + c.number.result) (sym c.is_past.ensures ∙ c.if-is_past.false) c.requires (ap (λ (n : ℕ). c.args.at + n) c.number.ensures.value) (slice_at bytes (message_frame bytes c.args.at)) refl in
    sym (ap (λ (frames : List (List ℕ)). drop 1 frames) step)

pub returns-then-is_past-clause-places : goal.returns-then-is_past-clause-places
returns-then-is_past-clause-places c =
    let none = places_end c.args.bytes.now c.args.at (sym c.is_past.ensures ∙ c.if-is_past.true) in
    none ∙ sym (ap (λ (places : List Place). drop 1 places) none)

pub returns-clause-places : goal.returns-clause-places
returns-clause-places c =
    let step = places_on c.args.bytes.now c.args.at (c.args.at + c.number.result) (sym c.is_past.ensures ∙ c.if-is_past.false) c.requires (ap (λ (n : ℕ). c.args.at + n) c.number.ensures.value) in
    sym (ap (λ (places : List Place). drop 1 places) step)
