use Rattle.std.proofs.Common.{List, ℕ, drop, sym, ap, ◌∙◌}
use Rattle.un_frame.specs.Bytes.{Place}
use Rattle.un_eem.proofs.FrameSteps.{frames_end, frames_on}
use Rattle.un_eem.proofs.PlaceSteps.{places_end, places_on}
use Rattle.un_eem.proofs.walk.next.Goals as goal

pub returns-then-bytes-at-clause-one : goal.returns-then-bytes-at-clause-one
returns-then-bytes-at-clause-one c =
    let none = frames_end c.args.bytes.now c.args.at c.if-bytes-at.true in
    none ∙ sym (ap (λ (frames : List (List ℕ)). drop 1 frames) none)

pub returns-clause-one : goal.returns-clause-one
returns-clause-one c = c.skip_commands.ensures.same ∙ frames_on c.args.bytes.now c.args.at c.after.result c.if-bytes-at.false (c.requires.frame c.if-bytes-at.false) c.after.ensures.next

pub returns-then-bytes-at-clause-places : goal.returns-then-bytes-at-clause-places
returns-then-bytes-at-clause-places c =
    let none = places_end c.args.bytes.now c.args.at c.if-bytes-at.true in
    none ∙ sym (ap (λ (places : List Place). drop 1 places) none)

pub returns-clause-places : goal.returns-clause-places
returns-clause-places c = c.skip_commands.ensures.places ∙ places_on c.args.bytes.now c.args.at c.after.result c.if-bytes-at.false (c.requires.frame c.if-bytes-at.false) c.after.ensures.next
