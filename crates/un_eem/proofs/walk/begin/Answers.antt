use Rattle.std.proofs.Common.{List, ℕ, arith, subst, sym, ◌∙◌}
use Rattle.un_frame.specs.Wire.{Reads}
use Rattle.un_frame.specs.declared.params.Class.TheVariants.{Eem}
use Rattle.un_eem.specs.Frames.{commands_of}
use Rattle.un_eem.proofs.Reading.{sound_start, transfer_read, transfer_reads}
use Rattle.un_eem.proofs.PlaceSteps.{places_start}
use Rattle.un_eem.proofs.walk.begin.Goals as goal

pub skip_commands-requires : goal.skip_commands-requires
skip_commands-requires c = sound_start c.args.bytes.now c.in_ok-check.ensures.fault

pub returns-clause-found : goal.returns-clause-found
returns-clause-found c =
    let bytes = c.args.bytes.now in
    let sound = sound_start bytes c.in_ok-check.ensures.fault in
    subst (λ (frames : List (List ℕ)). Reads Eem bytes frames (commands_of bytes)) (sym c.skip_commands.ensures.same) (transfer_reads bytes _ (transfer_read bytes (λ i. omega (arith, c.type_inv.bytes i)) sound.none))

pub returns-clause-places : goal.returns-clause-places
returns-clause-places c = c.skip_commands.ensures.places ∙ places_start c.args.bytes.now
