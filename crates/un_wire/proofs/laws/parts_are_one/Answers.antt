use Rattle.un_wire.proofs.CursorLemmas.{readings_are_one, parts_are_frames, counts_are_parts}
use Rattle.un_wire.proofs.laws.parts_are_one.Goals as goal

pub returns : goal.returns
returns c = record { one = readings_are_one; frames = parts_are_frames; counts = counts_are_parts }
