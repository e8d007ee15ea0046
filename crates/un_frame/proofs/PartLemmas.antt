-- The parts of a transfer are where the grammar's frames stand, also of one that is still open.
use Rattle.std.proofs.Common.{◌≡◌, ℕ, List, length, map, sym, ap, ◌∙◌}
use Rattle.un_frame.specs.declared.params.Class.{Class}
use Rattle.un_frame.specs.declared.params.Params.{Params}
use Rattle.un_frame.specs.Bytes.{slice_at}
use Rattle.un_frame.specs.Laws.{PartsAreTheFrames, OpenFramesAreFound}
use Rattle.un_frame.specs.OpenFrames.{open_places_as, open_frames}
use Rattle.un_frame.specs.Wire.{open_as}
use Rattle.un_frame.proofs.AllLaws.{laws_of}

pub parts_are_frames : (class : Class) → PartsAreTheFrames class
parts_are_frames class = (laws_of class).parts

-- an open transfer's frames stand at its places
pub open_slices : (class : Class) (p : Params) (frames : List (List ℕ)) → map (slice_at (open_as class p frames)) (open_places_as class p (map length frames)) ≡ frames
open_slices class p frames = (laws_of class).found p frames

pub open_frames_found : OpenFramesAreFound
unfolding open_frames
open_frames_found p sizes bytes frames o =
    ap (λ (xs : List ℕ). map (slice_at xs) (open_places_as p.class p sizes)) o.so_far ∙ ap (λ (ns : List ℕ). map (slice_at (open_as p.class p frames)) (open_places_as p.class p ns)) (sym o.lengths) ∙ open_slices p.class p frames
