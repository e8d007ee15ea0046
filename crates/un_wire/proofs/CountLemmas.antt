-- How many frames a transfer has at most.
use Rattle.std.proofs.Common.{ℕ, ◌<◌, List, length, ap, arith}
use Rattle.std.proofs.lemmas.List.{length-map}
use Rattle.un_frame.specs.declared.params.Class.{Class}
use Rattle.un_frame.specs.Bytes.{AreBytes, slice_at}
use Rattle.un_frame.specs.Parts.{places_as}
use Rattle.un_frame.specs.Wire.{Reads}
use Rattle.un_frame.proofs.AllLaws.{laws_of}
use Rattle.un_wire.specs.Cursors.{parts_of}
use Rattle.un_wire.specs.Laws.{FramesAreFew}
use Rattle.un_wire.proofs.CursorLemmas.{parts_read}

pub frames_are_few : FramesAreFew
unfolding parts_of
frames_are_few class bytes frames commands small r =
    let places = (laws_of class).few bytes small in
    let same = ap (λ (fs : List (List ℕ)). length fs) (parts_read class bytes frames commands r) in
    let many = length-map (places_as class bytes) (slice_at bytes) in
    omega (arith, places, same, many)

-- so a number of 64 bits counts them
pub frames_count : (class : Class) (bytes : List ℕ) (frames : List (List ℕ)) (commands : ℕ) → AreBytes bytes → length bytes < 18446744073709551616 → Reads class bytes frames commands → length frames < 18446744073709551616
frames_count class bytes frames commands small size r =
    let few = frames_are_few class bytes frames commands small r in
    let below = (laws_of class).countable (length bytes) size in
    omega (arith, few, below)
