-- What a builder or a receiver may rest on, beside the clauses of the calls.
use Rattle.std.specs.Prelude.{◌≡◌, ℕ, ◌<◌, ◌≤◌, List, length, slice_get, Some}
use Rattle.un_frame.specs.declared.params.Class.{Class}
use Rattle.un_frame.specs.Bytes.{AreBytes}
use Rattle.un_frame.specs.Classes.{rules_of}
use Rattle.un_frame.specs.Parts.{ReadsAs, datagram_of}
use Rattle.un_frame.specs.Wire.{Reads}
use Rattle.un_wire.specs.Cursors.{part_count}

-- the parts of a transfer are the frames that the grammar reads: as many, and the same ones by their index
pub record PartsAre (class : Class) (bytes : List ℕ) (frames : List (List ℕ)) : Type 0 where
  pub count : part_count class bytes ≡ length frames
  pub each : (index : ℕ) → index < length frames → slice_get frames index ≡ Some (datagram_of class bytes index)

abbrev pub PartsAreFrames : Type 0
PartsAreFrames = (class : Class) (bytes : List ℕ) (frames : List (List ℕ)) (commands : ℕ) → Reads class bytes frames commands → PartsAre class bytes frames

-- a transfer that is read as so many frames has as many parts
abbrev pub CountsAreParts : Type 0
CountsAreParts = (class : Class) (bytes : List ℕ) (count : ℕ) → ReadsAs class bytes count → part_count class bytes ≡ count

-- a transfer is read as one list of frames, with one number of commands
abbrev pub ReadingsAreOne : Type 0
ReadingsAreOne = (class : Class) (bytes : List ℕ) (frames others : List (List ℕ)) (commands more : ℕ)
    → Reads class bytes frames commands → Reads class bytes others more → (frames ≡ others) × (commands ≡ more)

-- the most frames of a transfer of so many bytes
abbrev pub most_frames : Class → ℕ → ℕ
most_frames class size = (rules_of class).most_frames size

-- a transfer has no more frames than that
abbrev pub FramesAreFew : Type 0
FramesAreFew = (class : Class) (bytes : List ℕ) (frames : List (List ℕ)) (commands : ℕ) → AreBytes bytes → Reads class bytes frames commands
    → length frames ≤ most_frames class (length bytes)
