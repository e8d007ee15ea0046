-- What the rules of a class are due: the laws on which all that is above the wire rests, whatever the class. EcmLaws, EemLaws,
-- NtbLaws and RndisLaws have them of each class, and AllLaws of all.
use Rattle.std.specs.Prelude.{◌≡◌, ℕ, ◌+◌, ◌<◌, ◌≤◌, ◌^◌, ◌↔◌, true, List, [], ◌∷◌, ◌++◌, length, map, None}
use Rattle.std.specs.Bool.{IsTrue}
use Rattle.std.specs.List.{AllByRecursion, sum_by}
use Rattle.un_frame.specs.declared.params.Params.{Params}
use Rattle.un_frame.specs.declared.params.Lane.{Lane}
use Rattle.un_frame.specs.Bytes.{Place, AreBytes, slice_at}
use Rattle.un_frame.specs.Classes.{Rules}
use Rattle.un_frame.specs.Params.{AreInRange}
use Rattle.un_frame.specs.Wire.{InTurn}

-- a part stands among so many bytes, and has 14 of them at least
pub record IsPart (size : ℕ) (place : Place) : Type 0 where
  pub least : 14 ≤ place.size
  pub inside : place.at + place.size ≤ size

-- each of the parts does
abbrev pub AreParts : ℕ → List Place → Type 0
AreParts size places = AllByRecursion (IsPart size) places

-- frames have 14 bytes at least
abbrev pub AreLong : List (List ℕ) → Type 0
AreLong frames = AllByRecursion (λ frame. 14 ≤ length frame) frames

-- bytes are read as frames without a command, and are no more than so many
pub record IsReadBack (rules : Rules) (bytes : List ℕ) (frames : List (List ℕ)) (most : ℕ) : Type 0 where
  pub places : List Place
  pub found : rules.reads_at bytes places 0
  pub sliced : frames ≡ map (slice_at bytes) places
  pub within : length bytes ≤ most

pub record ClassLaws (rules : Rules) : Type 0 where
  -- READING
  -- bytes have a fault exactly where they aren't read
  pub exact : (bytes : List ℕ) → AreBytes bytes → (rules.fault bytes ≡ None) ↔ ((places : List Place) × (commands : ℕ) × rules.reads_at bytes places commands)
  -- they are read in one way
  pub one : (bytes : List ℕ) (ps qs : List Place) (m n : ℕ) → rules.reads_at bytes ps m → rules.reads_at bytes qs n → (ps ≡ qs) × (m ≡ n)
  -- the frames stand where the places say
  pub parts : (bytes : List ℕ) (places : List Place) (commands : ℕ) → rules.reads_at bytes places commands → rules.places bytes ≡ places
  -- each within the bytes, and 14 bytes long at least
  pub inside : (bytes : List ℕ) (places : List Place) (commands : ℕ) → rules.reads_at bytes places commands → AreParts (length bytes) places
  -- there are few of them
  pub few : (bytes : List ℕ) → AreBytes bytes → length (rules.places bytes) ≤ rules.most_frames (length bytes)
  -- so few that a number of 64 bits counts them
  pub countable : (size : ℕ) → size < 2 ^ 64 → rules.most_frames size < 2 ^ 64
  -- WRITING
  -- what a writer makes of frames that fit one after the other is read as these, and isn't longer than the capacity
  pub read : (p : Params) (serial : ℕ) (frames : List (List ℕ)) → p.block ≤ rules.most_block → p.segment ≤ 8192 → 1 ≤ length frames → AreLong frames →
      InTurn (rules.fits p) [] (map length frames) → IsReadBack rules (rules.form p serial frames) frames (rules.capacity p)
  -- it has at most 192 bytes more for each frame
  pub short : (p : Params) (serial : ℕ) (frames : List (List ℕ)) → AreInRange p → 1 ≤ length frames → length (rules.form p serial frames) ≤ sum_by (λ frame. length frame + 192) frames
  -- and at least one byte
  pub some : (p : Params) (serial : ℕ) (frame : List ℕ) (rest : List (List ℕ)) → 14 ≤ length frame → 0 < length (rules.form p serial (frame ∷ rest))
  -- the frames of an open transfer are found by their sizes
  pub found : (p : Params) (frames : List (List ℕ)) → map (slice_at (rules.open_form p frames)) (rules.open_places p (map length frames)) ≡ frames
  -- WHAT FITS
  -- a segment fits an empty transfer, where the ends agree
  pub segment : (p : Params) (size : ℕ) → 0 < p.alignment → rules.agree p → size ≤ p.segment → IsTrue (rules.fits p [] size)
  -- what fits an empty transfer is within the capacity
  pub within : (p : Params) (size : ℕ) → IsTrue (rules.fits p [] size) → size ≤ rules.capacity p
  -- where a lane packs, frames fit together where the last, which fits an empty transfer, fits behind the others
  pub together : (lane : Lane) (p : Params) (sizes : List ℕ) (size : ℕ) → rules.packs lane ≡ true → IsTrue (rules.fits p [] size) → rules.fits_together p (sizes ++ size ∷ []) ≡ rules.fits p sizes size
