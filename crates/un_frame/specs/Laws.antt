-- The laws of the wire formats that the layers above rest on. Each is the contract of a public call in src/laws.rt.
use Rattle.std.specs.Prelude.{◌≡◌, ℕ, ◌+◌, ◌≤◌, ◌↔◌, List, [], ◌∷◌, ◌++◌, length, map, None}
use Rattle.std.specs.Bool.{IsTrue}
use Rattle.std.specs.List.{AllByRecursion, sum_by}
use Rattle.un_frame.specs.declared.params.Params.{Params}
use Rattle.un_frame.specs.declared.params.Class.{Class}
use Rattle.un_frame.specs.declared.params.Lane.{Lane}
use Rattle.un_frame.specs.declared.kinds.Verdict.TheVariants.{Take}
use Rattle.un_frame.specs.Bytes.{Place, AreBytes, LEAST_FRAME}
use Rattle.un_frame.specs.OpenFrames.{open_frames}
use Rattle.un_frame.specs.Params.{AreInRange, Agree}
use Rattle.un_frame.specs.Parts.{places_as}
use Rattle.un_frame.specs.Verdict.{verdict_of}
use Rattle.un_frame.specs.Wire.{ReadsAt, Reads, fault_of, form, capacity_of, frame_fits, FitInTurn, open_form, IsOpen}

-- a transfer has a fault exactly where the grammar doesn't read it
abbrev pub FaultIsExact : Class → Type 0
FaultIsExact class = (bytes : List ℕ) → AreBytes bytes → (fault_of class bytes ≡ None) ↔ ((places : List Place) × (commands : ℕ) × ReadsAt class bytes places commands)

-- a transfer is read in one way
abbrev pub ReadingIsOne : Class → Type 0
ReadingIsOne class = (bytes : List ℕ) (ps qs : List Place) (m n : ℕ) → ReadsAt class bytes ps m → ReadsAt class bytes qs n → (ps ≡ qs) × (m ≡ n)

-- what a writer makes is read as the frames that it was made of, and isn't longer than the capacity
abbrev pub FormIsRead : Type 0
FormIsRead = (p : Params) (serial : ℕ) (frames : List (List ℕ)) → AreInRange p → Agree p → 1 ≤ length frames →
    AllByRecursion (λ frame. LEAST_FRAME ≤ length frame) frames → FitInTurn p.class p [] (map length frames) →
    Reads p.class (form p serial frames) frames 0 × (length (form p serial frames) ≤ capacity_of p)

-- the parts of a transfer are where the grammar's frames stand
abbrev pub PartsAreTheFrames : Class → Type 0
PartsAreTheFrames class = (bytes : List ℕ) (places : List Place) (commands : ℕ) → ReadsAt class bytes places commands → places_as class bytes ≡ places

-- an open transfer's frames are found by their sizes alone
abbrev pub OpenFramesAreFound : Type 0
OpenFramesAreFound = (p : Params) (sizes bytes : List ℕ) (frames : List (List ℕ)) → IsOpen p sizes bytes frames → open_frames p sizes bytes ≡ frames

-- a transfer opens without a frame
abbrev pub OpenBegins : Type 0
OpenBegins = (p : Params) → IsOpen p [] (open_form p []) []

-- and grows by one frame at its end
abbrev pub OpenGrows : Type 0
OpenGrows = (p : Params) (sizes bytes : List ℕ) (frames : List (List ℕ)) (frame : List ℕ) → IsOpen p sizes bytes frames →
    IsOpen p (sizes ++ length frame ∷ []) (open_form p (frames ++ frame ∷ [])) (frames ++ frame ∷ [])

-- a frame of at most a segment fits a transfer without a frame, where the two ends agree
abbrev pub SegmentFits : Type 0
SegmentFits = (p : Params) (size : ℕ) → AreInRange p → Agree p → size ≤ p.segment → IsTrue (frame_fits p [] size)

-- a transfer has at most 192 bytes more for each of its frames
abbrev pub FormIsShort : Type 0
FormIsShort = (p : Params) (serial : ℕ) (frames : List (List ℕ)) → AreInRange p → 1 ≤ length frames →
    length (form p serial frames) ≤ sum_by (λ frame. length frame + 192) frames

-- a frame that is taken has 14 bytes at least, and a segment at most
abbrev pub TakenHasLength : Type 0
TakenHasLength = (p : Params) (lane : Lane) (frame : List ℕ) → verdict_of p lane frame ≡ Take → (LEAST_FRAME ≤ length frame) × (length frame ≤ p.segment)
