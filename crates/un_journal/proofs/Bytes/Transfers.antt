-- What the wire gives of transfers that are made of accepted frames.
use Rattle.std.proofs.Common.{◌≡◌, ℕ, ◌+◌, ◌≤◌, true, List, [], ◌∷◌, ◌++◌, map, length, refl, sym, ap, ◌∙◌, subst, slice_get, unwrap_or}
use Rattle.std.specs.List.{sum_by}
use Rattle.un_frame.proofs.AllLaws.{laws_of}
use Rattle.un_frame.proofs.WireLemmas.{fit_last}
use Rattle.un_frame.specs.declared.params.Params.{Params}
use Rattle.un_frame.specs.declared.params.Class.{Class}
use Rattle.un_frame.specs.declared.params.Lane.{Lane}
use Rattle.un_frame.specs.Bytes.{slice_at}
use Rattle.un_frame.specs.Lanes.{packs, sizes_fit_as, frames_fit}
use Rattle.un_frame.specs.Parts.{places_as, datagram_of}
use Rattle.un_frame.specs.Wire.{form, fits_as, FitInTurn}
use Rattle.un_journal.specs.Script.{Frame}

-- frames fit one transfer, one after the other
abbrev pub FramesFit : Params → List Frame → Type 0
FramesFit params frames = FitInTurn params.class params [] (map length frames)

-- each has at least 14 bytes, and at most a segment
abbrev pub AreFrames : Params → List Frame → Type 0
AreFrames params [] = Unit {0}
AreFrames params (frame ∷ rest) = (14 ≤ length frame) × (length frame ≤ params.segment) × AreFrames params rest

pub record WireHolds (params : Params) : Type 0 where
  -- an accepted frame fits an empty transfer
  pub one_fits : (frame : Frame) → 14 ≤ length frame → length frame ≤ params.segment → FramesFit params (frame ∷ [])
  -- a transfer is read as the frames that it was made of
  pub is_read : (serial : ℕ) (frames : List Frame) → 1 ≤ length frames → AreFrames params frames → FramesFit params frames
      → map (slice_at (form params serial frames)) (places_as params.class (form params serial frames)) ≡ frames
  -- it is no longer than its frames with 192 bytes for each
  pub is_short : (serial : ℕ) (frames : List Frame) → 1 ≤ length frames → AreFrames params frames
      → length (form params serial frames) ≤ sum_by (λ frame. length frame + 192) frames

pub lengths_append : (xs ys : List Frame) → map length (xs ++ ys) ≡ map length xs ++ map length ys
lengths_append [] ys = refl
lengths_append (x ∷ xs) ys = ap (λ i. length x ∷ i) (lengths_append xs ys)

-- where a lane packs, one frame more that fits by itself, and together with the others, fits behind them
pub fit_more : (params : Params) (lane : Lane) (frames : List Frame) (x : Frame) → packs params.class lane ≡ true → FramesFit params (x ∷ []) → FramesFit params frames → frames_fit params (frames ++ x ∷ []) ≡ true → FramesFit params (frames ++ x ∷ [])
fit_more params lane frames x b alone f e =
    let together : sizes_fit_as params.class params (map length frames ++ length x ∷ []) ≡ fits_as params.class params (map length frames) (length x) = (laws_of params.class).together lane params (map length frames) (length x) b alone.0 in
    subst (FitInTurn params.class params []) (sym (lengths_append frames (x ∷ [])))
    (fit_last params.class params [] (map length frames) (length x) f
    (sym together ∙ subst (λ i. sizes_fit_as params.class params i ≡ true) (lengths_append frames (x ∷ [])) e))

-- a part of a transfer that is read as these frames
pub part_is : (class : Class) (bytes : List ℕ) (frames : List Frame) (i : ℕ) → map (slice_at bytes) (places_as class bytes) ≡ frames → datagram_of class bytes i ≡ unwrap_or (slice_get frames i) []
unfolding datagram_of
part_is class bytes frames i e = ap (λ fs. unwrap_or (slice_get fs i) []) e
