-- What the ranges of the parameters give.
use Rattle.std.proofs.Common.{◌<◌, ◌≤◌, List, [], ◌∷◌, map, length, ap, sym, ◌∙◌, arith}
use Rattle.std.specs.List.{AllByRecursion}
use Rattle.un_frame.specs.Lanes.{tx_size, rx_size}
use Rattle.un_frame.specs.Bytes.{slice_at, LEAST_FRAME}
use Rattle.un_frame.specs.Wire.{form}
use Rattle.un_frame.proofs.PartLemmas.{parts_are_frames}
use Rattle.un_frame.proofs.FrameLemmas.{segment_fits, form_is_short}
use Rattle.un_frame.proofs.WireLemmas.{form_is_read}
use Rattle.un_journal.specs.Script.{Frame}
use Rattle.un_frame.specs.declared.params.Params.{Params}
use Rattle.un_frame.specs.declared.params.Lane.{Lane}
use Rattle.un_frame.specs.declared.params.Lane.TheVariants.{Outward, Inward}
use Rattle.un_frame.specs.Params.{AreInRange, Agree}
use Rattle.un_journal.proofs.Bytes.Transfers.{AreFrames, WireHolds}

-- every pool has a request
abbrev pub HavePools : Params → Type 0
HavePools params = (lane : Lane) → (0 < tx_size params lane) × (0 < rx_size params lane)

pub have_pools : (params : Params) → AreInRange params → HavePools params
have_pools params r Outward = (let t : 1 ≤ params.tx_out = r.tx_out.0 in omega arith, let t : 1 ≤ params.rx_out = r.rx_out.0 in omega arith)
have_pools params r Inward = (let t : 1 ≤ params.tx_in = r.tx_in.0 in omega arith, let t : 1 ≤ params.rx_in = r.rx_in.0 in omega arith)

-- the laws of the wire formats, for one class
least_lengths : (params : Params) (frames : List Frame) → AreFrames params frames → AllByRecursion (λ frame. LEAST_FRAME ≤ length frame) frames
least_lengths params [] w = tt
least_lengths params (frame ∷ rest) w = (w.0, least_lengths params rest w.2)

pub wire_holds : (params : Params) → AreInRange params → Agree params → WireHolds params
wire_holds params r a = record {
  one_fits = λ frame low high. (segment_fits params (length frame) r a high, tt);
  is_read = λ serial frames some good fit.
      let read = form_is_read params serial frames r a some (least_lengths params frames good) fit in
      ap (map (slice_at (form params serial frames))) (parts_are_frames params.class (form params serial frames) read.0.places 0 read.0.found) ∙ sym read.0.sliced;
  is_short = λ serial frames some good. form_is_short params serial frames r some;
}
