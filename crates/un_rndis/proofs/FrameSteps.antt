-- The frames of the messages from a place on, past one message.
use Rattle.std.proofs.Common.{◌≡◌, ℕ, ◌+◌, true, false, List, [], ◌∷◌, map, sym, ap, ◌∙◌}
use Rattle.un_frame.specs.Bytes.{Place, slice_at}
use Rattle.un_frame.specs.Rndis.{is_past, message_frame, message_length}
use Rattle.un_rndis.specs.Frames.{IsOn, frames_from}
use Rattle.un_rndis.proofs.Steps.{places_end, places_on}

pub frames_end : (bytes : List ℕ) (at : ℕ) → is_past bytes at ≡ true → frames_from bytes at ≡ []
frames_end bytes at end = ap (λ (places : List Place). map (slice_at bytes) places) (places_end bytes at end)

pub frames_on : (bytes : List ℕ) (at next : ℕ) → is_past bytes at ≡ false → IsOn bytes at → next ≡ at + message_length bytes at
    → (frame : List ℕ) → frame ≡ slice_at bytes (message_frame bytes at) → frames_from bytes at ≡ frame ∷ frames_from bytes next
frames_on bytes at next on sound same frame here =
    ap (λ (places : List Place). map (slice_at bytes) places) (places_on bytes at next on sound same)
    ∙ ap (λ (first : List ℕ). first ∷ frames_from bytes next) (sym here)
