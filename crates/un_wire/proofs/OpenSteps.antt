-- An open transfer, call by call.
use Rattle.std.proofs.Common.{◌≡◌, ◌++◌, ◌∷◌, true, [], List, ℕ, length, sym, ap, ◌∙◌}
use Rattle.un_frame.specs.declared.params.Params.{Params}
use Rattle.un_frame.specs.Wire.{Coding, IsOpen, open_form}
use Rattle.un_frame.proofs.FrameLemmas.{open_grows}
use Rattle.un_req.specs.Request.{Buffer}

-- a transfer that was opened
pub begun : (old new : Coding) (before after : Buffer) → new ≡ record old { sizes = []; is_open = true } → after ≡ record before { bytes = open_form old.params [] } → IsOpen new.params new.sizes after.bytes []
begun old new before after k r = record {
  lengths = sym (ap (λ (c : Coding). c.sizes) k);
  so_far = ap (λ (b : Buffer). b.bytes) r ∙ ap (λ (p : Params). open_form p []) (sym (ap (λ (c : Coding). c.params) k));
}

-- and one that grew
pub grown : (old new : Coding) (before after : Buffer) (frames : List (List ℕ)) (frame : List ℕ) → IsOpen old.params old.sizes before.bytes frames → new ≡ record old { sizes = old.sizes ++ length frame ∷ [] }
    → after ≡ record before { bytes = open_form old.params (frames ++ frame ∷ []) } → IsOpen new.params new.sizes after.bytes (frames ++ frame ∷ [])
grown old new before after frames frame o k r =
    let more = open_grows old.params old.sizes before.bytes frames frame o in
    record {
      lengths = more.lengths ∙ sym (ap (λ (c : Coding). c.sizes) k);
      so_far = ap (λ (b : Buffer). b.bytes) r ∙ ap (λ (p : Params). open_form p (frames ++ frame ∷ [])) (sym (ap (λ (c : Coding). c.params) k));
    }
