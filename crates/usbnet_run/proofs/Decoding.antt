-- The text of a decoded transfer, put in pieces.
use Rattle.std.proofs.Common.{◌≡◌, ℕ, ◌+◌, List, [], ◌∷◌, ◌++◌, length, Option, Some, None, refl, sym, ap, ◌∙◌, arith, append_assoc, append-nil}
use Rattle.un_frame.specs.declared.fault.Fault.{Fault}
use Rattle.un_frame.specs.declared.params.Class.{Class}
use Rattle.un_frame.specs.Bytes.{AreBytes}
use Rattle.un_frame.specs.Wire.{fault_of}
use Rattle.un_frame.proofs.WireLemmas.{fault_is_exact}
use Rattle.un_text.specs.declared.page.Page.{Page}
use Rattle.un_text.specs.Puts.{Puts}
use Rattle.un_text.proofs.Putting.{puts_none, puts_then, puts_as}
use Rattle.usbnet_run.specs.Decode.{IsOutside, frame_line, frame_lines}

-- THE FIRST FAULT

some_none : (found : Option Fault) (fault : Fault) → found ≡ Some fault → found ≡ None → ⊥
some_none found fault some none = cc

pub outside : (class : Class) (bytes : List ℕ) (fault : Fault) → AreBytes bytes → fault_of class bytes ≡ Some fault → IsOutside class bytes
outside class bytes fault small is frames commands r = some_none (fault_of class bytes) fault is ((fault_is_exact class bytes small).1 (r.places, commands, r.found))

-- THE LINES OF THE FRAMES

-- the lines of the frames before an index were put, and the rest are left
pub record Written (held : Option (List ℕ)) (faults : ℕ) (old : Page) (held' : Option (List ℕ)) (faults' : ℕ) (new : Page) (all left : List (List ℕ)) (index : ℕ) : Type 0 where
  pub done : List ℕ
  pub split : frame_lines 0 all ≡ done ++ frame_lines index left
  pub put : Puts held faults old held' faults' new done

pub none_written : (h : Option (List ℕ)) (a : ℕ) (p : Page) (all : List (List ℕ)) → Written h a p h a p all all 0
none_written h a p all = record { done = []; split = refl; put = puts_none h a p }

first_line : (index : ℕ) (left rest : List (List ℕ)) (frame : List ℕ) → left ≡ frame ∷ rest → frame_lines index left ≡ frame_line index frame ++ frame_lines (index + 1) rest
unfolding frame_lines
first_line index left rest frame here = ap (λ (fs : List (List ℕ)). frame_lines index fs) here

pub more_written : (h i j : Option (List ℕ)) (a b c : ℕ) (p q r : Page) (all left rest : List (List ℕ)) (frame : List ℕ) (index : ℕ)
    → Written h a p i b q all left index → left ≡ frame ∷ rest → Puts i b q j c r (frame_line index frame) → Written h a p j c r all rest (index + 1)
more_written h i j a b c p q r all left rest frame index w here line = record {
  done = w.done ++ frame_line index frame;
  split = w.split ∙ ap (λ (t : List ℕ). w.done ++ t) (first_line index left rest frame here) ∙ sym (append_assoc w.done (frame_line index frame) (frame_lines (index + 1) rest));
  put = puts_then h i j a b c p q r w.done (frame_line index frame) w.put line;
}

pub all_put : (h i : Option (List ℕ)) (a b : ℕ) (p q : Page) (all left : List (List ℕ)) (index : ℕ) → Written h a p i b q all left index → left ≡ [] → Puts h a p i b q (frame_lines 0 all)
unfolding frame_lines
all_put h i a b p q all left index w none =
    puts_as h i a b p q w.done (frame_lines 0 all) (w.split ∙ ap (λ (fs : List (List ℕ)). w.done ++ frame_lines index fs) none ∙ append-nil w.done) w.put

pub none_left : (left : List (List ℕ)) (index count : ℕ) → index + length left ≡ count → count ≡ index → left ≡ []
none_left [] index count whole end = refl
none_left (frame ∷ rest) index count whole end = absurd (omega (arith, whole, end))
