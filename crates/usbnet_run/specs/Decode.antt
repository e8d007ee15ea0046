-- The command decode: the text of a decoded transfer, and what it answers.
use Rattle.std.specs.Prelude.{◌≡◌, ℕ, ◌+◌, List, [], ◌∷◌, ◌++◌, length, codes, decimal, Some, Ok, Err}
use Rattle.un_frame.specs.Spelling.{class_word}
use Rattle.hex.specs.Hex.{encode_lower}
use Rattle.un_frame.specs.declared.fault.Fault.{Fault}
use Rattle.un_frame.specs.declared.params.Class.{Class}
use Rattle.un_frame.specs.Wire.{Reads, fault_of}
use Rattle.usbnet_run.specs.Refusals.{Answer}
use Rattle.usbnet_run.specs.declared.refusal.Refusal.TheVariants.{BadTransfer}

-- class CLASS, and frames NUMBER
abbrev pub head_text : Class → ℕ → List ℕ
head_text class frames = codes "class" ++ 32 ∷ class_word class ++ codes "\nframes" ++ 32 ∷ decimal frames ++ codes "\n"

-- frame INDEX LENGTH HEX: the words before the digits, and the line
abbrev pub frame_head : ℕ → ℕ → List ℕ
frame_head index size = codes "frame" ++ 32 ∷ decimal index ++ 32 ∷ decimal size ++ codes " "

abbrev pub frame_line : ℕ → List ℕ → List ℕ
frame_line index frame = frame_head index (length frame) ++ (encode_lower frame ++ codes "\n")

-- a line for each frame, with indices from this one on
unfoldable pub frame_lines : ℕ → List (List ℕ) → List ℕ
frame_lines index [] = []
frame_lines index (frame ∷ rest) = frame_line index frame ++ frame_lines (index + 1) rest

-- commands NUMBER
abbrev pub commands_text : ℕ → List ℕ
commands_text commands = codes "commands" ++ 32 ∷ decimal commands ++ codes "\n"

-- the class and the number of the frames, the frames from index 0 on, and the number of the commands
abbrev pub decoded_text : Class → List (List ℕ) → ℕ → List ℕ
decoded_text class frames commands = head_text class (length frames) ++ (frame_lines 0 frames ++ commands_text commands)

-- the grammar of the class has no reading of the bytes
abbrev pub IsOutside : Class → List ℕ → Type 0
IsOutside class bytes = (frames : List (List ℕ)) (commands : ℕ) → Reads class bytes frames commands → ⊥

-- the answers to the bytes of a transfer: the text of what the grammar reads; where it has no reading, the first fault
pub data Decodes (class : Class) (bytes : List ℕ) : Answer → Type 0 where
  decoded : (frames : List (List ℕ)) (commands : ℕ) → Reads class bytes frames commands → Decodes class bytes (Ok (decoded_text class frames commands))
  bad_transfer : (fault : Fault) → IsOutside class bytes → fault_of class bytes ≡ Some fault → Decodes class bytes (Err (BadTransfer fault))
