-- The refusals, their statuses and their lines, and how an answer meets the sink.
use Rattle.std.specs.Prelude.{◌≡◌, ℕ, List, ◌∷◌, ◌++◌, ◌⊎◌, codes, decimal, Option, Result, Ok, Err}
use Rattle.std.specs.Io.KnownBytes.{Appends}
use Rattle.un_frame.specs.declared.fault.Kind.{Kind}
use Rattle.un_frame.specs.declared.fault.Kind.TheVariants.{Truncated, BadSentinel, CrcPacket, ShortFrame, BadSignature, BadHeaderLength, BadBlockLength, BadNdpIndex, BadNdpLength, CrcTable, NdpLoop, BadEntry, BadMessageType, BadMessageLength}
use Rattle.un_io.specs.Io.{Rose, Stopped}
use Rattle.un_io.specs.declared.whole.WriteFault.{WriteFault}
use Rattle.un_script.specs.Reasons.{why_word}
use Rattle.un_setup.specs.declared.agreement.SetupFault.{SetupFault}
use Rattle.un_setup.specs.declared.agreement.SetupFault.TheVariants.{BadDivisor, BadAlignment, NoFit, NoMemory as NoRoom}
use Rattle.usbnet_run.specs.declared.refusal.Refusal.{Refusal}
use Rattle.usbnet_run.specs.declared.refusal.Refusal.TheVariants.{NoMemory, ReadFault, BadWords, BadScript, Setup, TooLarge, BadTransfer}

-- THE STATUSES

abbrev pub refusal_status : Refusal → ℕ
refusal_status NoMemory = 1
refusal_status ReadFault = 2
refusal_status BadWords = 4
refusal_status (BadScript line why) = 5
refusal_status (Setup NoRoom) = 1
refusal_status (Setup fault) = 6
refusal_status TooLarge = 7
refusal_status (BadTransfer fault) = 8

-- whether all output was written, or why there is none
abbrev pub Ending : Type 0
Ending = Result (Result (Unit {0}) WriteFault) Refusal

abbrev pub ending_status : Ending → ℕ
ending_status (Ok (Ok all)) = 0
ending_status (Ok (Err fault)) = 3
ending_status (Err refusal) = refusal_status refusal

-- THE LINES

-- the word of a fault's kind
abbrev pub kind_word : Kind → List ℕ
kind_word Truncated = codes "truncated"
kind_word BadSentinel = codes "bad-sentinel"
kind_word CrcPacket = codes "crc-packet"
kind_word ShortFrame = codes "short-frame"
kind_word BadSignature = codes "bad-signature"
kind_word BadHeaderLength = codes "bad-header-length"
kind_word BadBlockLength = codes "bad-block-length"
kind_word BadNdpIndex = codes "bad-ndp-index"
kind_word BadNdpLength = codes "bad-ndp-length"
kind_word CrcTable = codes "crc-table"
kind_word NdpLoop = codes "ndp-loop"
kind_word BadEntry = codes "bad-entry"
kind_word BadMessageType = codes "bad-message-type"
kind_word BadMessageLength = codes "bad-message-length"

-- what doesn't agree
abbrev pub setup_words : SetupFault → List ℕ
setup_words (BadDivisor divisor remainder) = codes "setup refused divisor" ++ 32 ∷ decimal divisor ++ 32 ∷ decimal remainder
setup_words (BadAlignment alignment) = codes "setup refused alignment" ++ 32 ∷ decimal alignment
setup_words (NoFit segment block) = codes "setup refused no-fit" ++ 32 ∷ decimal segment ++ 32 ∷ decimal block
setup_words NoRoom = codes "no memory"

abbrev pub refusal_words : Refusal → List ℕ
refusal_words NoMemory = codes "no memory"
refusal_words ReadFault = codes "read fault"
refusal_words BadWords = codes "bad words"
refusal_words (BadScript line why) = codes "bad script" ++ 32 ∷ decimal line ++ 32 ∷ why_word why
refusal_words (Setup fault) = setup_words fault
refusal_words TooLarge = codes "too large"
refusal_words (BadTransfer f) = codes "bad transfer" ++ 32 ∷ kind_word f.kind ++ 32 ∷ decimal f.at

abbrev pub refusal_line : Refusal → List ℕ
refusal_line refusal = refusal_words refusal ++ codes "\n"

-- HOW AN ANSWER MEETS THE SINK

-- a command's answer: the text that it prints, or why it prints none
abbrev pub Answer : Type 0
Answer = Result (List ℕ) Refusal

-- a refusal's line was written; or a write failed, by the sink's count of faults, and a front of the line was
abbrev pub Tells : Option (List ℕ) → Option (List ℕ) → ℕ → ℕ → Refusal → Type 0
Tells held held' faults faults' refusal = Appends held held' (refusal_line refusal) ⊎ (Stopped held held' (refusal_line refusal) × Rose faults faults')

-- In what the sink holds, and its count of faults, before and after: at 0 it grew by the text; at 3, where that count rose, by a front of it, and not all; at a refusal's status
-- the refusal was told.
pub data Prints (held held' : Option (List ℕ)) (faults faults' : ℕ) : Answer → ℕ → Type 0 where
  done : (text : List ℕ) → Appends held held' text → Prints held held' faults faults' (Ok text) 0
  stopped : (text : List ℕ) → Stopped held held' text → Rose faults faults' → Prints held held' faults faults' (Ok text) 3
  refused : (refusal : Refusal) → Tells held held' faults faults' refusal → Prints held held' faults faults' (Err refusal) (refusal_status refusal)

-- BEFORE A REFUSAL IS TOLD

-- all of a text was written; or a write failed, by the sink's count of faults, and a front of it was, and not all
abbrev pub Writes : Option (List ℕ) → Option (List ℕ) → ℕ → ℕ → List ℕ → Result (Unit {0}) WriteFault → Type 0
Writes held held' faults faults' text (Ok all) = Appends held held' text
Writes held held' faults faults' text (Err fault) = Stopped held held' text × Rose faults faults'

-- a text that is an answer was written in this way; or a refusal is one, and the sink is as it was
abbrev pub Does : (Answer → Type 0) → Option (List ℕ) → Option (List ℕ) → ℕ → ℕ → Ending → Type 0
Does IsAnswer held held' faults faults' (Ok written) = (text : List ℕ) × IsAnswer (Ok text) × Writes held held' faults faults' text written
Does IsAnswer held held' faults faults' (Err refusal) = IsAnswer (Err refusal) × (held' ≡ held) × (faults' ≡ faults)

-- what the end adds: a refusal's line, else nothing
abbrev pub Finishes : Option (List ℕ) → Option (List ℕ) → ℕ → ℕ → Ending → Type 0
Finishes held held' faults faults' (Ok written) = (held' ≡ held) × (faults' ≡ faults)
Finishes held held' faults faults' (Err refusal) = Tells held held' faults faults' refusal
