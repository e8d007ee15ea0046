-- The reading of a command's input, and how it ends where it isn't read whole.
use Rattle.std.specs.Prelude.{◌≡◌, ℕ, ◌+◌, ◌≤◌, List, length, Option, Err}
use Rattle.std.specs.Io.KnownBytes.{IsAtEnd}
use Rattle.usbnet_run.specs.Refusals.{Answer}
use Rattle.usbnet_run.specs.declared.refusal.Refusal.{Refusal}
use Rattle.usbnet_run.specs.declared.refusal.Refusal.TheVariants.{NoMemory, ReadFault, TooLarge}

-- the most bytes of input
abbrev pub MOST_INPUT : ℕ
MOST_INPUT = 16777216

-- the source gave its end, and what it gave in this call is no more than the most
abbrev pub IsReadToEnd : List ℕ → Option (List ℕ) → Type 0
IsReadToEnd given left = IsAtEnd left × (length given ≤ MOST_INPUT)

-- memory ran out; a read failed; there was more than the most
pub data StopsReading (given : List ℕ) : Refusal → Type 0 where
  no_memory : StopsReading given NoMemory
  read_fault : length given ≤ MOST_INPUT → StopsReading given ReadFault
  too_large : length given ≡ MOST_INPUT + 1 → StopsReading given TooLarge

-- the answer of a command over its input: one of these, or an answer to the whole of it
pub data OfInput (Answers : List ℕ → Answer → Type 0) (given : List ℕ) (left : Option (List ℕ)) : Answer → Type 0 where
  stops : (refusal : Refusal) → StopsReading given refusal → OfInput Answers given left (Err refusal)
  reads : (answer : Answer) → IsReadToEnd given left → Answers given answer → OfInput Answers given left answer
