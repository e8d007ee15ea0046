-- What a reading answers to a caller in C: the array of spans and the answer, before and after, and the status.
use Rattle.std.specs.Prelude.{◌≡◌, ℕ, List, length, Option, Some, None}
use Rattle.un_frame.specs.declared.fault.Fault.{Fault}
use Rattle.un_frame.specs.declared.params.Class.{Class}
use Rattle.un_frame.specs.declared.span.Span.{Span}
use Rattle.un_frame.specs.Parts.{places_as}
use Rattle.un_frame.specs.Wire.{ReadsAt, fault_of}
use Rattle.un_wire.specs.Spans.{filled}
use Rattle.un_c.specs.Numbers.{kind_number}
use Rattle.un_c.specs.declared.reading.Answer.{Answer}

-- The grammar of the class reads the transfer: its frames stand at the places that the array now begins with, as many as have
-- room, and their number and that of the commands are told.
pub record IsFound (class : Class) (bytes : List ℕ) (before after : List Span) (answer : Answer) (status : ℕ) : Type 0 where
  pub none : status ≡ 0
  pub spans : after ≡ filled (places_as class bytes) before
  pub frames : answer.frames ≡ length (places_as class bytes)
  pub reads : ReadsAt class bytes (places_as class bytes) answer.commands
  pub at : answer.at ≡ 0

-- a transfer of a class, by its first fault, which is told by its number and its place while the array stays
abbrev pub IsRead : Class → List ℕ → Option Fault → List Span → List Span → Answer → ℕ → Type 0
IsRead class bytes None before after answer status = IsFound class bytes before after answer status
IsRead class bytes (Some fault) before after answer status =
    (status ≡ kind_number fault.kind) × (after ≡ before) × (answer ≡ record { frames = 0; commands = 0; at = fault.at })

-- a transfer of the class that a number has; where it has none nothing is written
abbrev pub IsAnswered : Option Class → List ℕ → List Span → Answer → List Span → Answer → ℕ → Type 0
IsAnswered None bytes before answer after told status = (status ≡ 100) × (after ≡ before) × (told ≡ answer)
IsAnswered (Some class) bytes before answer after told status = IsRead class bytes (fault_of class bytes) before after told status
