-- The words, places, ranges and counts of a script's lines, and the parameters where no line says others.
use Rattle.std.specs.Prelude.{ℕ, Bool, true, false, ◌||◌, ◌==◌, nat_lt, List, [], ◌∷◌, Option, Some, None, codes, if◌then◌else◌}
use Rattle.std.specs.Str.{bytes_eq}
use Rattle.un_facts.specs.Lists.{is_one_of}
use Rattle.un_facts.specs.Numbers.{is_between}
use Rattle.un_frame.specs.declared.params.Class.{Class}
use Rattle.un_frame.specs.declared.params.Params.{Params}
use Rattle.un_frame.specs.declared.kinds.Planned.{Planned}
use Rattle.un_frame.specs.declared.kinds.Planned.TheVariants.{Clean, Proto, Halt}
use Rattle.un_frame.specs.Params.{most_block}
use Rattle.un_journal.specs.declared.controls.Control.{Control}
use Rattle.un_journal.specs.declared.controls.Control.TheVariants.{Suspend, Resume, Down, Up, Unplug}
use Rattle.un_script.specs.declared.table.Parameter.{Parameter}
use Rattle.un_script.specs.declared.table.Parameter.TheVariants.{Segment, Packet, Block, Datagrams, Divisor, Remainder, Alignment}

-- the controls of one word
abbrev pub control_named : List ℕ → Option Control
control_named word =
    if bytes_eq word (codes "suspend") then Some Suspend
    else (if bytes_eq word (codes "resume") then Some Resume
    else (if bytes_eq word (codes "down") then Some Down
    else (if bytes_eq word (codes "up") then Some Up
    else (if bytes_eq word (codes "unplug") then Some Unplug
    else None))))

-- the faults of one word: proto alone fails one attempt
abbrev pub fault_named : List ℕ → Option Planned
fault_named word =
    if bytes_eq word (codes "halt") then Some Halt
    else (if bytes_eq word (codes "proto") then Some (Proto 1)
    else None)

-- whether a plan is a fault
abbrev pub is_fault : Planned → Bool
is_fault Clean = false
is_fault (Proto times) = true
is_fault Halt = true

-- the parameters of one number
abbrev pub parameter_named : List ℕ → Option Parameter
parameter_named word =
    if bytes_eq word (codes "segment") then Some Segment
    else (if bytes_eq word (codes "packet") then Some Packet
    else (if bytes_eq word (codes "block") then Some Block
    else (if bytes_eq word (codes "datagrams") then Some Datagrams
    else (if bytes_eq word (codes "divisor") then Some Divisor
    else (if bytes_eq word (codes "remainder") then Some Remainder
    else (if bytes_eq word (codes "alignment") then Some Alignment
    else None))))))

-- THE PLACES OF THE LINES

abbrev pub CLASS_PLACE : ℕ
CLASS_PLACE = 1

abbrev pub FILTER_PLACE : ℕ
FILTER_PLACE = 4

abbrev pub REQUESTS_PLACE : ℕ
REQUESTS_PLACE = 10

abbrev pub BODY_PLACE : ℕ
BODY_PLACE = 11

abbrev pub place_of : Parameter → ℕ
place_of Segment = 2
place_of Packet = 3
place_of Block = 5
place_of Datagrams = 6
place_of Divisor = 7
place_of Remainder = 8
place_of Alignment = 9

-- Whether a line of this place may follow one of that place, with 0 where none came yet: the class line comes first, then
-- each parameter at most once in its turn, then the body.
abbrev pub may_follow : ℕ → ℕ → Bool
may_follow last place = if last == 0 then place == CLASS_PLACE else nat_lt last place || place == BODY_PLACE

-- THE RANGES

abbrev pub is_allowed : Class → Parameter → ℕ → Bool
is_allowed class Segment n = is_between 60 8192 n
is_allowed class Packet n = is_one_of n (8 ∷ 16 ∷ 32 ∷ 64 ∷ 128 ∷ 256 ∷ 512 ∷ 1024 ∷ [])
is_allowed class Block n = is_between 2048 (most_block class) n
is_allowed class Datagrams n = is_between 0 1024 n
is_allowed class Divisor n = is_between 1 64 n
is_allowed class Remainder n = is_between 0 63 n
is_allowed class Alignment n = is_between 4 64 n

abbrev pub is_filter : ℕ → Bool
is_filter n = is_between 0x00 0x1f n

abbrev pub is_pool_size : ℕ → Bool
is_pool_size n = is_between 1 64 n

abbrev pub is_sender : ℕ → Bool
is_sender n = is_between 0 3 n

abbrev pub is_want : ℕ → Bool
is_want n = is_between 0 65536 n

abbrev pub is_planned_serial : ℕ → Bool
is_planned_serial n = is_between 0 65535 n

-- how many attempts of a transfer may be planned to fail
abbrev pub is_times : ℕ → Bool
is_times n = is_between 1 4 n

abbrev pub MOST_FRAMES : ℕ
MOST_FRAMES = 65536

abbrev pub MOST_CONTROLS : ℕ
MOST_CONTROLS = 256

abbrev pub MOST_FAULTS : ℕ
MOST_FAULTS = 1024

-- A LINE'S NUMBER IN ITS PLACE

abbrev pub with_number : Parameter → ℕ → Params → Params
with_number Segment n p = record p { segment = n }
with_number Packet n p = record p { packet = n }
with_number Block n p = record p { block = n }
with_number Datagrams n p = record p { datagrams = n }
with_number Divisor n p = record p { divisor = n }
with_number Remainder n p = record p { remainder = n }
with_number Alignment n p = record p { alignment = n }
