-- The numbers that a caller in C has for classes and faults (this project's own).
use Rattle.std.specs.Prelude.{ℕ, Option, Some, None, ◌==◌, if◌then◌else◌}
use Rattle.un_frame.specs.declared.params.Class.{Class}
use Rattle.un_frame.specs.declared.params.Class.TheVariants.{Ecm, Eem, Ncm16, Ncm32, Rndis}
use Rattle.un_frame.specs.declared.fault.Kind.{Kind}
use Rattle.un_frame.specs.declared.fault.Kind.TheVariants.{Truncated, BadSentinel, CrcPacket, ShortFrame, BadSignature, BadHeaderLength, BadBlockLength, BadNdpIndex, BadNdpLength, CrcTable, NdpLoop, BadEntry, BadMessageType, BadMessageLength}

-- the class of a number
abbrev pub class_numbered : ℕ → Option Class
class_numbered number =
    if number == 0 then Some Ecm
    else (if number == 1 then Some Eem
    else (if number == 2 then Some Ncm16
    else (if number == 3 then Some Ncm32
    else (if number == 4 then Some Rndis
    else None))))

-- the number of a kind of fault
abbrev pub kind_number : Kind → ℕ
kind_number Truncated = 1
kind_number BadSentinel = 2
kind_number CrcPacket = 3
kind_number ShortFrame = 4
kind_number BadSignature = 5
kind_number BadHeaderLength = 6
kind_number BadBlockLength = 7
kind_number BadNdpIndex = 8
kind_number BadNdpLength = 9
kind_number CrcTable = 10
kind_number NdpLoop = 11
kind_number BadEntry = 12
kind_number BadMessageType = 13
kind_number BadMessageLength = 14
