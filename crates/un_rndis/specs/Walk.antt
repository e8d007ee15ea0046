-- The messages of a transfer from a place on.
use Rattle.std.specs.Prelude.{ℕ, ◌-◌, List, length, Option}
use Rattle.un_frame.specs.declared.fault.Fault.{Fault}
use Rattle.un_frame.specs.Bytes.{Place}
use Rattle.un_frame.specs.Rndis.{messages_fault, rndis_places}

-- where the frames of the messages from a place on stand; there are no more of them than bytes
unfoldable pub places_from : List ℕ → ℕ → List Place
places_from bytes at = rndis_places (length bytes - at) bytes at

-- the first fault of the messages from a place on
unfoldable pub fault_from : List ℕ → ℕ → Option Fault
fault_from bytes at = messages_fault (length bytes - at) bytes at
