-- The packets of a transfer from a place on.
use Rattle.std.specs.Prelude.{◌≡◌, ℕ, zero, suc, ◌+◌, ◌-◌, ◌≤◌, ◌^◌, List, [], ◌∷◌, length, take, drop, nat_lt, nat_le, ◌==◌, if◌then◌else◌, Option, None}
use Rattle.un_frame.specs.declared.fault.Fault.{Fault}
use Rattle.un_frame.specs.Bytes.{number_at}
use Rattle.un_frame.specs.Eem.{Packet, Data, Command, Empty, echo_length, packet_size, packets_fault}

-- the packet at a place, by its header
abbrev pub packet_by : List ℕ → ℕ → ℕ → Packet
packet_by bytes at header =
    if header == 0 then Empty
    else (if nat_lt header (2 ^ 15) then Data (take (header - 4) (drop (at + 2) bytes))
    else Command header (take (echo_length header) (drop (at + 2) bytes)))

unfoldable pub packet_at : List ℕ → ℕ → Packet
packet_at bytes at = packet_by bytes at (number_at 2 bytes at)

-- the packets from a place on, so many at most
unfoldable pub packets_in : ℕ → List ℕ → ℕ → List Packet
packets_in zero bytes at = []
packets_in (suc left) bytes at =
    if nat_le (length bytes) at then []
    else packet_at bytes at ∷ packets_in left bytes (at + packet_size (number_at 2 bytes at))

-- the packets from a place on; there are no more of them than bytes
unfoldable pub packets_from : List ℕ → ℕ → List Packet
packets_from bytes at = packets_in (length bytes - at) bytes at

-- the first fault of the packets from a place on
unfoldable pub fault_from : List ℕ → ℕ → Option Fault
fault_from bytes at = packets_fault (length bytes - at) bytes at

-- the packets from a place on have no fault
pub record IsSound (bytes : List ℕ) (at : ℕ) : Type 0 where
  pub within : at ≤ length bytes
  pub none : fault_from bytes at ≡ None
