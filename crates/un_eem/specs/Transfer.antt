-- Transfers of EEM, read and written.
use Rattle.std.specs.Prelude.{◌≡◌, ℕ, List, [], ◌∷◌, flat_map}
use Rattle.std.specs.List.{AllByRecursion}
use Rattle.un_frame.specs.Eem.{Packet, Data, Command, Empty, IsPacket, packet_bytes}

-- the bytes are these packets one after the other, and each may stand in a transfer
pub record IsTransfer (bytes : List ℕ) (packets : List Packet) : Type 0 where
  pub sound : AllByRecursion IsPacket packets
  pub spelled : bytes ≡ flat_map packet_bytes packets

-- the frames among packets
abbrev pub frames_in : List Packet → List (List ℕ)
frames_in [] = []
frames_in (Data frame ∷ rest) = frame ∷ frames_in rest
frames_in (Command header echo ∷ rest) = frames_in rest
frames_in (Empty ∷ rest) = frames_in rest

-- the data packets of frames, one after the other
abbrev pub data_packets : List (List ℕ) → List ℕ
data_packets frames = flat_map (λ frame. packet_bytes (Data frame)) frames
