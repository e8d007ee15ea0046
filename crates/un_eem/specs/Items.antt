-- What is lent of a packet.
use Rattle.std.specs.Prelude.{◌≡◌, ℕ, List, ◌∷◌}
use Rattle.un_frame.specs.Eem.{Packet, Data, Command, command_code, command_parameter}
use Rattle.un_frame.specs.Eem as packets
use Rattle.un_eem.specs.declared.items.Item.{Item}
use Rattle.un_eem.specs.declared.items.Item.TheVariants.{Frame}
use Rattle.un_eem.specs.declared.items.Item.TheVariants as items

-- the item shows the packet: a frame its bytes; a command its code and parameter, which are parts of its header, and the bytes
-- of its echo
abbrev pub Shows : Item → Packet → Type 0
Shows (Frame frame) packet = packet ≡ Data frame.now
Shows (items.Command code parameter echo) packet =
    (header : ℕ) × (packet ≡ Command header echo.now) × (code ≡ command_code header) × (parameter ≡ command_parameter header)
Shows items.Empty packet = packet ≡ packets.Empty

-- it shows the first packet of those that were left
abbrev pub ShowsFirst : Item → List Packet → List Packet → Type 0
ShowsFirst item before after = (packet : Packet) × Shows item packet × (before ≡ packet ∷ after)
