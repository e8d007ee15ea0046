-- The bytes that were given, and the room for the bytes of all lines.
use Rattle.std.specs.Prelude.{◌≡◌, ℕ, ◌+◌, ◌*◌, List, [], ◌∷◌, length, Some, slice_get}
use Rattle.std.specs.List.{sum_by}
use Rattle.un_frame.specs.declared.params.Lane.TheVariants.{Outward, Inward}
use Rattle.un_journal.specs.declared.lines.Line.TheVariants.{Gave}
use Rattle.un_journal.specs.Script.{Script, Frame, feeds_of}
use Rattle.un_journal.specs.History.{History}

-- every gave line has the bytes of the datagram with its number
abbrev pub AreDatagrams : List Frame → History → Type 0
AreDatagrams datagrams [] = Unit {0}
AreDatagrams datagrams ((Gave l n, bytes) ∷ g) = (slice_get datagrams n ≡ Some bytes) × AreDatagrams datagrams g
AreDatagrams datagrams (e ∷ g) = AreDatagrams datagrams g

-- the bytes of all lines
abbrev pub bytes_in : History → ℕ
bytes_in [] = 0
bytes_in ((line, bytes) ∷ h) = bytes_in h + length bytes

-- for each frame of the script twice its length and 192
abbrev pub frame_room : Frame → ℕ
frame_room frame = 2 * length frame + 192

abbrev pub byte_bound : Script → ℕ
byte_bound script =
    sum_by (sum_by frame_room) (feeds_of script Outward) + sum_by (sum_by frame_room) (feeds_of script Inward)
