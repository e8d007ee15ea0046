-- Where the frames of a transfer stand: by its bytes, and by the sizes of its frames while it is open.
use Rattle.std.specs.Prelude.{ℕ, zero, suc, ◌+◌, ◌-◌, ◌%◌, ◌^◌, List, [], ◌∷◌, ◌++◌, length, nat_le, if◌then◌else◌}
use Rattle.un_frame.specs.Bytes.{Place, number_at}
use Rattle.un_frame.specs.Eem.{packet_size, is_data}
use Rattle.un_frame.specs.Ntb.{Format, block_of, MOST_TABLES}
use Rattle.un_frame.specs.NtbCursor.{places_left}

-- the frames of the packets from a place on; there are no more packets than bytes
unfoldable pub eem_places : ℕ → List ℕ → ℕ → List Place
eem_places zero bytes at = []
eem_places (suc left) bytes at =
    if nat_le (length bytes) at then []
    else ((if is_data (number_at 2 bytes at) then record { at = at + 2; size = number_at 2 bytes at % 2 ^ 14 - 4 } ∷ [] else [])
    ++ eem_places left bytes (at + packet_size (number_at 2 bytes at)))

-- the datagrams of a block, from its first table on
abbrev pub ntb_places : Format → List ℕ → List Place
ntb_places f bytes = places_left f (block_of f bytes) 0 0 (number_at f.width (block_of f bytes) f.ndp_index) MOST_TABLES

-- The places of frames of these sizes that are put one after the other from `at` on, each with so many bytes before
-- and after it.
abbrev pub spaced_places : ℕ → ℕ → ℕ → List ℕ → List Place
spaced_places before after at [] = []
spaced_places before after at (size ∷ rest) =
    record { at = at + before; size = size } ∷ spaced_places before after (at + before + size + after) rest
