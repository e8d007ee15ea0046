-- The script of a load: so many frames, over both lanes and all senders in turn.
use Rattle.std.specs.Prelude.{ℕ, ◌+◌, ◌-◌, ◌/◌, ◌%◌, ◌==◌, ◌&&◌, Bool, List, [], ◌∷◌, ◌++◌, map, if◌then◌else◌}
use Rattle.std.specs.Int.{to_be_bytes, w32}
use Rattle.std.specs.List.{filter, range_with_len}
use Rattle.un_frame.specs.Lanes.{same_lane}
use Rattle.un_frame.specs.declared.params.Class.TheVariants.{Ncm16}
use Rattle.un_frame.specs.declared.params.Lane.{Lane}
use Rattle.un_frame.specs.declared.params.Lane.TheVariants.{Outward, Inward}
use Rattle.un_journal.specs.Script.{Frame, Feeds, Script}
use Rattle.un_frame.specs.Params.{defaults}

-- frames go outward and inward in turn
abbrev pub load_lane : ℕ → Lane
load_lane i = if i % 2 == 0 then Outward else Inward

abbrev pub load_sender : ℕ → ℕ
load_sender i = i / 2 % 4

-- the destination 020000000001, the source 020000000002, and the type 0800
abbrev pub ADDRESSES : List ℕ
ADDRESSES = 0x02 ∷ 0 ∷ 0 ∷ 0 ∷ 0 ∷ 0x01 ∷ 0x02 ∷ 0 ∷ 0 ∷ 0 ∷ 0 ∷ 0x02 ∷ 0x08 ∷ 0 ∷ []

-- the frame's length in bytes, from 60 to 1459
abbrev pub load_length : ℕ → ℕ
load_length i = 60 + i % 1400

-- the bytes from place 18 on tell the frame's number and their own places
unfoldable pub load_body : ℕ → ℕ → List ℕ
load_body i end = map (λ place. (i + place) % 256) (range_with_len 18 (end - 18))

-- the addresses, the frame's number with the highest byte first, and the rest
abbrev pub load_frame : ℕ → Frame
load_frame i = ADDRESSES ++ to_be_bytes w32 i ++ load_body i (load_length i)

-- whether a frame is a sender's
abbrev pub is_from : Lane → ℕ → ℕ → Bool
is_from lane sender i = same_lane (load_lane i) lane && load_sender i == sender

-- a sender's frames, of so many in all
unfoldable pub load_feed : Lane → ℕ → ℕ → List Frame
load_feed lane sender count = map load_frame (filter (is_from lane sender) (range_with_len 0 count))

abbrev pub load_feeds : Lane → ℕ → Feeds
load_feeds lane count = record { first = load_feed lane 0 count; second = load_feed lane 1 count; third = load_feed lane 2 count; fourth = load_feed lane 3 count }

-- class ncm16 with all defaults, and no controls and faults
abbrev pub load_script : ℕ → Script
load_script count = record { params = defaults Ncm16; outward = load_feeds Outward count; inward = load_feeds Inward count; controls = []; faults = [] }
