-- A transfer of RNDIS is a list of data messages, one after the other (MS-RNDIS 2.2.14, REMOTE_NDIS_PACKET_MSG). Each
-- begins with eleven numbers of 32 bits: the type, the message's length, the frame's offset and length, and seven that a
-- reader leaves alone and a writer sets to 0.
use Rattle.std.specs.Prelude.{◌≡◌, ℕ, zero, suc, ◌+◌, ◌≤◌, Bool, ◌&&◌, ◌||◌, not, List, [], ◌∷◌, ◌++◌, length, nat_lt, nat_le, ◌==◌, if◌then◌else◌, Option, None}
use Rattle.std.specs.List.{AllByRecursion, concat}
use Rattle.un_frame.specs.Bytes.{Place, number_at, number_bytes, zeros}
use Rattle.un_frame.specs.Fault.{fault, or_else}
use Rattle.un_frame.specs.declared.fault.Fault.{Fault}
use Rattle.un_frame.specs.declared.fault.Kind.TheVariants.{Truncated, BadMessageType, BadMessageLength, BadEntry, ShortFrame}

-- the numbers of the message at a place that a reader looks at
abbrev pub message_type : List ℕ → ℕ → ℕ
message_type bytes at = number_at 4 bytes at

abbrev pub message_length : List ℕ → ℕ → ℕ
message_length bytes at = number_at 4 bytes (at + 4)

abbrev pub data_offset : List ℕ → ℕ → ℕ
data_offset bytes at = number_at 4 bytes (at + 8)

abbrev pub data_length : List ℕ → ℕ → ℕ
data_length bytes at = number_at 4 bytes (at + 12)

-- where its frame stands: the offset counts from its own field
abbrev pub message_frame : List ℕ → ℕ → Place
message_frame bytes at = record { at = at + 8 + data_offset bytes at; size = data_length bytes at }

-- the bytes of a message that may stand in a transfer; so it has more than its header's 44
pub record IsMessage (message : List ℕ) : Type 0 where
  pub is_data : message_type message 0 ≡ 1
  pub whole : message_length message 0 ≡ length message
  pub past_the_header : 36 ≤ data_offset message 0
  pub least : 14 ≤ data_length message 0
  pub inside : 8 + data_offset message 0 + data_length message 0 ≤ length message

-- what may follow the messages: nothing, or one byte where there is a message (this project's own: Linux's usbnet puts a byte
-- there where a transfer would else end in a full packet)
pub record MayFollow (messages : List (List ℕ)) (further : List ℕ) : Type 0 where
  pub most : length further ≤ 1
  pub after_one : messages ≡ [] → further ≡ []

-- where the frames of messages stand that begin at a place
abbrev pub message_places : ℕ → List (List ℕ) → List Place
message_places at [] = []
message_places at (message ∷ rest) =
    record { at = at + 8 + data_offset message 0; size = data_length message 0 } ∷ message_places (at + length message) rest

-- the bytes are messages one after the other and what may follow them, with frames at these places
pub record RndisReads (bytes : List ℕ) (places : List Place) : Type 0 where
  pub messages : List (List ℕ)
  pub further : List ℕ
  pub sound : AllByRecursion IsMessage messages
  pub follows : MayFollow messages further
  pub spelled : bytes ≡ concat messages ++ further
  pub frames : places ≡ message_places 0 messages

-- whether no message begins at a place: it is the end, or only the one further byte is left
abbrev pub is_past : List ℕ → ℕ → Bool
is_past bytes at = nat_le (length bytes) at || (not (at == 0) && (length bytes == at + 1))

-- the fault of the message at a place: the first of these checks that finds one (their order is this project's own)
unfoldable pub message_fault : List ℕ → ℕ → Option Fault
message_fault bytes at =
    if nat_lt (length bytes) (at + 44) then fault Truncated at
    else (if not (message_type bytes at == 1) then fault BadMessageType at
    else (if nat_lt (message_length bytes at) 44 || nat_lt (length bytes) (at + message_length bytes at) then fault BadMessageLength (at + 4)
    else (if nat_lt (data_offset bytes at) 36 || nat_lt (message_length bytes at) (8 + data_offset bytes at + data_length bytes at) then fault BadEntry (at + 8)
    else (if nat_lt (data_length bytes at) 14 then fault ShortFrame (at + 12)
    else None))))

-- the first fault of the messages from a place on; there are no more of them than bytes
unfoldable pub messages_fault : ℕ → List ℕ → ℕ → Option Fault
messages_fault zero bytes at = None
messages_fault (suc left) bytes at =
    if is_past bytes at then None
    else or_else (message_fault bytes at) (messages_fault left bytes (at + message_length bytes at))

-- the first fault of a transfer
abbrev pub rndis_fault : List ℕ → Option Fault
rndis_fault bytes = messages_fault (length bytes) bytes 0

-- where the frames of the messages from a place on stand, so many at most
unfoldable pub rndis_places : ℕ → List ℕ → ℕ → List Place
rndis_places zero bytes at = []
rndis_places (suc left) bytes at =
    if is_past bytes at then []
    else message_frame bytes at ∷ rndis_places left bytes (at + message_length bytes at)

-- what stands before the frame in a message that a writer makes
abbrev pub message_header : ℕ → List ℕ
message_header size = number_bytes 4 1 ++ number_bytes 4 (size + 44) ++ number_bytes 4 36 ++ number_bytes 4 size ++ zeros 28

-- the message of a frame: the frame follows the header at once
abbrev pub message_bytes : List ℕ → List ℕ
message_bytes frame = message_header (length frame) ++ frame
