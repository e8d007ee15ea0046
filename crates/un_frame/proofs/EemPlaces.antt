-- The walk over the packets of a transfer of EEM finds their frames.
use Rattle.std.proofs.Common.{◌≡◌, ℕ, zero, suc, ◌+◌, ◌-◌, ◌%◌, ◌^◌, ◌<◌, ◌≤◌, Bool, true, false, nat_le, if◌then◌else◌, List, [], ◌∷◌, ◌++◌, length, flat_map, refl, sym, ap, ◌∙◌, arith, append_assoc, length-append}
use Rattle.std.proofs.lemmas.Bool.Decides.{nat_tests}
use Rattle.std.specs.List.{AllByRecursion}
use Rattle.un_frame.specs.Bytes.{Place, number_at}
use Rattle.un_frame.specs.Eem.{Packet, Data, Command, Empty, IsPacket, packet_bytes, frame_places, packet_size, is_data}
use Rattle.un_frame.specs.Places.{eem_places}
use Rattle.un_frame.proofs.EemLemmas.{header_of, header_read, size_of_packet, least_packet, data_header, command_header}
use Rattle.un_frame.proofs.NtbFormLemmas.{length-number_bytes}

-- one packet of the walk
places_step : (left : ℕ) (bytes : List ℕ) (at h next : ℕ) (b : Bool) (rest : List Place) → nat_le (length bytes) at ≡ false → number_at 2 bytes at ≡ h → is_data h ≡ b → at + packet_size h ≡ next → eem_places left bytes next ≡ rest → eem_places (suc left) bytes at ≡ (if b then record { at = at + 2; size = h % 2 ^ 14 - 4 } ∷ [] else []) ++ rest
unfolding eem_places
places_step left bytes at h next b rest more head kind step go = rw (more, head, kind, step, go) refl

-- the bytes go on where a packet stands
goes_on : (front packet rest : List ℕ) → 2 ≤ length packet → nat_le (length (front ++ (packet ++ rest))) (length front) ≡ false
goes_on front packet rest least =
    let long : length front + length packet ≤ length (front ++ (packet ++ rest)) = simp length-append (omega arith) in
    grind (arith, nat_tests, long, least)

-- the walk past a packet, from the walk after it
walk_past : (left : ℕ) (p : Packet) (front rest : List ℕ) (b : Bool) (places : List Place) → IsPacket p → is_data (header_of p) ≡ b → eem_places left ((front ++ packet_bytes p) ++ rest) (length (front ++ packet_bytes p)) ≡ places → eem_places (suc left) (front ++ (packet_bytes p ++ rest)) (length front) ≡ (if b then record { at = length front + 2; size = header_of p % 2 ^ 14 - 4 } ∷ [] else []) ++ places
walk_past left p front rest b places sound kind go =
    let grouped : front ++ (packet_bytes p ++ rest) ≡ (front ++ packet_bytes p) ++ rest = sym (append_assoc front (packet_bytes p) rest) in
    let next : length front + packet_size (header_of p) ≡ length (front ++ packet_bytes p) = ap (λ (k : ℕ). length front + k) (size_of_packet p sound) ∙ sym (length-append front (packet_bytes p)) in
    places_step left (front ++ (packet_bytes p ++ rest)) (length front) (header_of p) (length (front ++ packet_bytes p)) b places
    (goes_on front (packet_bytes p) rest (least_packet p)) (header_read p front rest sound) kind next
    (ap (λ (xs : List ℕ). eem_places left xs (length (front ++ packet_bytes p))) grouped ∙ go)

-- the walk ends with the bytes
walk_end : (left : ℕ) (bytes : List ℕ) (at : ℕ) → length bytes ≤ at → eem_places left bytes at ≡ []
unfolding eem_places
walk_end zero bytes at past = refl
walk_end (suc left) bytes at past = let t : nat_le (length bytes) at ≡ true = grind (arith, nat_tests, past) in rw t refl

fewer : (left : ℕ) (p : Packet) (rest : List ℕ) → length (packet_bytes p ++ rest) ≤ suc left → length rest ≤ left
fewer left p rest room = let least = least_packet p in let long = length-append (packet_bytes p) rest in omega (arith, room, least, long)

data_size : (n : ℕ) → n + 4 < 2 ^ 14 → (n + 4) % 2 ^ 14 - 4 ≡ n
data_size n low = omega arith

pub data_end : (front frame : List ℕ) → length (front ++ packet_bytes (Data frame)) ≡ length front + length frame + 6
data_end front frame = simp (length-append, length-number_bytes) (omega arith)

pub command_end : (front : List ℕ) (h : ℕ) (echo : List ℕ) → length (front ++ packet_bytes (Command h echo)) ≡ length front + length echo + 2
command_end front h echo = simp (length-append, length-number_bytes) (omega arith)

pub empty_end : (front : List ℕ) → length (front ++ packet_bytes Empty) ≡ length front + 2
empty_end front = simp (length-append, length-number_bytes) (omega arith)

-- the walk over packets finds their frames
pub walk_places : (left : ℕ) (packets : List Packet) (front : List ℕ) → AllByRecursion IsPacket packets → length (flat_map packet_bytes packets) ≤ left → eem_places left (front ++ flat_map packet_bytes packets) (length front) ≡ frame_places (length front) packets
walk_places left [] front sound room = walk_end left (front ++ []) (length front) (omega (arith, length-append front []))
walk_places zero (p ∷ ps) front sound room = absurd (let least = least_packet p in let long = length-append (packet_bytes p) (flat_map packet_bytes ps) in omega (arith, room, least, long))
walk_places (suc left) (Data frame ∷ ps) front sound room =
    let ih = walk_places left ps (front ++ packet_bytes (Data frame)) sound.1 (fewer left (Data frame) (flat_map packet_bytes ps) room) in
    let kind = data_header (length frame + 4) (λ e. omega (arith, e)) (let low = sound.0.1 in omega (arith, low)) in
    walk_past left (Data frame) front (flat_map packet_bytes ps) true _ sound.0 kind (ih ∙ ap (λ (n : ℕ). frame_places n ps) (data_end front frame))
    ∙ ap (λ (n : ℕ). record { at = length front + 2; size = n } ∷ frame_places (length front + length frame + 6) ps) (data_size (length frame) sound.0.1)
walk_places (suc left) (Command h echo ∷ ps) front sound room =
    let ih = walk_places left ps (front ++ packet_bytes (Command h echo)) sound.1 (fewer left (Command h echo) (flat_map packet_bytes ps) room) in
    walk_past left (Command h echo) front (flat_map packet_bytes ps) false _ sound.0 (command_header h sound.0.0) (ih ∙ ap (λ (n : ℕ). frame_places n ps) (command_end front h echo))
walk_places (suc left) (Empty ∷ ps) front sound room =
    let ih = walk_places left ps (front ++ packet_bytes Empty) sound.1 (fewer left Empty (flat_map packet_bytes ps) room) in
    walk_past left Empty front (flat_map packet_bytes ps) false _ tt refl (ih ∙ ap (λ (n : ℕ). frame_places n ps) (empty_end front))
