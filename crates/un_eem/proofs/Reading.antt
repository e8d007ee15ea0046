-- What has no fault is its packets, one after the other.
use Rattle.std.proofs.Common.{◌≡◌, ℕ, zero, suc, ◌+◌, ◌-◌, ◌^◌, ◌<◌, ◌≤◌, true, false, nat_lt, nat_le, ◌==◌, List, [], ◌∷◌, ◌++◌, length, take, drop, map, flat_map, None, refl, sym, ap, ◌∙◌, subst, arith, append_assoc, length-append, take_at, drop_at}
use Rattle.std.proofs.lemmas.Bool.Decides.{nat_tests}
use Rattle.std.specs.List.{AllByRecursion}
use Rattle.un_frame.proofs.EemPlaces.{data_end, command_end, empty_end}
use Rattle.un_frame.specs.declared.params.Class.TheVariants.{Eem}
use Rattle.un_frame.specs.Bytes.{AreBytes, number_at, number_bytes, slice_at}
use Rattle.un_frame.specs.Eem.{Packet, Data, Command, Empty, SENTINEL, IsPacket, command_count, echo_length, eem_fault, frame_places, packet_bytes, packet_size}
use Rattle.un_frame.specs.Wire.{Reads}
use Rattle.un_frame.proofs.EemLemmas.{header_read, size_of_packet, least_packet, packets_sound}
use Rattle.un_frame.proofs.NtbFormLemmas.{length-number_bytes}
use Rattle.un_eem.specs.Walk.{IsSound, packet_by, packet_at, packets_in, packets_from, fault_from}
use Rattle.un_eem.specs.Transfer.{IsTransfer, frames_in}
use Rattle.un_eem.proofs.Steps.{fault_start}

-- what stands behind a header
behind : (front head rest : List ℕ) → length head ≡ 2 → drop (length front + 2) (front ++ (head ++ rest)) ≡ rest
behind front head rest two =
    let grouped : front ++ (head ++ rest) ≡ (front ++ head) ++ rest = sym (append_assoc front head rest) in
    ap (drop (length front + 2)) grouped ∙ drop_at (front ++ head) rest (length front + 2) (length-append front head ∙ ap (λ (n : ℕ). length front + n) two)

-- a data packet's frame
frame_there : (frame front rest : List ℕ) (size : ℕ) → length frame ≡ size → take size (drop (length front + 2) (front ++ (packet_bytes (Data frame) ++ rest))) ≡ frame
frame_there frame front rest size long =
    let head = number_bytes 2 (length frame + 4) in
    let grouped : (head ++ frame ++ SENTINEL) ++ rest ≡ head ++ (frame ++ (SENTINEL ++ rest)) = simp append_assoc in
    ap (λ (xs : List ℕ). take size (drop (length front + 2) (front ++ xs))) grouped
    ∙ ap (take size) (behind front head (frame ++ (SENTINEL ++ rest)) (length-number_bytes 2 (length frame + 4)))
    ∙ take_at frame (SENTINEL ++ rest) size long

-- a command's echo
echo_there : (header : ℕ) (echo front rest : List ℕ) (size : ℕ) → length echo ≡ size → take size (drop (length front + 2) (front ++ (packet_bytes (Command header echo) ++ rest))) ≡ echo
echo_there header echo front rest size long =
    let head = number_bytes 2 header in
    ap (λ (xs : List ℕ). take size (drop (length front + 2) (front ++ xs))) (append_assoc head echo rest)
    ∙ ap (take size) (behind front head (echo ++ rest) (length-number_bytes 2 header))
    ∙ take_at echo rest size long

pub by_zero : (bytes : List ℕ) (at : ℕ) → packet_by bytes at 0 ≡ Empty
by_zero bytes at = refl

pub by_low : (bytes : List ℕ) (at header : ℕ) → 0 < header → header < 2 ^ 15 → packet_by bytes at header ≡ Data (take (header - 4) (drop (at + 2) bytes))
by_low bytes at header some low =
    let zero_is : (header == 0) ≡ false = grind (arith, nat_tests, some) in
    let low_is : nat_lt header (2 ^ 15) ≡ true = grind (arith, nat_tests, low) in
    rw (zero_is, low_is) refl

pub by_high : (bytes : List ℕ) (at header : ℕ) → 2 ^ 15 ≤ header → packet_by bytes at header ≡ Command header (take (echo_length header) (drop (at + 2) bytes))
by_high bytes at header high =
    let zero_is : (header == 0) ≡ false = grind (arith, nat_tests, high) in
    let low_is : nat_lt header (2 ^ 15) ≡ false = grind (arith, nat_tests, high) in
    rw (zero_is, low_is) refl

-- the packet that stands behind a front
packet_there : (p : Packet) (front rest : List ℕ) → IsPacket p → packet_at (front ++ (packet_bytes p ++ rest)) (length front) ≡ p
unfolding packet_at
packet_there (Data frame) front rest s =
    let block = front ++ (packet_bytes (Data frame) ++ rest) in
    ap (packet_by block (length front)) (header_read (Data frame) front rest s)
    ∙ by_low block (length front) (length frame + 4) (omega arith) (omega (arith, s.1))
    ∙ ap Data (frame_there frame front rest (length frame + 4 - 4) (omega arith))
packet_there (Command header echo) front rest s =
    let block = front ++ (packet_bytes (Command header echo) ++ rest) in
    ap (packet_by block (length front)) (header_read (Command header echo) front rest s)
    ∙ by_high block (length front) header s.0
    ∙ ap (Command header) (echo_there header echo front rest (echo_length header) s.2)
packet_there Empty front rest s =
    let block = front ++ (packet_bytes Empty ++ rest) in
    ap (packet_by block (length front)) (header_read Empty front rest s) ∙ by_zero block (length front)

-- one packet of the walk
walk_step : (left : ℕ) (bytes : List ℕ) (at next : ℕ) (p : Packet) (rest : List Packet) → at < length bytes → packet_at bytes at ≡ p → at + packet_size (number_at 2 bytes at) ≡ next → packets_in left bytes next ≡ rest
    → packets_in (suc left) bytes at ≡ p ∷ rest
unfolding packets_in
walk_step left bytes at next p rest more here step go =
    let test : nat_le (length bytes) at ≡ false = grind (arith, nat_tests, more) in
    rw (test, here, step, go) refl

walk_end : (left : ℕ) (bytes : List ℕ) (at : ℕ) → length bytes ≤ at → packets_in left bytes at ≡ []
unfolding packets_in
walk_end zero bytes at past = refl
walk_end (suc left) bytes at past = let t : nat_le (length bytes) at ≡ true = grind (arith, nat_tests, past) in rw t refl

-- a walk over packets finds them
walk_packets : (left : ℕ) (packets : List Packet) (front : List ℕ) → AllByRecursion IsPacket packets → length (flat_map packet_bytes packets) ≤ left
    → packets_in left (front ++ flat_map packet_bytes packets) (length front) ≡ packets
walk_packets left [] front sound room = walk_end left (front ++ []) (length front) (omega (arith, length-append front []))
walk_packets zero (p ∷ ps) front sound room = absurd (let least = least_packet p in let long = length-append (packet_bytes p) (flat_map packet_bytes ps) in omega (arith, room, least, long))
walk_packets (suc left) (p ∷ ps) front sound room =
    let rest = flat_map packet_bytes ps in
    let block = front ++ (packet_bytes p ++ rest) in
    let least = least_packet p in
    let long = length-append (packet_bytes p) rest in
    let whole = length-append front (packet_bytes p ++ rest) in
    let grouped : block ≡ (front ++ packet_bytes p) ++ rest = sym (append_assoc front (packet_bytes p) rest) in
    let next : length front + packet_size (number_at 2 block (length front)) ≡ length (front ++ packet_bytes p) =
    ap (λ (h : ℕ). length front + packet_size h) (header_read p front rest sound.0) ∙ ap (λ (k : ℕ). length front + k) (size_of_packet p sound.0) ∙ sym (length-append front (packet_bytes p)) in
    let go = walk_packets left ps (front ++ packet_bytes p) sound.1 (omega (arith, room, least, long)) in
    walk_step left block (length front) (length (front ++ packet_bytes p)) p ps (omega (arith, least, long, whole)) (packet_there p front rest sound.0) next
    (ap (λ (xs : List ℕ). packets_in left xs (length (front ++ packet_bytes p))) grouped ∙ go)

-- a transfer without a fault
pub transfer_read : (bytes : List ℕ) → AreBytes bytes → fault_from bytes 0 ≡ None → IsTransfer bytes (packets_from bytes 0)
unfolding packets_from
transfer_read bytes small none =
    let r = packets_sound (length bytes) bytes 0 small (omega arith) (sym (fault_start bytes) ∙ none) in
    let spelled : bytes ≡ flat_map packet_bytes r.0 = r.2 in
    let same : packets_in (length bytes - 0) bytes 0 ≡ r.0 =
    ap (λ (xs : List ℕ). packets_in (length xs - 0) xs 0) spelled ∙ walk_packets (length (flat_map packet_bytes r.0) - 0) r.0 [] r.1 (omega arith) in
    record { sound = subst (AllByRecursion IsPacket) (sym same) r.1; spelled = spelled ∙ ap (flat_map packet_bytes) (sym same) }

-- the slices of the bytes behind a packet, from those of the bytes with it at the front's end
slices_on : (packet front rest : List ℕ) (end : ℕ) (ps : List Packet) → length (front ++ packet) ≡ end
    → map (slice_at ((front ++ packet) ++ rest)) (frame_places (length (front ++ packet)) ps) ≡ frames_in ps
    → map (slice_at (front ++ (packet ++ rest))) (frame_places end ps) ≡ frames_in ps
slices_on packet front rest end ps long go =
    ap (λ (xs : List ℕ). map (slice_at xs) (frame_places end ps)) (sym (append_assoc front packet rest))
    ∙ ap (λ (n : ℕ). map (slice_at ((front ++ packet) ++ rest)) (frame_places n ps)) (sym long) ∙ go

-- the frames stand at their places
frames_slices : (packets : List Packet) (front : List ℕ) → map (slice_at (front ++ flat_map packet_bytes packets)) (frame_places (length front) packets) ≡ frames_in packets
frames_slices [] front = refl
frames_slices (Data frame ∷ ps) front =
    let rest = flat_map packet_bytes ps in
    let first = frame_there frame front rest (length frame) refl in
    let others = slices_on (packet_bytes (Data frame)) front rest (length front + length frame + 6) ps (data_end front frame) (frames_slices ps (front ++ packet_bytes (Data frame))) in
    cc
frames_slices (Command h echo ∷ ps) front = slices_on (packet_bytes (Command h echo)) front (flat_map packet_bytes ps) (length front + length echo + 2) ps (command_end front h echo) (frames_slices ps (front ++ packet_bytes (Command h echo)))
frames_slices (Empty ∷ ps) front = slices_on (packet_bytes Empty) front (flat_map packet_bytes ps) (length front + 2) ps (empty_end front) (frames_slices ps (front ++ packet_bytes Empty))

pub transfer_reads : (bytes : List ℕ) (packets : List Packet) → IsTransfer bytes packets → Reads Eem bytes (frames_in packets) (command_count packets)
transfer_reads bytes packets t = record {
  places = frame_places 0 packets;
  found = record { packets = packets; sound = t.sound; spelled = t.spelled; frames = refl; counted = refl };
  sliced = sym (ap (λ (xs : List ℕ). map (slice_at xs) (frame_places 0 packets)) t.spelled ∙ frames_slices packets []);
}

-- a transfer whose checks found no fault
pub sound_start : (bytes : List ℕ) → None ≡ eem_fault bytes → IsSound bytes 0
sound_start bytes none = record { within = omega arith; none = fault_start bytes ∙ sym none }
