-- The laws of EEM.
use Rattle.std.proofs.Common.{◌≡◌, ℕ, zero, suc, ◌+◌, ◌*◌, ◌%◌, ◌<◌, ◌≤◌, ◌==◌, ◌||◌, Bool, true, false, nat_le, if◌then◌else◌, List, [], ◌∷◌, ◌++◌, length, map, flat_map, IsTrue, refl, sym, ap, ◌∙◌, subst, arith, append-nil, append_assoc, length-append}
use Rattle.std.proofs.lemmas.Bool.{and_parts, leb-true}
use Rattle.std.proofs.lemmas.Bool.Decides.{nat_tests}
use Rattle.std.proofs.lemmas.List.{length-map}
use Rattle.std.proofs.lemmas.List.Sums.{sum_by-cons}
use Rattle.std.proofs.Math.Nat.{le-max_right}
use Rattle.std.specs.List.{AllByRecursion, sum_by}
use Rattle.un_frame.specs.declared.params.Params.{Params}
use Rattle.un_frame.specs.Bytes.{Place, number_at, number_bytes}
use Rattle.un_frame.specs.Classes.{eem, eem_capacity}
use Rattle.un_frame.specs.Eem.{Packet, Data, Command, Empty, SENTINEL, IsPacket, packet_bytes, frame_places, command_count, is_data, packet_size, packets_size, packets_fit, eem_form}
use Rattle.un_frame.specs.Places.{eem_places, spaced_places}
use Rattle.un_frame.specs.Wire.{InTurn}
use Rattle.un_frame.proofs.ClassLaws.{AreLong, AreParts, ClassLaws, IsReadBack}
use Rattle.un_frame.proofs.EemLemmas.{eem_sound, eem_exact, one_spelling}
use Rattle.un_frame.proofs.EemPlaces.{walk_places}
use Rattle.un_frame.proofs.FrameSizes.{fit_together, one_more, none_or, slices-between, slices-spaced, weight}
use Rattle.un_frame.proofs.NtbFormLemmas.{length-number_bytes}

-- READING

-- the frames of packets stand among their bytes
packets_parts : (size at : ℕ) (packets : List Packet) → AllByRecursion IsPacket packets → at + length (flat_map packet_bytes packets) ≤ size → AreParts size (frame_places at packets)
packets_parts size at [] sound h = tt
packets_parts size at (Data frame ∷ rest) sound h =
    let l : length (flat_map packet_bytes (Data frame ∷ rest)) ≡ length frame + 6 + length (flat_map packet_bytes rest) = simp (length-append, length-number_bytes) (omega arith) in
    let least : 14 ≤ length frame = sound.0.0 in
    (record { least = least; inside = omega arith }, packets_parts size (at + length frame + 6) rest sound.1 (omega arith))
packets_parts size at (Command header echo ∷ rest) sound h =
    let l : length (flat_map packet_bytes (Command header echo ∷ rest)) ≡ length echo + 2 + length (flat_map packet_bytes rest) = simp (length-append, length-number_bytes) (omega arith) in
    packets_parts size (at + length echo + 2) rest sound.1 (omega arith)
packets_parts size at (Empty ∷ rest) sound h =
    let l : length (flat_map packet_bytes (Empty ∷ rest)) ≡ 2 + length (flat_map packet_bytes rest) = simp (length-append, length-number_bytes) (omega arith) in
    packets_parts size (at + 2) rest sound.1 (omega arith)

-- the packets that are data are no more than bytes
packets_few : (left : ℕ) (bytes : List ℕ) (at : ℕ) → length (eem_places left bytes at) ≤ left
unfolding eem_places
packets_few zero bytes at = omega arith
packets_few (suc left) bytes at =
    none_or (nat_le (length bytes) at) _ (suc left)
    (one_more (is_data (number_at 2 bytes at)) _ (eem_places left bytes (at + packet_size (number_at 2 bytes at))) left (packets_few left bytes (at + packet_size (number_at 2 bytes at))))

-- WRITING

-- the empty packet at the end is short
pub padded-short : (packets : List ℕ) (b : Bool) → length (packets ++ (if b then packet_bytes Empty else [])) ≤ length packets + 2
padded-short packets true = simp (length-append, length-number_bytes) (omega arith)
padded-short packets false = simp length-append (omega arith)

data_long : (frame : List ℕ) → length (packet_bytes (Data frame)) ≡ length frame + 6
data_long frame = simp (length-append, length-number_bytes) (omega arith)

-- the packets of frames, with the empty one behind them or not
abbrev data_of : List (List ℕ) → Bool → List Packet
data_of [] true = Empty ∷ []
data_of [] false = []
data_of (frame ∷ rest) b = Data frame ∷ data_of rest b

data_spelled : (frames : List (List ℕ)) (b : Bool) → flat_map (λ frame. packet_bytes (Data frame)) frames ++ (if b then packet_bytes Empty else []) ≡ flat_map packet_bytes (data_of frames b)
data_spelled [] true = sym (append-nil (packet_bytes Empty))
data_spelled [] false = refl
data_spelled (x ∷ xs) b =
    append_assoc (packet_bytes (Data x)) (flat_map (λ frame. packet_bytes (Data frame)) xs) (if b then packet_bytes Empty else [])
    ∙ ap (λ (ys : List ℕ). packet_bytes (Data x) ++ ys) (data_spelled xs b)

data_sound : (most : ℕ) (frames : List (List ℕ)) (b : Bool) → most ≤ 8192 → AreLong frames → AllByRecursion (λ size. size ≤ most) (map length frames) → AllByRecursion IsPacket (data_of frames b)
data_sound most [] true low long small = (tt, tt)
data_sound most [] false low long small = tt
data_sound most (x ∷ xs) b low long small = ((long.0, let first = small.0 in omega (arith, low, first)), data_sound most xs b low long.1 small.1)

data_places : (at : ℕ) (frames : List (List ℕ)) (b : Bool) → spaced_places 2 4 at (map length frames) ≡ frame_places at (data_of frames b)
data_places at [] true = refl
data_places at [] false = refl
data_places at (x ∷ xs) b =
    let next : at + 2 + length x + 4 ≡ at + length x + 6 = omega arith in
    ap (λ (places : List Place). record { at = at + 2; size = length x } ∷ places) (ap (λ (n : ℕ). spaced_places 2 4 n (map length xs)) next ∙ data_places (at + length x + 6) xs b)

data_only : (frames : List (List ℕ)) (b : Bool) → 0 ≡ command_count (data_of frames b)
data_only [] true = refl
data_only [] false = refl
data_only (x ∷ xs) b = data_only xs b

-- the packets of frames have the bytes that the frames' sizes say
pub data_size : (frames : List (List ℕ)) → length (flat_map (λ frame. packet_bytes (Data frame)) frames) ≡ packets_size (map length frames)
data_size [] = refl
data_size (x ∷ xs) =
    let ih = data_size xs in
    let packet = data_long x in
    let long = length-append (packet_bytes (Data x)) (flat_map (λ frame. packet_bytes (Data frame)) xs) in
    let sum : packets_size (length x ∷ map length xs) ≡ length x + 6 + packets_size (map length xs) = sum_by-cons (λ size. size + 6) (length x) (map length xs) in
    omega (arith, ih, packet, long, sum)

-- frames that fit in turn have a segment each at most
turn_small : (p : Params) (before sizes : List ℕ) → InTurn (eem.fits p) before sizes → AllByRecursion (λ size. size ≤ p.segment) sizes
turn_small p before [] fits = tt
turn_small p before (x ∷ xs) fits =
    (leb-true x p.segment (and_parts (nat_le x p.segment) (packets_fit (eem_capacity p) p.datagrams (before ++ x ∷ [])) fits.0).0, turn_small p (before ++ x ∷ []) xs fits.1)

-- packets that fit have room for an empty one behind them
pub fit_within : (most limit : ℕ) (sizes : List ℕ) → packets_fit most limit sizes ≡ true → packets_size sizes + 2 ≤ most
fit_within most limit sizes fits = leb-true (packets_size sizes + 2) most (and_parts (nat_le (packets_size sizes + 2) most) ((limit == 0) || nat_le (length sizes) limit) fits).0

packets_within : (p : Params) (frames : List (List ℕ)) → 1 ≤ length frames → InTurn (eem.fits p) [] (map length frames) → length (eem_form p.packet frames) ≤ eem_capacity p
packets_within p frames some fits =
    let t = fit_together (eem.fits p) (map length frames) (rw (length-map frames (λ (x : List ℕ). length x)) some) fits in
    let together = (and_parts (nat_le t.1 p.segment) (packets_fit (eem_capacity p) p.datagrams (t.0 ++ t.1 ∷ [])) t.3).1 in
    let within = fit_within (eem_capacity p) p.datagrams (map length frames) (ap (packets_fit (eem_capacity p) p.datagrams) t.2 ∙ together) in
    let packets = flat_map (λ frame. packet_bytes (Data frame)) frames in
    let size = data_size frames in
    let padded = padded-short packets (length packets % p.packet == 0) in
    omega (arith, within, size, padded)

packets_read : (p : Params) (frames : List (List ℕ)) → p.segment ≤ 8192 → 1 ≤ length frames → AreLong frames → InTurn (eem.fits p) [] (map length frames) → IsReadBack eem (eem_form p.packet frames) frames (eem_capacity p)
packets_read p frames segment some long fits =
    let packets = flat_map (λ frame. packet_bytes (Data frame)) frames in
    let b = length packets % p.packet == 0 in
    record {
      places = spaced_places 2 4 0 (map length frames);
      found = record {
        packets = data_of frames b;
        sound = data_sound p.segment frames b segment long (turn_small p [] (map length frames) fits);
        spelled = data_spelled frames b;
        frames = data_places 0 frames b;
        counted = data_only frames b;
      };
      sliced = sym (slices-between 2 4 (λ x. number_bytes 2 (length x + 4)) SENTINEL (λ x. length-number_bytes 2 (length x + 4)) refl frames [] (if b then packet_bytes Empty else []));
      within = packets_within p frames some fits;
    }

packets-short : (frames : List (List ℕ)) → length (flat_map (λ frame. packet_bytes (Data frame)) frames) + 186 * length frames ≤ sum_by weight frames
packets-short [] = omega arith
packets-short (x ∷ xs) =
    let ih = packets-short xs in
    let sum : sum_by weight (x ∷ xs) ≡ length x + 192 + sum_by weight xs = sum_by-cons weight x xs in
    let packet = data_long x in
    let long = length-append (packet_bytes (Data x)) (flat_map (λ frame. packet_bytes (Data frame)) xs) in
    omega (arith, ih, sum, packet, long)

form-short : (packet : ℕ) (frames : List (List ℕ)) → 1 ≤ length frames → length (eem_form packet frames) ≤ sum_by weight frames
form-short packet frames some =
    let packets = flat_map (λ frame. packet_bytes (Data frame)) frames in
    let short = packets-short frames in
    let padded = padded-short packets (length packets % packet == 0) in
    omega (arith, short, padded, some)

-- a form begins with a packet
form_some : (packet : ℕ) (frame : List ℕ) (rest : List (List ℕ)) → 0 < length (eem_form packet (frame ∷ rest))
form_some packet frame rest =
    let packets = flat_map (λ f. packet_bytes (Data f)) rest in
    let all = packet_bytes (Data frame) ++ packets in
    let padded = length-append all (if length all % packet == 0 then packet_bytes Empty else []) in
    let parts = length-append (packet_bytes (Data frame)) packets in
    let long = data_long frame in
    omega (arith, padded, parts, long)

-- WHAT FITS

-- a frame that fits an empty transfer has a segment at most
alone_low : (p : Params) (size : ℕ) → IsTrue (eem.fits p [] size) → nat_le size p.segment ≡ true
alone_low p size t = (and_parts (nat_le size p.segment) (packets_fit (eem_capacity p) p.datagrams (size ∷ [])) t).0

segment_fits : (p : Params) (size : ℕ) → size ≤ p.segment → IsTrue (eem.fits p [] size)
segment_fits p size low =
    let room = le-max_right p.block (p.segment + 8) in
    grind (arith, nat_tests, room)

alone_within : (p : Params) (size : ℕ) → IsTrue (eem.fits p [] size) → size ≤ eem_capacity p
alone_within p size t =
    let low = leb-true size p.segment (alone_low p size t) in
    let room = le-max_right p.block (p.segment + 8) in
    omega (arith, low, room)

pub eem_laws : ClassLaws eem
eem_laws = record {
  exact = λ bytes small. (eem_sound bytes small, λ r. eem_exact bytes r.0 r.1 r.2);
  one = λ bytes ps qs m n p q.
      let same = one_spelling p.packets q.packets p.sound q.sound (sym p.spelled ∙ q.spelled) in
      (p.frames ∙ ap (frame_places 0) same ∙ sym q.frames, p.counted ∙ ap command_count same ∙ sym q.counted);
  parts = λ bytes places commands r. ap (λ (xs : List ℕ). eem_places (length xs) xs 0) r.spelled ∙ walk_places (length (flat_map packet_bytes r.packets)) r.packets [] r.sound (omega arith) ∙ sym r.frames;
  inside = λ bytes places commands r.
      let whole = ap (λ (xs : List ℕ). length xs) r.spelled in
      subst (AreParts (length bytes)) (sym r.frames) (packets_parts (length bytes) 0 r.packets r.sound (omega (arith, whole)));
  few = λ bytes small. packets_few (length bytes) bytes 0;
  countable = λ size below. below;
  read = λ p serial frames block segment some long fits. packets_read p frames segment some long fits;
  short = λ p serial frames range some. form-short p.packet frames some;
  some = λ p serial frame rest long. form_some p.packet frame rest;
  found = λ p frames. slices-spaced 2 4 (λ x. number_bytes 2 (length x + 4)) SENTINEL (λ x. length-number_bytes 2 (length x + 4)) refl frames;
  segment = λ p size some agree low. segment_fits p size low;
  within = λ p size t. alone_within p size t;
  together = λ lane p sizes size packed alone. rw (alone_low p size alone) refl;
}
