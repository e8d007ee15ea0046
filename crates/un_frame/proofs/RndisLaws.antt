-- The laws of RNDIS.
use Rattle.std.proofs.Common.{◌≡◌, ℕ, zero, suc, ◌+◌, ◌<◌, ◌≤◌, ◌^◌, List, [], ◌∷◌, ◌++◌, length, map, flat_map, refl, sym, ap, ◌∙◌, subst, arith, append-nil, append_assoc, length-append}
use Rattle.std.proofs.lemmas.Bool.{false≢true}
use Rattle.std.proofs.lemmas.Bool.Decides.{nat_tests}
use Rattle.std.proofs.lemmas.List.Sums.{sum_by-cons}
use Rattle.std.specs.List.{AllByRecursion, concat, sum_by}
use Rattle.un_frame.specs.declared.params.Params.{Params}
use Rattle.un_frame.specs.Bytes.{Place, number_at, number_bytes, slice_at, zeros}
use Rattle.un_frame.specs.Classes.{rndis}
use Rattle.un_frame.specs.Places.{spaced_places}
use Rattle.un_frame.specs.Rndis.{IsMessage, RndisReads, data_length, data_offset, is_past, message_bytes, message_frame, message_header, message_length, message_places, message_type, rndis_places}
use Rattle.un_frame.specs.Wire.{InTurn}
use Rattle.un_frame.proofs.ClassLaws.{AreLong, AreParts, ClassLaws, IsReadBack}
use Rattle.un_frame.proofs.EcmLaws.{one_alone}
use Rattle.un_frame.proofs.FrameSizes.{none_or, slices-spaced, weight}
use Rattle.un_frame.proofs.NtbFormLemmas.{length-number_bytes, length-zeros, number_at-bytes}
use Rattle.un_frame.proofs.RndisLemmas.{rndis_found, rndis_sound}

-- READING

-- the frames of messages stand among their bytes
messages_parts : (size at : ℕ) (messages : List (List ℕ)) → AllByRecursion IsMessage messages → at + length (concat messages) ≤ size → AreParts size (message_places at messages)
messages_parts size at [] sound h = tt
messages_parts size at (m ∷ ms) sound h =
    let long = length-append m (concat ms) in
    let inside = sound.0.inside in
    (record { least = sound.0.least; inside = omega (arith, h, long, inside) }, messages_parts size (at + length m) ms sound.1 (omega (arith, h, long)))

-- there are no more of them than bytes
messages_few : (left : ℕ) (bytes : List ℕ) (at : ℕ) → length (rndis_places left bytes at) ≤ left
unfolding rndis_places
messages_few zero bytes at = omega arith
messages_few (suc left) bytes at =
    let next = at + message_length bytes at in
    let ih = messages_few left bytes next in
    none_or (is_past bytes at) (message_frame bytes at ∷ rndis_places left bytes next) (suc left) (omega (arith, ih))

-- WRITING

header_long : (size : ℕ) → length (message_header size) ≡ 44
header_long size = simp (length-append, length-number_bytes, length-zeros) (omega arith)

pub message_long : (frame : List ℕ) → length (message_bytes frame) ≡ length frame + 44
message_long frame = let header = header_long (length frame) in let whole = length-append (message_header (length frame)) frame in omega (arith, header, whole)

-- the numbers of a message that a writer makes
module _ (frame : List ℕ) (low : length frame + 44 < 256 ^ 4) where
  kind_read : message_type (message_bytes frame) 0 ≡ 1
  kind_read =
      let rest = number_bytes 4 (length frame + 44) ++ (number_bytes 4 36 ++ (number_bytes 4 (length frame) ++ (zeros 28 ++ frame))) in
      let grouped : message_bytes frame ≡ ([] ++ number_bytes 4 1) ++ rest = simp append_assoc in
      ap (λ (xs : List ℕ). number_at 4 xs 0) grouped ∙ number_at-bytes 4 1 [] rest 0 (omega arith) refl

  length_read : message_length (message_bytes frame) 0 ≡ length frame + 44
  length_read =
      let front = number_bytes 4 1 in
      let rest = number_bytes 4 36 ++ (number_bytes 4 (length frame) ++ (zeros 28 ++ frame)) in
      let grouped : message_bytes frame ≡ (front ++ number_bytes 4 (length frame + 44)) ++ rest = simp append_assoc in
      ap (λ (xs : List ℕ). number_at 4 xs 4) grouped ∙ number_at-bytes 4 (length frame + 44) front rest 4 low (sym (length-number_bytes 4 1))

  offset_read : data_offset (message_bytes frame) 0 ≡ 36
  offset_read =
      let front = number_bytes 4 1 ++ number_bytes 4 (length frame + 44) in
      let rest = number_bytes 4 (length frame) ++ (zeros 28 ++ frame) in
      let grouped : message_bytes frame ≡ (front ++ number_bytes 4 36) ++ rest = simp append_assoc in
      ap (λ (xs : List ℕ). number_at 4 xs 8) grouped ∙ number_at-bytes 4 36 front rest 8 (omega arith) (sym (simp (length-append, length-number_bytes) (omega arith)))

  size_read : data_length (message_bytes frame) 0 ≡ length frame
  size_read =
      let front = number_bytes 4 1 ++ number_bytes 4 (length frame + 44) ++ number_bytes 4 36 in
      let rest = zeros 28 ++ frame in
      let grouped : message_bytes frame ≡ (front ++ number_bytes 4 (length frame)) ++ rest = simp append_assoc in
      ap (λ (xs : List ℕ). number_at 4 xs 12) grouped ∙ number_at-bytes 4 (length frame) front rest 12 (omega (arith, low)) (sym (simp (length-append, length-number_bytes) (omega arith)))

  message_sound : 14 ≤ length frame → IsMessage (message_bytes frame)
  message_sound least =
      let whole = message_long frame in
      let offset = offset_read in
      let size = size_read in
      record {
        is_data = kind_read;
        whole = length_read ∙ sym whole;
        past_the_header = omega (arith, offset);
        least = omega (arith, size, least);
        inside = omega (arith, whole, offset, size);
      }

  message_place : record { at = 44; size = length frame } ∷ [] ≡ message_places 0 (message_bytes frame ∷ [])
  message_place =
      ap (λ (k : ℕ). record { at = 8 + k; size = length frame } ∷ []) (sym offset_read)
      ∙ ap (λ (k : ℕ). record { at = 8 + data_offset (message_bytes frame) 0; size = k } ∷ []) (sym size_read)

messages-spaced : (frames : List (List ℕ)) → flat_map message_bytes frames ≡ flat_map (λ x. (message_header (length x) ++ x) ++ []) frames
messages-spaced [] = refl
messages-spaced (x ∷ xs) = rw (append-nil (message_bytes x), messages-spaced xs) refl

-- the frames of messages are found by their sizes
messages_sliced : (frames : List (List ℕ)) → map (slice_at (flat_map message_bytes frames)) (spaced_places 44 0 0 (map length frames)) ≡ frames
messages_sliced frames = ap (λ (xs : List ℕ). map (slice_at xs) (spaced_places 44 0 0 (map length frames))) (messages-spaced frames) ∙ slices-spaced 44 0 (λ x. message_header (length x)) [] (λ x. header_long (length x)) refl frames

-- a message is read as its frame
message_read : (frame : List ℕ) (segment : ℕ) → segment ≤ 8192 → 14 ≤ length frame → length frame ≤ segment → IsReadBack rndis (flat_map message_bytes (frame ∷ [])) (frame ∷ []) (segment + 44)
message_read frame segment small least within =
    let low : length frame + 44 < 256 ^ 4 = omega (arith, small, within) in
    record {
      places = spaced_places 44 0 0 (map length (frame ∷ []));
      found = (
        record {
          messages = message_bytes frame ∷ [];
          further = [];
          sound = (message_sound frame low least, tt);
          follows = record { most = omega arith; after_one = λ none. refl };
          spelled = sym (append-nil (message_bytes frame ++ []));
          frames = message_place frame low;
        },
        refl,
      );
      sliced = sym (messages_sliced (frame ∷ []));
      within = let long = message_long frame in rw (append-nil (message_bytes frame)) (omega (arith, long, within));
    }

frames_read : (p : Params) (frames : List (List ℕ)) → p.segment ≤ 8192 → 1 ≤ length frames → AreLong frames → InTurn (rndis.fits p) [] (map length frames) → IsReadBack rndis (flat_map message_bytes frames) frames (p.segment + 44)
frames_read p frames small some long fits =
    let one = one_alone p frames some fits in
    subst (λ (fs : List (List ℕ)). IsReadBack rndis (flat_map message_bytes fs) fs (p.segment + 44)) (sym one.1) (message_read one.0 p.segment small (subst AreLong one.1 long).0 one.2)

messages-short : (frames : List (List ℕ)) → length (flat_map message_bytes frames) ≤ sum_by weight frames
messages-short [] = omega arith
messages-short (x ∷ xs) =
    let ih = messages-short xs in
    let sum : sum_by weight (x ∷ xs) ≡ length x + 192 + sum_by weight xs = sum_by-cons weight x xs in
    let message = message_long x in
    let long = length-append (message_bytes x) (flat_map message_bytes xs) in
    omega (arith, ih, sum, message, long)

-- a form begins with a message
form_some : (frame : List ℕ) (rest : List (List ℕ)) → 0 < length (flat_map message_bytes (frame ∷ rest))
form_some frame rest =
    let message = message_long frame in
    let long = length-append (message_bytes frame) (flat_map message_bytes rest) in
    omega (arith, message, long)

-- what is read has its frames at the places that the walk finds
places_found : (bytes : List ℕ) (places : List Place) → RndisReads bytes places → rndis_places (length bytes) bytes 0 ≡ places
places_found bytes places r = (rndis_found bytes places r).frames

pub rndis_laws : ClassLaws rndis
rndis_laws = record {
  exact = λ bytes small. (λ none. (rndis_places (length bytes) bytes 0, 0, (rndis_sound bytes none, refl)), λ r. (rndis_found bytes r.0 r.2.0).none);
  one = λ bytes ps qs m n p q. (sym (places_found bytes ps p.0) ∙ places_found bytes qs q.0, p.1 ∙ sym q.1);
  parts = λ bytes places commands r. places_found bytes places r.0;
  inside = λ bytes places commands r.
      let whole = ap (λ (xs : List ℕ). length xs) r.0.spelled ∙ length-append (concat r.0.messages) r.0.further in
      subst (AreParts (length bytes)) (sym r.0.frames) (messages_parts (length bytes) 0 r.0.messages r.0.sound (omega (arith, whole)));
  few = λ bytes small. messages_few (length bytes) bytes 0;
  countable = λ size below. below;
  read = λ p serial frames block segment some long fits. frames_read p frames segment some long fits;
  short = λ p serial frames range some. messages-short frames;
  some = λ p serial frame rest long. form_some frame rest;
  found = λ p frames. messages_sliced frames;
  segment = λ p size some agree low. grind (arith, nat_tests);
  within = λ p size t. let low : size ≤ p.segment = grind (arith, nat_tests, t) in omega (arith, low);
  together = λ lane p sizes size packed alone. absurd (false≢true packed);
}
