-- The laws of NCM, over a format.
use Rattle.std.proofs.Common.{◌≡◌, ℕ, zero, suc, ◌+◌, ◌-◌, ◌*◌, ◌<◌, ◌≤◌, ◌^◌, ◌%◌, ◌==◌, Bool, true, false, if◌then◌else◌, List, [], ◌∷◌, ◌++◌, length, take, map, refl, sym, ap, ◌∙◌, arith, inl, inr, append-nil, length-append, length-take, mul-le-mul_right}
use Rattle.std.proofs.Math.Nat.{div-le_self}
use Rattle.std.proofs.lemmas.Bool.{cases_lt}
use Rattle.std.proofs.lemmas.Bool.Decides.{nat_tests}
use Rattle.std.proofs.lemmas.List.{length-map}
use Rattle.std.proofs.lemmas.List.Sums.{sum_by-cons}
use Rattle.std.specs.List.{AllByRecursion, sum_by}
use Rattle.std.specs.Prelude.{codes}
use Rattle.un_frame.specs.declared.params.Params.{Params}
use Rattle.un_frame.specs.Blocks.{BlocksAgree, layout_of}
use Rattle.un_frame.specs.Bytes.{AreBytes, Place, number_at, number_bytes, slice_at, zeros}
use Rattle.un_frame.specs.Classes.{ncm, ncm16, ncm32}
use Rattle.un_frame.specs.Ntb.{Format, IsDatagram, MOST_TABLES, block_length, block_of, datagrams, is_null, next_table, ntb16, ntb32, pair_at, pair_count, table_datagrams, table_length}
use Rattle.un_frame.specs.NtbCursor.{chain_datagrams}
use Rattle.un_frame.specs.NtbForm.{Layout, block_fits, closed_size, datagram_bytes, datagram_place, datagram_places, datagrams_end, least_multiple, ntb_form, open_block}
use Rattle.un_frame.specs.Places.{ntb_places}
use Rattle.un_frame.specs.Wire.{InTurn}
use Rattle.un_frame.proofs.ClassLaws.{AreLong, AreParts, ClassLaws, IsReadBack}
use Rattle.un_frame.proofs.EemLemmas.{number_at-below}
use Rattle.un_frame.proofs.FrameSizes.{fit_together, none_or, weight}
use Rattle.un_frame.proofs.NtbCursorLemmas.{left-read, ntb16_known, ntb32_known}
use Rattle.un_frame.proofs.NtbFormLemmas.{closed_fits_within, least_multiple_from, least_multiple_near, least_place_near, length-number_bytes, length-zeros}
use Rattle.un_frame.proofs.NtbFormReads.{IsWritable, length-block, reads, slices-datagrams, slices-read}
use Rattle.un_frame.proofs.NtbLemmas.{IsFormat, ntb_sound, ntb_exact, one_reading}
use Rattle.un_frame.proofs.PlaceLemmas.{IsLeastMultiple-least_multiple}

pub ntb16_writable : IsWritable ntb16
ntb16_writable = record { four = refl; table_four = refl; some = omega arith; header = refl; small = omega arith; first = refl; pair = refl; next = omega arith; head = omega arith }

pub ntb32_writable : IsWritable ntb32
ntb32_writable = record { four = refl; table_four = refl; some = omega arith; header = refl; small = omega arith; first = refl; pair = refl; next = omega arith; head = omega arith }

-- what the laws need of a format, and of the largest block in it
pub record IsSound (f : Format) (most : ℕ) : Type 0 where
  pub known : IsFormat f
  pub writable : IsWritable f
  pub whole : f.head % f.pair ≡ 0
  pub header : f.header ≤ 16
  pub head : f.head ≤ 16
  pub pair : f.pair ≤ 8
  pub large : most < 256 ^ f.width

-- READING

-- a block is no longer than the bytes
block_among : (f : Format) (bytes : List ℕ) → length (block_of f bytes) ≤ length bytes
block_among f bytes = go (block_length f bytes == 0)
  where
    go : (b : Bool) → length (if b then bytes else take (block_length f bytes) bytes) ≤ length bytes
    go true = omega arith
    go false = omega (arith, length-take (block_length f bytes) bytes)

datagrams_parts : (f : Format) (bytes : List ℕ) (places : List Place) → AllByRecursion (IsDatagram f (block_of f bytes)) places → AreParts (length bytes) places
datagrams_parts f bytes [] a = tt
datagrams_parts f bytes (place ∷ places) a =
    let low : length (block_of f bytes) ≤ length bytes = block_among f bytes in
    let inside : place.at + place.size ≤ length (block_of f bytes) = a.0.inside in
    (record { least = a.0.least; inside = omega arith }, datagrams_parts f bytes places a.1)

-- the datagrams of a table are no more than its pairs, and the pairs no more than its bytes
pairs_few : (f : Format) (block : List ℕ) (pairs at : ℕ) → length (datagrams f block pairs at) ≤ pairs
unfolding datagrams
pairs_few f block zero at = omega arith
pairs_few f block (suc pairs) at =
    none_or (is_null (pair_at f block at)) (pair_at f block at ∷ datagrams f block pairs (at + f.pair)) (suc pairs)
    (let few = pairs_few f block pairs (at + f.pair) in omega (arith, few))

table_few : (f : Format) (block : List ℕ) (at : ℕ) → AreBytes block → length (table_datagrams f block at) ≤ 65535
table_few f block at small =
    let few = pairs_few f block (pair_count f block at) (at + f.head) in
    let part = div-le_self (table_length block at - f.head) f.pair in
    let below = number_at-below block (at + 4) small in
    omega (arith, few, part, below)

tables_few : (f : Format) (block : List ℕ) (tables index : ℕ) → AreBytes block → length (chain_datagrams f block tables index) ≤ tables * 65535
unfolding chain_datagrams
tables_few f block zero index small = omega arith
tables_few f block (suc tables) index small =
    none_or (index == 0) (table_datagrams f block index ++ chain_datagrams f block tables (next_table f block index)) (suc tables * 65535)
    (let here = table_few f block index small in
    let rest = tables_few f block tables (next_table f block index) small in
    let both = length-append (table_datagrams f block index) (chain_datagrams f block tables (next_table f block index)) in
    omega (arith, here, rest, both))

-- the bytes of a block are bytes
front_bytes : (n : ℕ) (bytes : List ℕ) → AreBytes bytes → AreBytes (take n bytes)
front_bytes zero bytes small i = omega arith
front_bytes (suc n) [] small i = omega arith
front_bytes (suc n) (b ∷ bytes) small zero = small 0
front_bytes (suc n) (b ∷ bytes) small (suc i) = front_bytes n bytes (λ j. small (suc j)) i

block_bytes : (f : Format) (bytes : List ℕ) → AreBytes bytes → AreBytes (block_of f bytes)
block_bytes f bytes small = by_test (block_length f bytes == 0) where
  by_test : (b : Bool) → AreBytes (if b then bytes else take (block_length f bytes) bytes)
  by_test true = small
  by_test false = front_bytes (block_length f bytes) bytes small

block_few : (f : Format) (bytes : List ℕ) → AreBytes bytes → length (ntb_places f bytes) ≤ MOST_TABLES * 65535
unfolding datagrams
block_few f bytes small = tables_few f (block_of f bytes) MOST_TABLES (number_at f.width (block_of f bytes) f.ndp_index) (block_bytes f bytes small)

-- WRITING

-- the least multiple rises with the place that it is sought from
pub least_multiple_rises : (a b alignment : ℕ) → 0 < alignment → a ≤ b → least_multiple a alignment ≤ least_multiple b alignment
least_multiple_rises a b alignment some low =
    let x = IsLeastMultiple-least_multiple a alignment some in
    let y = IsLeastMultiple-least_multiple b alignment some in
    elim (cases_lt (least_multiple b alignment) (least_multiple a alignment)) [
      | inl below ↦ absurd (x.least (least_multiple b alignment) (let from = y.from in omega (arith, low, from)) below y.has)
      | inr above ↦ above
    ]

-- a block of one frame is no larger than a block of one segment
block_fits_one : (f : Format) (p : Params) (size : ℕ) → f.head + f.pair * 2 ≤ 65535 → 0 < p.alignment → BlocksAgree f p → size ≤ p.segment → block_fits f (layout_of p) p.block p.datagrams (size ∷ []) ≡ true
unfolding datagrams_end
block_fits_one f p size small some agree low =
    let rises = least_multiple_rises (datagram_place (layout_of p) f.header + size) (datagram_place (layout_of p) f.header + p.segment) p.alignment some (omega (arith, low)) in
    let largest = agree.largest in
    let fits : closed_size f p.alignment (datagram_place (layout_of p) f.header + size) 1 ≤ p.block = omega (arith, rises, largest) in
    grind (arith, nat_tests, fits, small)

-- what frames take

-- datagrams with their padding leave 129 bytes of each frame's 192
datagrams_end-short : (l : Layout) (end : ℕ) (frames : List (List ℕ)) → 0 < l.divisor → l.divisor ≤ 64 → datagrams_end l end (map length frames) + 129 * length frames ≤ end + sum_by weight frames
unfolding datagrams_end
datagrams_end-short l end [] some most = omega arith
datagrams_end-short l end (x ∷ xs) some most =
    let near = least_place_near end l.divisor l.remainder some in
    let ih = datagrams_end-short l (datagram_place l end + length x) xs some most in
    let sum : sum_by weight (x ∷ xs) ≡ length x + 192 + sum_by weight xs = sum_by-cons weight x xs in
    omega (arith, near, ih, sum, most)

block_short : (f : Format) (l : Layout) (serial : ℕ) (frames : List (List ℕ)) → IsWritable f → f.header ≤ 16 → f.head ≤ 16 → f.pair ≤ 8 → 0 < l.divisor → l.divisor ≤ 64 → 0 < l.alignment → l.alignment ≤ 64 → 1 ≤ length frames → length (ntb_form f l serial frames) ≤ sum_by weight frames
block_short f l serial frames known header head pair divisor divisor_most alignment alignment_most some =
    let ends = datagrams_end-short l f.header frames divisor divisor_most in
    let near = least_multiple_near (datagrams_end l f.header (map length frames)) l.alignment alignment in
    let pairs : f.pair * (length frames + 1) ≤ 8 * (length frames + 1) = mul-le-mul_right (length frames + 1) pair in
    rw (length-block f l serial frames known) (omega (arith, ends, near, pairs, header, head, alignment_most, some))

block_slices : (f : Format) (l : Layout) (frames : List (List ℕ)) → length f.signature ≡ 4 → f.header ≡ 8 + 2 * f.width → map (slice_at (open_block f l frames)) (datagram_places l f.header (map length frames)) ≡ frames
block_slices f l frames four header =
    let front = (f.signature ++ number_bytes 2 f.header) ++ zeros (f.header - 6) in
    let long : f.header ≡ length front = sym (simp (length-append, length-number_bytes, length-zeros) (omega (arith, four, header))) in
    let whole : open_block f l frames ≡ front ++ (datagram_bytes l f.header frames ++ []) = ap (λ (xs : List ℕ). front ++ xs) (sym (append-nil (datagram_bytes l f.header frames))) in
    ap (λ (xs : List ℕ). map (slice_at xs) (datagram_places l f.header (map length frames))) whole ∙ slices-datagrams l front [] f.header frames long

-- a block of frames that fit one after the other is read as these
block_is_read : (f : Format) (word : List ℕ) (most : ℕ) (p : Params) (serial : ℕ) (frames : List (List ℕ)) → IsSound f most → p.block ≤ most → 1 ≤ length frames → AreLong frames → block_fits f (layout_of p) p.block p.datagrams (map length frames) ≡ true → IsReadBack (ncm f word most) (ntb_form f (layout_of p) serial frames) frames p.block
block_is_read f word most p serial frames sound block some long fits =
    let n : length (map length frames) ≡ length frames = length-map frames (λ (x : List ℕ). length x) in
    let t = closed_fits_within f p.alignment p.block p.datagrams (datagrams_end (layout_of p) f.header (map length frames)) (length frames) (rw n at fits) in
    let size = length-block f (layout_of p) serial frames sound.writable in
    let large = sound.large in
    record {
      places = datagram_places (layout_of p) f.header (map length frames);
      found = (reads f (layout_of p) serial frames sound.writable sound.whole (omega (arith, t.0, large, block)) (omega (arith, t.1)) some long, refl);
      sliced = sym (slices-read f (layout_of p) serial frames sound.writable);
      within = rw size t.0;
    }

frames_read : (f : Format) (word : List ℕ) (most : ℕ) (p : Params) (serial : ℕ) (frames : List (List ℕ)) → IsSound f most → p.block ≤ most → 1 ≤ length frames → AreLong frames → InTurn ((ncm f word most).fits p) [] (map length frames) → IsReadBack (ncm f word most) (ntb_form f (layout_of p) serial frames) frames p.block
frames_read f word most p serial frames sound block some long fits =
    let t = fit_together ((ncm f word most).fits p) (map length frames) (rw (length-map frames (λ (x : List ℕ). length x)) some) fits in
    block_is_read f word most p serial frames sound block some long (ap (block_fits f (layout_of p) p.block p.datagrams) t.2 ∙ t.3)

-- a frame is no longer than the block that it fits
frame_within : (f : Format) (p : Params) (size : ℕ) → block_fits f (layout_of p) p.block p.datagrams (size ∷ []) ≡ true → size ≤ p.block
unfolding datagrams_end
frame_within f p size fits =
    let end = datagram_place (layout_of p) f.header + size in
    let t = closed_fits_within f p.alignment p.block p.datagrams end 1 fits in
    let from = least_multiple_from end p.alignment in
    let within = t.0 in
    omega (arith, within, from)

-- a block has a table at least
some_bytes : (f : Format) (l : Layout) (serial : ℕ) (frames : List (List ℕ)) → IsWritable f → 0 < length (ntb_form f l serial frames)
some_bytes f l serial frames known =
    let size = length-block f l serial frames known in
    let head = known.head in
    let next = known.next in
    omega (arith, size, head, next)

pub ncm_laws : (f : Format) (word : List ℕ) (most : ℕ) → IsSound f most → ClassLaws (ncm f word most)
ncm_laws f word most sound = record {
  exact = λ bytes small. (λ h. let r = ntb_sound f bytes h in (r.0, 0, (r.1, refl)), λ r. ntb_exact f bytes r.0 sound.known r.2.0);
  one = λ bytes ps qs m n p q. (one_reading f bytes ps qs sound.known p.0 q.0, p.1 ∙ sym q.1);
  parts = λ bytes places commands r. left-read f bytes places sound.known r.0;
  inside = λ bytes places commands r. datagrams_parts f bytes places r.0.sound;
  few = λ bytes small. block_few f bytes small;
  countable = λ size below. omega arith;
  read = λ p serial frames block segment some long fits. frames_read f word most p serial frames sound block some long fits;
  short = λ p serial frames range some.
      let least = range.alignment.0 in
      block_short f (layout_of p) serial frames sound.writable sound.header sound.head sound.pair range.divisor.0 range.divisor.1 (omega (arith, least)) range.alignment.1 some;
  some = λ p serial frame rest long. some_bytes f (layout_of p) serial (frame ∷ rest) sound.writable;
  found = λ p frames. block_slices f (layout_of p) frames sound.writable.four sound.writable.header;
  segment = λ p size some agree low. let head = sound.head in let pair = sound.pair in block_fits_one f p size (omega (arith, head, pair)) some agree low;
  within = λ p size t. frame_within f p size t;
  together = λ lane p sizes size packed alone. refl;
}

pub ncm16_laws : ClassLaws ncm16
ncm16_laws = ncm_laws ntb16 (codes "ncm16") 65535 (record { known = ntb16_known; writable = ntb16_writable; whole = refl; header = omega arith; head = omega arith; pair = omega arith; large = omega arith })

pub ncm32_laws : ClassLaws ncm32
ncm32_laws = ncm_laws ntb32 (codes "ncm32") 262144 (record { known = ntb32_known; writable = ntb32_writable; whole = refl; header = omega arith; head = omega arith; pair = omega arith; large = omega arith })
