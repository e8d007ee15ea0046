-- What a writer keeps when a datagram is appended, and when a block begins or ends.
use Rattle.std.proofs.Common.{true≢false, ◌≡◌, ℕ, suc, ◌+◌, ◌-◌, ◌*◌, ◌%◌, ◌<◌, ◌≤◌, ◌==◌, Bool, true, false, if◌then◌else◌, List, [], ◌∷◌, ◌++◌, length, map, refl, sym, ap, ◌∙◌, arith, vec_capacity, append_assoc, min}
use Rattle.std.proofs.Math.Nat.{le-min, le-div_iff_mul-le}
use Rattle.std.proofs.lemmas.Grind.{common_steps}
use Rattle.std.proofs.lemmas.Bool.Decides.{nat_tests}
use Rattle.std.proofs.lemmas.List.{length-map}
use Rattle.un_frame.specs.Bytes.{Place, zeros}
use Rattle.un_frame.specs.Ntb.{Format}
use Rattle.un_frame.specs.NtbForm.{Layout, least_place, least_multiple, closed_table, closed_fits, block_fits, datagram_places, datagrams_end, IsOpenBlock, open_block, closing_fields, table_bytes, ntb_form}
use Rattle.un_frame.proofs.NtbFormLemmas.{block_fits-append, closed_fits_within, closed_fits_none, datagrams_end-append, datagram_places-append, least_place_from, least_multiple_from, least_multiple_near, length-IsOpenBlock, open_block-append, block_closed}
use Rattle.un_frame.proofs.NtbFormReads.{IsWritable}
use Rattle.un_req.specs.Request.{patched}
use Rattle.un_ntb.specs.Datagrams.{places_of, place_of, size_of}
use Rattle.un_ntb.specs.Writer.{IsWriter, layout_in, most_datagrams, most_held, sizes_in}
use Rattle.un_ntb.specs.declared.table.Datagram.{Datagram}
use Rattle.un_ntb.specs.declared.writer.Writer.TheInside.{Inside}
use Rattle.un_ntb.proofs.FormatLemmas.{IsSmall}

pub length-sizes : (ds : List Datagram) → length (map size_of ds) ≡ length ds
length-sizes [] = refl
length-sizes (d ∷ ds) = ap (λ (n : ℕ). suc n) (length-sizes ds)

pub sizes-append : (ds : List Datagram) (d : Datagram) → map size_of (ds ++ d ∷ []) ≡ map size_of ds ++ d.size ∷ []
sizes-append [] d = refl
sizes-append (e ∷ ds) d = ap (λ (xs : List ℕ). e.size ∷ xs) (sizes-append ds d)

places-append : (ds : List Datagram) (d : Datagram) → places_of (ds ++ d ∷ []) ≡ places_of ds ++ place_of d ∷ []
places-append [] d = refl
places-append (e ∷ ds) d = ap (λ (ps : List Place). place_of e ∷ ps) (places-append ds d)

empty_places : (l : Layout) (header : ℕ) → [] ≡ datagram_places l header []
unfolding datagram_places
empty_places l header = refl

empty_end : (l : Layout) (header : ℕ) → header ≡ datagrams_end l header []
unfolding datagrams_end
empty_end l header = refl

-- an open block with one more datagram
pub open_more : (f : Format) (l : Layout) (sizes bytes : List ℕ) (frames : List (List ℕ)) (frame : List ℕ) → map length frames ≡ sizes → bytes ≡ open_block f l (frames ++ frame ∷ []) → IsOpenBlock f l (sizes ++ length frame ∷ []) bytes (frames ++ frame ∷ [])
open_more f l sizes bytes frames frame lengths is = record { lengths = lengths_more frames ∙ ap (λ (ns : List ℕ). ns ++ length frame ∷ []) lengths; so_far = is } where
  lengths_more : (xs : List (List ℕ)) → map length (xs ++ frame ∷ []) ≡ map length xs ++ length frame ∷ []
  lengths_more [] = refl
  lengths_more (x ∷ xs) = ap (λ (ns : List ℕ). length x ∷ ns) (lengths_more xs)

-- the limit that a block keeps
pub closed_fits_limit : (f : Format) (alignment block limit end count : ℕ) → closed_fits f alignment block limit end count ≡ true → count ≤ most_held f block → count ≤ most_datagrams f block limit
closed_fits_limit f alignment block limit end count h low = by_test (limit == 0) refl where
  by_test : (t : Bool) → (limit == 0) ≡ t → count ≤ (if t then most_held f block else min (most_held f block) limit)
  by_test true is = low
  by_test false is = let within : count ≤ limit = grind (arith, nat_tests, h, is) in le-min low within

-- a block holds as many datagrams as there is room for
few_held : (f : Format) → IsSmall f → (block end count : ℕ) → f.header + 14 * count ≤ end → end + closed_table f count ≤ block → closed_table f count ≤ 65535 → count ≤ most_held f block
few_held f small block end count low size table =
    let spread : f.pair * (count + 1) ≡ count * f.pair + f.pair = grind (arith, common_steps) in
    let wide : count * (14 + f.pair) ≡ 14 * count + count * f.pair = grind (arith, common_steps) in
    le-min
    ((le-div_iff_mul-le (omega arith)).1 (omega (arith, low, size, spread, wide)))
    ((le-div_iff_mul-le (let pair = small.pair.0 in omega (arith, pair))).1 (omega (arith, table, spread)))

-- a table of no datagrams is short
table_none : (f : Format) → IsSmall f → closed_table f 0 ≤ 24
table_none f small = let head = small.head.1 in let pair = small.pair.1 in omega (arith, head, pair)

module _ (f : Format) (known : IsWritable f) (small : IsSmall f) (width : ℕ) (w : Inside width) (i : IsWriter f w) where
  -- whether a datagram fits, by what the writer keeps
  pub fits_next : (size count : ℕ) → count ≡ length w.datagrams.items → block_fits f (layout_in w) w.block w.limit (sizes_in w ++ size ∷ []) ≡ closed_fits f w.alignment w.block w.limit (least_place w.end w.divisor w.remainder + size) (count + 1)
  fits_next size count many =
      block_fits-append f (layout_in w) w.block w.limit (sizes_in w) size w.end count i.end (many ∙ sym (length-sizes w.datagrams.items))

  pub fits_never : (size : ℕ) → w.block < size → block_fits f (layout_in w) w.block w.limit (sizes_in w ++ size ∷ []) ≡ false
  fits_never size long =
      let from = least_place_from w.end w.divisor w.remainder in
      fits_next size (length w.datagrams.items) refl ∙ closed_fits_none f w.alignment w.block w.limit (least_place w.end w.divisor w.remainder + size) (length w.datagrams.items + 1) (omega (arith, from, long))

  -- and whether it fits a new block, where none is open
  pub fits_new : (size : ℕ) (b : Bool) → b ≡ block_fits f (layout_in w) w.block w.limit (sizes_in w ++ size ∷ []) → w.is_open ≡ false → b ≡ block_fits f (layout_in w) w.block w.limit (size ∷ [])
  fits_new size b is shut = is ∙ ap (λ (ds : List Datagram). block_fits f (layout_in w) w.block w.limit (map size_of ds ++ size ∷ [])) (i.nothing_open shut)

  -- what that says in numbers
  pub record Numbers (size : ℕ) : Type 0 where
    pub whole : least_multiple (least_place w.end w.divisor w.remainder + size) w.alignment + closed_table f (length w.datagrams.items + 1) ≤ w.block
    pub table : closed_table f (length w.datagrams.items + 1) ≤ 65535
    pub within : least_place w.end w.divisor w.remainder + size ≤ w.block
    pub room : length w.datagrams.items + 1 ≤ most_datagrams f w.block w.limit

  pub numbers : (size : ℕ) → 14 ≤ size → block_fits f (layout_in w) w.block w.limit (sizes_in w ++ size ∷ []) ≡ true → Numbers size
  numbers size least fits =
      let end = least_place w.end w.divisor w.remainder + size in
      let closed = sym (fits_next size (length w.datagrams.items) refl) ∙ fits in
      let t = closed_fits_within f w.alignment w.block w.limit end (length w.datagrams.items + 1) closed in
      let from = least_multiple_from end w.alignment in
      let place = least_place_from w.end w.divisor w.remainder in
      let many = i.count in
      let within : end ≤ w.block = let whole = t.0 in omega (arith, whole, from) in
      record {
        whole = t.0;
        table = t.1;
        within = within;
        room = closed_fits_limit f w.alignment w.block w.limit end (length w.datagrams.items + 1) closed (few_held f small w.block end (length w.datagrams.items + 1) (omega (arith, place, many, least)) (omega (arith, t.0, from)) t.1);
      }

  -- the bytes of the request reach to the end
  pub reaches : (bytes : List ℕ) (frames : List (List ℕ)) → IsOpenBlock f (layout_in w) (sizes_in w) bytes frames → length bytes ≡ w.end
  reaches bytes frames o = length-IsOpenBlock f (layout_in w) (sizes_in w) bytes frames known.four known.header o ∙ sym i.end

  -- the bytes of the request with one more datagram
  pub appended : (bytes : List ℕ) (frames : List (List ℕ)) (frame : List ℕ) → IsOpenBlock f (layout_in w) (sizes_in w) bytes frames → bytes ++ (zeros (least_place w.end w.divisor w.remainder - w.end) ++ frame) ≡ open_block f (layout_in w) (frames ++ frame ∷ [])
  appended bytes frames frame o =
      let e : datagrams_end (layout_in w) f.header (map length frames) ≡ w.end = ap (datagrams_end (layout_in w) f.header) o.lengths ∙ sym i.end in
      let grown = rw e at (open_block-append f (layout_in w) frames frame) in
      rw o.so_far (sym (append_assoc (open_block f (layout_in w) frames) (zeros (least_place w.end w.divisor w.remainder - w.end)) frame) ∙ sym grown)

  -- the bytes of the request when the block is closed
  pub closed : (bytes : List ℕ) (frames : List (List ℕ)) (serial : ℕ) → IsOpenBlock f (layout_in w) (sizes_in w) bytes frames →
      patched ((bytes ++ zeros (least_multiple w.end w.alignment - w.end)) ++ table_bytes f (places_of w.datagrams.items)) 6 (closing_fields f (serial % 65536) (least_multiple w.end w.alignment + closed_table f (length w.datagrams.items)) (least_multiple w.end w.alignment))
      ≡ ntb_form f (layout_in w) serial frames
  closed bytes frames serial o =
      let e : datagrams_end (layout_in w) f.header (map length frames) ≡ w.end = ap (datagrams_end (layout_in w) f.header) o.lengths ∙ sym i.end in
      let n : length frames ≡ length w.datagrams.items = sym (length-map frames (λ (x : List ℕ). length x)) ∙ ap length o.lengths ∙ length-sizes w.datagrams.items in
      let p : datagram_places (layout_in w) f.header (map length frames) ≡ places_of w.datagrams.items = ap (datagram_places (layout_in w) f.header) o.lengths ∙ sym i.places in
      let table = least_multiple w.end w.alignment in
      let whole = block_closed f (layout_in w) frames (serial % 65536) (table + closed_table f (length w.datagrams.items)) table (zeros (table - w.end)) (table_bytes f (places_of w.datagrams.items)) known.four known.header in
      rw (o.so_far, e, n, p) whole

  -- the writer with one more datagram
  pub more : (next : Inside width) (size : ℕ) → block_fits f (layout_in w) w.block w.limit (sizes_in w ++ size ∷ []) ≡ true → 14 ≤ size →
      next.divisor ≡ w.divisor → next.remainder ≡ w.remainder → next.alignment ≡ w.alignment → next.block ≡ w.block → next.limit ≡ w.limit →
      next.datagrams.items ≡ w.datagrams.items ++ record { at = least_place w.end w.divisor w.remainder; size = size } ∷ [] →
      vec_capacity next.datagrams ≡ vec_capacity w.datagrams →
      next.end ≡ least_place w.end w.divisor w.remainder + size → next.is_open ≡ true → IsWriter f next
  more next size fits least divisor remainder alignment block limit items room end opened =
      let n = numbers size least fits in
      let from = least_place_from w.end w.divisor w.remainder in
      let d : Datagram = record { at = least_place w.end w.divisor w.remainder; size = size } in
      let sizes : sizes_in next ≡ sizes_in w ++ size ∷ [] = ap (map size_of) items ∙ sizes-append w.datagrams.items d in
      let layout : layout_in next ≡ layout_in w = rw (divisor, remainder, alignment) refl in
      let many : length next.datagrams.items ≡ length w.datagrams.items + 1 = rw items (grind (arith, common_steps)) in
      record {
        divisor = rw divisor i.divisor;
        remainder = rw (divisor, remainder) i.remainder;
        alignment = rw alignment i.alignment;
        block = rw block i.block;
        places = rw (layout, sizes) (ap places_of items ∙ places-append w.datagrams.items d ∙ ap (λ (ps : List Place). ps ++ place_of d ∷ []) i.places ∙ rw i.end (sym (datagram_places-append (layout_in w) f.header (sizes_in w) size)));
        end = rw (layout, sizes) (end ∙ rw i.end (sym (datagrams_end-append (layout_in w) f.header (sizes_in w) size)));
        size = rw (end, alignment, many, block) n.whole;
        table = rw many n.table;
        within = rw (end, block) n.within;
        count = rw (end, many) (let count = i.count in omega (arith, count, from, least));
        room = rw (room, block, limit) i.room;
        nothing_open = λ shut. absurd (true≢false (sym opened ∙ shut));
      }

-- a writer with no datagram
pub empty_writer : (f : Format) {width : ℕ} (w : Inside width) → IsSmall f → (1 ≤ w.divisor) × (w.divisor ≤ 64) → w.remainder < w.divisor → (1 ≤ w.alignment) × (w.alignment ≤ 64) → (2048 ≤ w.block) × (w.block ≤ 262144) →
    w.datagrams.items ≡ [] → w.end ≡ f.header → vec_capacity w.datagrams ≡ most_datagrams f w.block w.limit → IsWriter f w
empty_writer f w small divisor remainder alignment block items end room =
    let near = least_multiple_near f.header w.alignment alignment.0 in
    let short = table_none f small in
    let header = small.header in
    record {
      divisor = divisor;
      remainder = remainder;
      alignment = alignment;
      block = block;
      places = rw items (empty_places (layout_in w) f.header);
      end = rw items (end ∙ empty_end (layout_in w) f.header);
      size = rw (items, end) (omega (arith, near, short, header.1, alignment.1, block.0));
      table = rw items (omega (arith, short));
      within = rw end (omega (arith, header.1, block.0));
      count = rw (items, end) (omega arith);
      room = room;
      nothing_open = λ _. items;
    }
