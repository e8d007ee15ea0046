-- What a writer keeps.
use Rattle.std.specs.Prelude.{◌≡◌, ℕ, ◌+◌, ◌-◌, ◌*◌, ◌/◌, ◌<◌, ◌≤◌, ◌==◌, if◌then◌else◌, List, [], false, length, map, min, vec_capacity}
use Rattle.un_frame.specs.Ntb.{Format}
use Rattle.un_frame.specs.NtbForm.{Layout, Writing, closed_table, datagram_places, datagrams_end, least_multiple}
use Rattle.un_ntb.specs.Datagrams.{places_of, size_of}
use Rattle.un_ntb.specs.declared.writer.Writer.TheInside.{Inside}

abbrev pub layout_in : {width : ℕ} → Inside width → Layout
layout_in w = record { divisor = w.divisor; remainder = w.remainder; alignment = w.alignment }

abbrev pub sizes_in : {width : ℕ} → Inside width → List ℕ
sizes_in w = map size_of w.datagrams.items

-- what callers see
abbrev pub writing : {width : ℕ} → Inside width → Writing
writing w = record { layout = layout_in w; block = w.block; limit = w.limit; sizes = sizes_in w; is_open = w.is_open }

-- how many datagrams a block can hold at most: each has 14 bytes at least and a pair of the table, beside the header and
-- the table's head and last pair, and the table has at most 65,535 bytes
abbrev pub most_held : Format → ℕ → ℕ
most_held f block = min ((block - f.header - (f.head + f.pair)) / (14 + f.pair)) ((65535 - (f.head + f.pair)) / f.pair)

-- how many a writer has room for: as many as a block can hold, and no more than the limit, with 0 for none
abbrev pub most_datagrams : Format → ℕ → ℕ → ℕ
most_datagrams f block limit = if limit == 0 then most_held f block else min (most_held f block) limit

-- the parameters are in their ranges, and the places and the end are those of the sizes; with no open block there are none
pub record IsWriter (f : Format) {width : ℕ} (w : Inside width) : Type 0 where
  pub divisor : (1 ≤ w.divisor) × (w.divisor ≤ 64)
  pub remainder : w.remainder < w.divisor
  pub alignment : (1 ≤ w.alignment) × (w.alignment ≤ 64)
  pub block : (2048 ≤ w.block) × (w.block ≤ 262144)
  pub places : places_of w.datagrams.items ≡ datagram_places (layout_in w) f.header (sizes_in w)
  pub end : w.end ≡ datagrams_end (layout_in w) f.header (sizes_in w)
  pub size : least_multiple w.end w.alignment + closed_table f (length w.datagrams.items) ≤ w.block
  pub table : closed_table f (length w.datagrams.items) ≤ 65535
  pub within : w.end ≤ w.block
  pub count : f.header + 14 * length w.datagrams.items ≤ w.end
  pub room : vec_capacity w.datagrams ≡ most_datagrams f w.block w.limit
  pub nothing_open : w.is_open ≡ false → w.datagrams.items ≡ []
