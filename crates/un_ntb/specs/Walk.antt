-- A walk over the datagrams of a transfer, by a cursor that is kept apart from the bytes.
use Rattle.std.specs.Prelude.{◌≡◌, ℕ, ◌<◌, List, [], map, false}
use Rattle.un_frame.specs.Bytes.{Place, slice_at}
use Rattle.un_frame.specs.Ntb.{Format, IsHeader, block_of, is_null, pair_at}
use Rattle.un_ntb.specs.Cursor.{IsIn, left}
use Rattle.un_ntb.specs.declared.cursor.Cursor.{Cursor}

-- where the datagrams from the cursor on stand
abbrev pub places_left : Format → List ℕ → Cursor → List Place
places_left f bytes c = left f (block_of f bytes) c

-- and their bytes
abbrev pub parts_left : Format → List ℕ → Cursor → List (List ℕ)
parts_left f bytes c = map (slice_at (block_of f bytes)) (places_left f bytes c)

-- the cursor stands in the transfer's block, at a datagram or past the last one, where it has no pair left
pub record IsOn (f : Format) (bytes : List ℕ) (c : Cursor) : Type 0 where
  pub header : IsHeader f bytes
  pub inside : IsIn f (block_of f bytes) c
  pub end : c.pairs ≡ 0 → left f (block_of f bytes) c ≡ []
  pub datagram : 0 < c.pairs → is_null (pair_at f (block_of f bytes) c.pair) ≡ false
