-- A cursor over the parts of a transfer, as its owner sees it: it stands at the part of an index.
use Rattle.std.specs.Prelude.{◌≡◌, ℕ, ◌-◌, List, ◌++◌, length, map}
use Rattle.un_frame.specs.declared.params.Class.{Class}
use Rattle.un_frame.specs.Bytes.{slice_at}
use Rattle.un_frame.specs.Parts.{places_as}
use Rattle.un_wire.specs.declared.cursor.Cursor.{Cursor}
use Rattle.un_wire.specs.Places.{IsSoundAt, class_at, parts_at}

-- the parts of a transfer, in order
unfoldable pub parts_of : Class → List ℕ → List (List ℕ)
parts_of class bytes = map (slice_at bytes) (places_as class bytes)

-- how many there are
unfoldable pub part_count : Class → List ℕ → ℕ
part_count class bytes = length (parts_of class bytes)

-- the index of the cursor's part, from 0; at the end it is their number
unfoldable pub part_index : Class → List ℕ → Cursor → ℕ
part_index class bytes cursor = part_count class bytes - length (parts_at bytes cursor.place)

-- The cursor came from these bytes, read in this class: it has the last of the transfer's parts before it.
pub record IsAt (class : Class) (bytes : List ℕ) (cursor : Cursor) : Type 0 where
  pub of_class : class_at cursor.place ≡ class
  pub sound : IsSoundAt bytes cursor.place
  pub passed : List (List ℕ)
  pub split : parts_of class bytes ≡ passed ++ parts_at bytes cursor.place
