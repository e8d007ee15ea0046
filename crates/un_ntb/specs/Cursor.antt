-- What a cursor has before it.
use Rattle.std.specs.Prelude.{ℕ, List}
use Rattle.un_frame.specs.Bytes.{Place}
use Rattle.un_frame.specs.Ntb.{Format}
use Rattle.un_frame.specs.NtbCursor.{IsCursor, places_left}
use Rattle.un_ntb.specs.declared.cursor.Cursor.{Cursor}

-- the datagrams from the cursor on
abbrev pub left : Format → List ℕ → Cursor → List Place
left f block c = places_left f block c.pair c.pairs c.table c.tables

-- the cursor stands in the block
abbrev pub IsIn : Format → List ℕ → Cursor → Type 0
IsIn f block c = IsCursor f block c.pair c.pairs c.table c.tables
