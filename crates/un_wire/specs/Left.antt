-- What parts have left.
use Rattle.std.specs.Prelude.{◌<◌, ◌^◌, length}
use Rattle.un_frame.specs.Wire.{Read}
use Rattle.un_wire.specs.Places.{IsSoundAt, parts_at}
use Rattle.un_wire.specs.declared.parts.Parts.TheInside.{Inside}

-- the frames that are left, and the commands of the whole transfer
abbrev pub read_in : Inside → Read
read_in p = record { frames = parts_at p.bytes.now p.cursor.place; commands = p.commands }

-- the cursor stands in the transfer, before so few frames that a number of 64 bits counts them
pub record IsReading (p : Inside) : Type 0 where
  pub sound : IsSoundAt p.bytes.now p.cursor.place
  pub few : length (parts_at p.bytes.now p.cursor.place) < 2 ^ 64
