-- A walk over the frames of a transfer, by a place that is kept apart from the bytes.
use Rattle.std.specs.Prelude.{◌≡◌, ℕ, ◌-◌, ◌<◌, List, length, true}
use Rattle.un_frame.specs.Bytes.{Place, number_at}
use Rattle.un_frame.specs.Eem.{is_data, command_count}
use Rattle.un_frame.specs.Places.{eem_places}
use Rattle.un_eem.specs.Transfer.{frames_in}
use Rattle.un_eem.specs.Walk.{IsSound, packets_from}

-- the frames of the packets from a place on
abbrev pub frames_from : List ℕ → ℕ → List (List ℕ)
frames_from bytes at = frames_in (packets_from bytes at)

-- where they stand
abbrev pub places_from : List ℕ → ℕ → List Place
places_from bytes at = eem_places (length bytes - at) bytes at

-- the commands of a whole transfer
abbrev pub commands_of : List ℕ → ℕ
commands_of bytes = command_count (packets_from bytes 0)

-- at the place a data packet begins, or it is the transfer's end; no packet from there on has a fault
pub record IsOn (bytes : List ℕ) (at : ℕ) : Type 0 where
  pub sound : IsSound bytes at
  pub frame : at < length bytes → is_data (number_at 2 bytes at) ≡ true
