-- The datagrams that a writer has put into a block.
use Rattle.std.specs.Prelude.{ℕ, List, map}
use Rattle.un_frame.specs.Bytes.{Place}
use Rattle.un_ntb.specs.declared.table.Datagram.{Datagram}

-- where a datagram stands
abbrev pub place_of : Datagram → Place
place_of d = record { at = d.at; size = d.size }

abbrev pub places_of : List Datagram → List Place
places_of ds = map place_of ds

abbrev pub size_of : Datagram → ℕ
size_of d = d.size
