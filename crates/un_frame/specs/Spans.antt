-- Where frames stand, as the code says it.
use Rattle.std.specs.Prelude.{List, map}
use Rattle.un_frame.specs.Bytes.{Place}
use Rattle.un_frame.specs.declared.span.Span.{Span}

-- the place that a span tells
abbrev pub place_of : Span → Place
place_of span = record { at = span.at; size = span.size }

-- and those of several
abbrev pub places_of : List Span → List Place
places_of spans = map place_of spans
