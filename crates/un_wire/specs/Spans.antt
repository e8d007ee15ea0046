-- What a caller's array of spans holds after a reading.
use Rattle.std.specs.Prelude.{ℕ, zero, suc, List, [], ◌∷◌}
use Rattle.un_frame.specs.Bytes.{Place}
use Rattle.un_frame.specs.declared.span.Span.{Span}

-- the span that tells a place
abbrev pub span_of : Place → Span
span_of place = record { at = place.at; size = place.size }

-- the places from the array's first element on, as many as have room; the elements behind them stay
abbrev pub filled : List Place → List Span → List Span
filled [] spans = spans
filled (place ∷ places) [] = []
filled (place ∷ places) (span ∷ spans) = span_of place ∷ filled places spans

-- an element's new value, where the array has so many
abbrev pub put_at : ℕ → Span → List Span → List Span
put_at index span [] = []
put_at zero span (first ∷ rest) = span ∷ rest
put_at (suc index) span (first ∷ rest) = first ∷ put_at index span rest
