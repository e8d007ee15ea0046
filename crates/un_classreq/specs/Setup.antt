-- The set-up packet of a control transfer (USB 2.0, 9.3).
use Rattle.std.specs.Prelude.{ℕ, List, ◌∷◌, ◌++◌, slice_index}
use Rattle.un_frame.specs.Bytes.{number_at, number_bytes}
use Rattle.un_classreq.specs.declared.setup.Setup.{Setup}

-- the packet of these fields
abbrev pub packet : ℕ → ℕ → ℕ → ℕ → ℕ → Setup
packet request_type request value index size = record {
  request_type = request_type;
  request = request;
  value = value;
  index = index;
  length = size;
}

-- its eight bytes
abbrev pub setup_bytes : Setup → List ℕ
setup_bytes s = s.request_type ∷ s.request ∷ number_bytes 2 s.value ++ number_bytes 2 s.index ++ number_bytes 2 s.length

-- and what eight bytes are
abbrev pub setup_of : List ℕ → Setup
setup_of bytes = record {
  request_type = slice_index bytes 0;
  request = slice_index bytes 1;
  value = number_at 2 bytes 2;
  index = number_at 2 bytes 4;
  length = number_at 2 bytes 6;
}
