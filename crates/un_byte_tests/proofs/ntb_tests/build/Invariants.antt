use Rattle.std.proofs.Common.{◌≡◌, ◌≤◌, ℕ, List, true}
use Rattle.un_frame.specs.NtbForm.{IsOpenBlock}
use Rattle.un_ntb.specs.Formats.{format_of}
use Rattle.un_byte_tests.proofs.ntb_tests.build.Given as goal

-- the block stays open, and the request's bytes are those of its frames
abbrev pub invariant-loop : goal.invariant-loop
invariant-loop g l = record {
  opened : l.writer.is_open ≡ true;
  room : l.writer.block ≤ l.request.capacity;
  left : (frames : List (List ℕ)) × IsOpenBlock (format_of g.row.WIDTH) l.writer.layout l.writer.sizes l.request.bytes frames;
}
