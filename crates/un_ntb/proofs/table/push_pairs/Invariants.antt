use Rattle.std.proofs.Common.{◌≡◌, ◌+◌, ◌*◌, ◌++◌, length, take, flat_map}
use Rattle.un_frame.specs.NtbForm.{pair_bytes}
use Rattle.un_ntb.specs.Datagrams.{places_of}
use Rattle.un_ntb.specs.Formats.{format_of}
use Rattle.un_ntb.proofs.table.push_pairs.Given as goal

-- the pairs so far stand at the end
abbrev pub invariant-loop-datagram : goal.invariant-loop-datagram
invariant-loop-datagram g l =
    record {
      bytes : l.request ≡ record l.fn.request { bytes = l.fn.request.bytes ++ flat_map (pair_bytes (format_of g.row.WIDTH)) (places_of (take l.datagram-index l.datagrams)) };
      len : length l.request.bytes ≡ length l.fn.request.bytes + (format_of g.row.WIDTH).pair * l.datagram-index;
      capacity : l.request.capacity ≡ l.fn.request.capacity;
    }
