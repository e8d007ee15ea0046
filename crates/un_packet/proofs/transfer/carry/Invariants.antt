use Rattle.std.proofs.Common.{◌≡◌, ◌*◌, take}
use Rattle.un_packet.proofs.transfer.carry.Given as goal

abbrev pub invariant-loop-index : goal.invariant-loop-index
invariant-loop-index l = l.into ≡ record l.fn.from { number = l.fn.into.number; capacity = l.fn.into.capacity; bytes = take (l.index * l.packet) l.fn.from.bytes }
