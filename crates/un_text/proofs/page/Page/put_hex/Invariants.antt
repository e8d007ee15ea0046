use Rattle.std.proofs.Common.{◌≤◌, ◌-◌, length, take}
use Rattle.hex.specs.Hex.{encode_lower}
use Rattle.un_text.specs.Puts.{Puts}
use Rattle.un_text.proofs.page.Page.put_hex.Given as goal

abbrev pub invariant-loop-at : goal.invariant-loop-at
invariant-loop-at g l = record {
  within : l.at ≤ length l.bytes;
  put : Puts (g.O.Sink.held l.fn.out) (g.O.Sink.faults l.fn.out) l.fn.self (g.O.Sink.held l.out) (g.O.Sink.faults l.out) l.self (encode_lower (take l.at l.bytes));
}

abbrev pub decreases-loop-at : goal.decreases-loop-at
decreases-loop-at g l = length l.bytes - l.at
