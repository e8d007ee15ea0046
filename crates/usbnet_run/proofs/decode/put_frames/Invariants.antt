use Rattle.std.proofs.Common.{◌≡◌, ◌+◌, length}
use Rattle.usbnet_run.proofs.Decoding.{Written}
use Rattle.usbnet_run.proofs.decode.put_frames.Given as goal

abbrev pub invariant-loop-index : goal.invariant-loop-index
invariant-loop-index g l = record {
  written : Written (g.O.Sink.held l.fn.out) (g.O.Sink.faults l.fn.out) l.fn.page (g.O.Sink.held l.out) (g.O.Sink.faults l.out) l.page l.fn.parts.frames l.parts.frames l.index;
  rest : l.index + length l.parts.frames ≡ l.count;
}
