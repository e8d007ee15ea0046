use Rattle.std.proofs.Common.{length, ap, arith}
use Rattle.usbnet_run.proofs.Decoding.{none_written, more_written, all_put, none_left}
use Rattle.usbnet_run.proofs.decode.put_frames.Goals as goal

pub loop-index-init : goal.loop-index-init
loop-index-init g c = record { written = none_written _ _ c.args.page.now c.args.parts.now.frames; rest = omega arith }

pub loop-index-preserved : goal.loop-index-preserved
loop-index-preserved g c =
    let here = c.in-Some.ensures.part in
    let long = ap length here in
    let before = c.loop-index.invariant.rest in
    record {
      written = more_written _ _ _ _ _ _ c.args.page.now c.loop-index.page _ c.args.parts.now.frames c.loop-index.parts.frames c.next.new.self.frames _ c.loop-index.index c.loop-index.invariant.written here c.put_frame.ensures;
      rest = omega (arith, long, before);
    }

pub returns : goal.returns
returns g c =
    let none = none_left c.loop-index.parts.frames c.loop-index.index c.args.count c.loop-index.invariant.rest (omega arith) in
    all_put _ _ _ _ c.args.page.now c.loop-index.page c.args.parts.now.frames c.loop-index.parts.frames c.loop-index.index c.loop-index.invariant.written none
