use Rattle.std.proofs.Common.{◌+◌, refl}
use Rattle.un_frame.specs.Bytes.{number_at}
use Rattle.un_frame.specs.Eem.{packet_size}
use Rattle.un_eem.specs.Frames.{frames_from}
use Rattle.un_eem.proofs.FrameSteps.{frames_data, frames_end}
use Rattle.un_eem.proofs.walk.part_at.Goals as goal

pub returns-then-bytes-at-clause-end : goal.returns-then-bytes-at-clause-end
returns-then-bytes-at-clause-end c = frames_end c.args.bytes.now c.args.at c.if-bytes-at.true

pub returns-clause-part : goal.returns-clause-part
returns-clause-part c =
    let next = c.args.at + packet_size (number_at 2 c.args.bytes.now c.args.at) in
    (frames_from c.args.bytes.now next, frames_data c.args.bytes.now c.args.at next c.if-bytes-at.false refl c.frame_at.result.now c.frame_at.ensures)
