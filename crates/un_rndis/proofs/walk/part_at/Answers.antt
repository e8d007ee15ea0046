use Rattle.std.proofs.Common.{◌+◌, refl, sym, ◌∙◌}
use Rattle.un_frame.specs.Rndis.{message_length}
use Rattle.un_rndis.specs.Frames.{frames_from}
use Rattle.un_rndis.proofs.FrameSteps.{frames_end, frames_on}
use Rattle.un_rndis.proofs.walk.part_at.Goals as goal

pub returns-then-is_past-clause-end : goal.returns-then-is_past-clause-end
returns-then-is_past-clause-end c = frames_end c.args.bytes.now c.args.at (sym c.is_past.ensures ∙ c.if-is_past.true)

pub returns-clause-part : goal.returns-clause-part
returns-clause-part c =
    let next = c.args.at + message_length c.args.bytes.now c.args.at in
    (frames_from c.args.bytes.now next, frames_on c.args.bytes.now c.args.at next (sym c.is_past.ensures ∙ c.if-is_past.false) c.requires refl c.frame_at.result.now c.frame_at.ensures)
