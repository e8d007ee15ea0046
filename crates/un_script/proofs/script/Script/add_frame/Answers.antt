use Rattle.std.proofs.Common.{arith}
use Rattle.un_frame.specs.declared.params.Lane.TheVariants.{Outward, Inward}
use Rattle.un_script.proofs.Readiness.{frame_ready, one_more}
use Rattle.un_script.proofs.script.Script.add_frame.Goals as goal

pub invariant_of-self-in-Outward : goal.invariant_of-self-in-Outward
invariant_of-self-in-Outward c =
    let inv = c.self.invariant in
    let room = rw (← c.self.view_is) at c.requires.room in
    let more = one_more c.args.sender c.args.frame c.self.inside.outward in
    rw c.in_ok-add.ensures.ok (omega (arith, inv.0, more), inv.1, frame_ready Outward c.args.sender c.args.frame _ inv.2 c.requires.bytes room)

pub invariant_of-self-2 : goal.invariant_of-self-2
invariant_of-self-2 c =
    let inv = c.self.invariant in
    let room = rw (← c.self.view_is) at c.requires.room in
    let more = one_more c.args.sender c.args.frame c.self.inside.inward in
    rw c.in_ok-add-2.ensures.ok (omega (arith, inv.0, more), inv.1, frame_ready Inward c.args.sender c.args.frame _ inv.2 c.requires.bytes room)
