use Rattle.std.proofs.Common.{length, arith}
use Rattle.un_frame.proofs.AllLaws.{laws_of}
use Rattle.un_check.proofs.draft.Draft.takes.Goals as goal

pub overflow_cast-frame : goal.overflow_cast-frame
overflow_cast-frame c =
    let params = c.self.inside.block.params in
    let most = (laws_of params.class).within params (length c.args.frame.now) (rw (← c.self.view_is) at c.requires) in
    let small = c.self.invariant.small in
    omega (arith, most, small)
