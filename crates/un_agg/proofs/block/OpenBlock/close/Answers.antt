use Rattle.std.proofs.Common.{◌≡◌, ◌+◌, Some, sym, ap, ◌∙◌}
use Rattle.un_req.specs.Request.{Buffer}
use Rattle.un_wire.specs.Codings.{coding_of}
use Rattle.un_agg.proofs.BlockLemmas.{closed, frames_of, held_block}
use Rattle.un_agg.proofs.block.OpenBlock.close.Goals as goal

pub returns-clause-made : goal.returns-clause-made
returns-clause-made c =
    let coding = coding_of c.self.inside.codec in
    let was : c.self.inside.request ≡ Some c.in-Some.request = sym c.take.ensures.value ∙ c.in-Some.is in
    let block = held_block coding c.self.inside.request c.in-Some.request was c.self.invariant.block in
    let end = c.args.from + c.count.result in
    let stamped = c.stamp.ensures ∙ ap (λ (r : Buffer). record r { from = c.args.from; to = end; serial = c.args.serial }) (c.close.ensures.request (frames_of coding c.in-Some.request) block.left) in
    rw (← c.self.view_is, was) (closed coding c.in-Some.request c.stamp.new.self c.args.from end c.args.serial block c.self.invariant.in_range c.self.invariant.agree
    (ap (λ n. c.args.from + n) c.count.ensures.count) stamped)
