use Rattle.std.proofs.Common.{◌≡◌, Some, sym, ◌∙◌}
use Rattle.un_wire.specs.Codings.{coding_of}
use Rattle.un_agg.proofs.BlockLemmas.{appended, held_block, kept, seen}
use Rattle.un_agg.proofs.block.OpenBlock.append.Goals as goal

pub invariant_of-self : goal.invariant_of-self
invariant_of-self c =
    let coding = coding_of c.self.inside.codec in
    let was : c.self.inside.request ≡ Some c.in-Some.request = sym c.take.ensures.value ∙ c.in-Some.is in
    let block = held_block coding c.self.inside.request c.in-Some.request was c.self.invariant.block in
    let fits = rw (← c.self.view_is, was, block.left.lengths) at c.requires.fits in
    let grown = appended coding (coding_of c.append.new.self) c.in-Some.request c.append.new.request c.args.frame.now block
    c.append.ensures.coding c.append.ensures.request c.requires.least fits in
    kept c.self.inside c.append.new.self c.append.new.request _ _ c.self.invariant grown

pub returns : goal.returns
returns c =
    let coding = coding_of c.self.inside.codec in
    let was : c.self.inside.request ≡ Some c.in-Some.request = sym c.take.ensures.value ∙ c.in-Some.is in
    let block = held_block coding c.self.inside.request c.in-Some.request was c.self.invariant.block in
    let fits = rw (← c.self.view_is, was, block.left.lengths) at c.requires.fits in
    let grown = appended coding (coding_of c.append.new.self) c.in-Some.request c.append.new.request c.args.frame.now block
    c.append.ensures.coding c.append.ensures.request c.requires.least fits in
    rw (← c.self.view_is, was) (seen _ _ _ _ _ grown)
