use Rattle.un_wire.specs.Codings.{coding_of}
use Rattle.un_agg.proofs.BlockLemmas.{begun, kept, seen}
use Rattle.un_agg.proofs.block.OpenBlock.begin.Goals as goal

pub invariant_of-self : goal.invariant_of-self
invariant_of-self c =
    let fits = rw (← c.self.view_is) at c.requires.fits in
    let room = rw (← c.self.view_is) at c.requires.room in
    let grown = begun (coding_of c.self.inside.codec) (coding_of c.start.new.self) (coding_of c.append.new.self) c.args.request c.start.new.request c.append.new.request c.args.frame.now
    c.start.ensures.coding c.start.ensures.request c.append.ensures.coding c.append.ensures.request c.requires.least fits room in
    kept c.self.inside c.append.new.self c.append.new.request _ _ c.self.invariant grown

pub returns : goal.returns
returns c =
    let fits = rw (← c.self.view_is) at c.requires.fits in
    let room = rw (← c.self.view_is) at c.requires.room in
    let grown = begun (coding_of c.self.inside.codec) (coding_of c.start.new.self) (coding_of c.append.new.self) c.args.request c.start.new.request c.append.new.request c.args.frame.now
    c.start.ensures.coding c.start.ensures.request c.append.ensures.coding c.append.ensures.request c.requires.least fits room in
    rw (← c.self.view_is) (seen _ _ _ _ _ grown)
