use Rattle.std.proofs.Common.{ap}
use Rattle.un_ntb.specs.Formats.{format_of}
use Rattle.un_ntb.proofs.FormatLemmas.{format_writable}
use Rattle.un_req.specs.Request.{Buffer}
use Rattle.un_wire.proofs.WriteLemmas.{block_open, ntb_within, capacity_ncm, open_ncm}
use Rattle.un_wire.proofs.ntb.NtbWireWire.close.Goals as goal

pub returns-clause-within : goal.returns-clause-within
returns-clause-within g c =
    let width = g.row.WIDTH in
    let f = format_of width in
    let w = c.self.inside in
    let i = c.self.invariant in
    let o = rw (← c.self.view_is) at c.requires.left in
    let some = rw (← c.self.view_is) at c.requires.some in
    let block = block_open f w.params w.writer.layout w.writer.sizes c.args.request.now.bytes o.0 (open_ncm width w.params o.0 i.class) i.layout o.1 in
    let closed = ap (λ (r : Buffer). r.bytes) (c.close.ensures.request o.0 block) in
    let within = ntb_within f w.params w.writer.layout c.args.serial w.writer.sizes c.close.new.request.bytes o.0 (format_writable width) i.layout (i.fits some) o.1.lengths closed in
    rw (← c.self.view_is) (capacity_ncm width w.params _ i.class within)
