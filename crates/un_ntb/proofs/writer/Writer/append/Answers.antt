use Rattle.std.proofs.Common.{◌≡◌, ◌+◌, ◌++◌, ◌∷◌, [], List, ℕ, length, map, ap, ◌∙◌, arith, refl}
use Rattle.un_ntb.specs.Formats.{format_of}
use Rattle.un_ntb.proofs.FormatLemmas.{format_small, format_writable}
use Rattle.un_ntb.proofs.WriterLemmas.{numbers, reaches, more, appended, open_more, sizes-append}
use Rattle.un_req.specs.Request.{Buffer}
use Rattle.un_ntb.specs.Datagrams.{size_of}
use Rattle.un_ntb.specs.Writer.{layout_in, sizes_in}
use Rattle.un_ntb.proofs.writer.Writer.append.Goals as goal

pub push_datagram-requires : goal.push_datagram-requires
push_datagram-requires g c =
    let f = format_of g.row.WIDTH in
    let o = rw (← c.self.view_is) at c.requires.left in
    let long = reaches f (format_writable g.row.WIDTH) (format_small g.row.WIDTH) g.row.WIDTH c.self.inside c.self.invariant c.args.request.now.bytes o.0 o.1 in
    let n = numbers f (format_writable g.row.WIDTH) (format_small g.row.WIDTH) g.row.WIDTH c.self.inside c.self.invariant (length c.args.frame.now) c.requires.least (rw (← c.self.view_is) at c.requires.fits) in
    let within = n.within in
    let capacity = rw (← c.self.view_is) at c.requires.capacity in
    omega (arith, long, within, capacity, c.place-at.ensures.place, c.place-at.ensures.from)

pub overflow_cast-frame : goal.overflow_cast-frame
overflow_cast-frame g c =
    let n = numbers (format_of g.row.WIDTH) (format_writable g.row.WIDTH) (format_small g.row.WIDTH) g.row.WIDTH c.self.inside c.self.invariant (length c.args.frame.now) c.requires.least (rw (← c.self.view_is) at c.requires.fits) in
    let within = n.within in let block = c.self.invariant.block.1 in omega (arith, within, block)

pub overflow_cast-self : goal.overflow_cast-self
overflow_cast-self g c =
    let n = numbers (format_of g.row.WIDTH) (format_writable g.row.WIDTH) (format_small g.row.WIDTH) g.row.WIDTH c.self.inside c.self.invariant (length c.args.frame.now) c.requires.least (rw (← c.self.view_is) at c.requires.fits) in
    let within = n.within in let block = c.self.invariant.block.1 in omega (arith, within, block)

pub overflow_add-self : goal.overflow_add-self
overflow_add-self g c =
    let n = numbers (format_of g.row.WIDTH) (format_writable g.row.WIDTH) (format_small g.row.WIDTH) g.row.WIDTH c.self.inside c.self.invariant (length c.args.frame.now) c.requires.least (rw (← c.self.view_is) at c.requires.fits) in
    let within = n.within in let block = c.self.invariant.block.1 in omega (arith, within, block, c.place-at.ensures.place)

pub invariant_of-self : goal.invariant_of-self
invariant_of-self g c =
    more (format_of g.row.WIDTH) (format_writable g.row.WIDTH) (format_small g.row.WIDTH) g.row.WIDTH c.self.inside c.self.invariant _ (length c.args.frame.now) (rw (← c.self.view_is) at c.requires.fits) c.requires.least refl refl refl refl refl (rw c.place-at.ensures.place at c.push_reserved.ensures.items) c.push_reserved.ensures.capacity (ap (λ (n : ℕ). n + length c.args.frame.now) c.place-at.ensures.place) (rw (← c.self.view_is) at c.requires.opened)

pub returns-clause-request : goal.returns-clause-request
returns-clause-request g c =
    λ frames o. let grown = appended (format_of g.row.WIDTH) (format_writable g.row.WIDTH) (format_small g.row.WIDTH) g.row.WIDTH c.self.inside c.self.invariant c.args.request.now.bytes frames c.args.frame.now (rw (← c.self.view_is) at o) in
    rw (← c.self.view_is) (rw c.place-at.ensures.place at c.push_datagram.ensures ∙ ap (λ (bytes : List ℕ). record c.args.request.now { bytes = bytes }) grown)

pub returns-clause-left : goal.returns-clause-left
returns-clause-left g c =
    λ frames o. let f = format_of g.row.WIDTH in
    let here = rw (← c.self.view_is) at o in
    let grown = appended f (format_writable g.row.WIDTH) (format_small g.row.WIDTH) g.row.WIDTH c.self.inside c.self.invariant c.args.request.now.bytes frames c.args.frame.now here in
    let bytes = ap (λ (r : Buffer). r.bytes) (rw c.place-at.ensures.place at c.push_datagram.ensures) ∙ grown in
    let sizes : map size_of c.push_reserved.new.self.items ≡ sizes_in c.self.inside ++ length c.args.frame.now ∷ [] = ap (map size_of) c.push_reserved.ensures.items ∙ sizes-append c.self.inside.datagrams.items _ in
    rw sizes (open_more f (layout_in c.self.inside) (sizes_in c.self.inside) c.push_datagram.new.request.bytes frames c.args.frame.now here.lengths bytes)

pub push_reserved-requires : goal.push_reserved-requires
push_reserved-requires g c =
    let n = numbers (format_of g.row.WIDTH) (format_writable g.row.WIDTH) (format_small g.row.WIDTH) g.row.WIDTH c.self.inside c.self.invariant (length c.args.frame.now) c.requires.least (rw (← c.self.view_is) at c.requires.fits) in
    let room = n.room in
    let whole = c.self.invariant.room in
    omega (arith, room, whole)
