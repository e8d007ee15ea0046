use Rattle.std.proofs.Common.{◌-◌, sym, ap, ◌∙◌, map, arith}
use Rattle.un_frame.specs.Bytes.{slice_at}
use Rattle.un_frame.proofs.NtbCursorLemmas.{IsCursor_next, left_next}
use Rattle.un_ntb.specs.Formats.{format_of}
use Rattle.un_ntb.proofs.parts.Parts.next.Goals as goal

pub datagram-frame-requires-clause-inside : goal.datagram-frame-requires-clause-inside
datagram-frame-requires-clause-inside g c =
    let at = c.skip_ended-cursor.result in
    (IsCursor_next (format_of g.row.WIDTH) c.self.inside.block.now at.pair at.pairs at.table at.tables (at.pairs - 1) c.skip_ended-cursor.ensures.sound (omega arith) (c.skip_ended-cursor.ensures.datagram (omega arith))).0

pub invariant_of-self : goal.invariant_of-self
invariant_of-self g c =
    let at = c.skip_ended-cursor.result in
    rw c.pair.ensures.value (IsCursor_next (format_of g.row.WIDTH) c.self.inside.block.now at.pair at.pairs at.table at.tables (at.pairs - 1) c.skip_ended-cursor.ensures.sound (omega arith) (c.skip_ended-cursor.ensures.datagram (omega arith))).1

pub returns-clause-part : goal.returns-clause-part
returns-clause-part g c =
    let at = c.skip_ended-cursor.result in
    let block = c.self.inside.block.now in
    rw (c.datagram-frame.ensures, c.pair.ensures.value) (sym c.self.view_is ∙ ap (map (slice_at block)) (sym c.skip_ended-cursor.ensures.same ∙ left_next (format_of g.row.WIDTH) block at.pair at.pairs at.table at.tables (at.pairs - 1) (omega arith) (c.skip_ended-cursor.ensures.datagram (omega arith))))
