use Rattle.std.proofs.Common.{◌≡◌}
use Rattle.un_wire.specs.Codings.{coding_of}
use Rattle.un_wire.specs.Cursors.{IsAt, part_index}
use Rattle.un_wire.specs.Places.{IsFirst}
use Rattle.un_wire.specs.declared.cursor.Cursor.{Cursor}
use Rattle.un_wire.proofs.CursorLemmas.{if_ok, at_first, first_index}
use Rattle.un_wire.proofs.codec.Codec.cursor.Goals as goal

pub returns-clause-at : goal.returns-clause-at
returns-clause-at c =
    let class = (coding_of c.args.self.now).params.class in
    let bytes = c.args.bytes.now in
    if_ok c.begin.result (λ (cursor : Cursor). IsFirst class bytes cursor) (λ (cursor : Cursor). IsAt class bytes cursor)
    (λ cursor first. at_first class bytes cursor first) (rw c.class.ensures at c.begin.ensures.first)

pub returns-clause-first : goal.returns-clause-first
returns-clause-first c =
    let class = (coding_of c.args.self.now).params.class in
    let bytes = c.args.bytes.now in
    if_ok c.begin.result (λ (cursor : Cursor). IsFirst class bytes cursor) (λ (cursor : Cursor). part_index class bytes cursor ≡ 0)
    (λ cursor first. first_index class bytes cursor first) (rw c.class.ensures at c.begin.ensures.first)
