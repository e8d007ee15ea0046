use Rattle.std.proofs.Common.{rules, ◌≤◌, ◌<◌, ◌≡◌, length, take, arith, vec_len}
use Rattle.std.proofs.lemmas.Grind.{common_steps}
use Rattle.un_io.proofs.Known.{Consumes-then}
use Rattle.un_io.proofs.OneMore.{failed_more, within_room, one_too_many}
use Rattle.un_io.proofs.whole.read_whole.Goals as goal

pub returns-in-Ok-read_more-clause-given : goal.returns-in-Ok-read_more-clause-given
returns-in-Ok-read_more-clause-given g c =
    let more = c.in-Ok-read_more.ensures.given in
    let same : c.len.result ≡ length c.loop-bytes.bytes.items = grind (arith, common_steps, c.loop-bytes.bytes.ok) in
    let grown : vec_len c.read_more.new.bytes ≡ length c.read_more.new.bytes.items = c.read_more.new.bytes.ok.0 in
    let above : c.args.limit < vec_len c.read_more.new.bytes = search rules in (
      _,
      Consumes-then _ _ _ _ _ c.loop-bytes.invariant.given more.1,
      one_too_many _ _ _ _ _ _ _ _ same (omega arith) c.wanted-want.ensures more.2 more.3.0 grown above,
    )

pub returns-in-Err-clause-given : goal.returns-in-Err-clause-given
returns-in-Err-clause-given g c =
    let more = c.in-Err.ensures.given in
    let same : c.len.result ≡ length c.loop-bytes.bytes.items = grind (arith, common_steps, c.loop-bytes.bytes.ok) in
    let within : length c.loop-bytes.bytes.items ≤ c.args.limit = grind (arith, common_steps, c.loop-bytes.bytes.ok) in
    let room = within_room _ _ c.args.limit c.wanted-want.result (length (take c.wanted-want.result c.loop-bytes.piece)) c.loop-bytes.piece same within c.wanted-want.ensures (omega arith) in (
      _,
      Consumes-then _ _ _ _ _ c.loop-bytes.invariant.given more.1,
      failed_more {V = (Rattle.std.specs.contracts.vec.Vec.the_row denote.Builtin.u8 Rattle.std.specs.contracts.alloc.Global.the_row Rattle.std.specs.contracts.impls.GlobalAllocator.TheImpl.ghosts).Denot} (λ x. x.items) _ _ _ c.read_more.new.bytes.items _ (g.I.Source.left c.read_more.new.input) _ room within more.2 more.3,
    )
