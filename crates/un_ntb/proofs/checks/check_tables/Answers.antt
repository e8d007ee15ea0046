use Rattle.std.proofs.Common.{◌≡◌, ◌+◌, ◌-◌, ◌==◌, false, [], ◌∷◌, ◌++◌, take, set, sym, ap, ◌∙◌, arith}
use Rattle.std.proofs.lemmas.Grind.{common_steps}
use Rattle.std.specs.List.{list_any}
use Rattle.un_frame.specs.Bytes.{number_at}
use Rattle.un_frame.proofs.NtbSteps.{tables_go}
use Rattle.un_ntb.specs.Formats.{format_of}
use Rattle.un_ntb.proofs.checks.check_tables.Goals as goal

pub loop-count-preserved : goal.loop-count-preserved
loop-count-preserved g c =
    let f = format_of g.row.WIDTH in
    let at = c.number-at.result in
    let before = take c.loop-count.count c.loop-count.seen in
    let after = take (c.loop-count.count + 1) (set c.loop-count.seen c.loop-count.count at) in
    let seen : list_any (λ earlier. earlier == at) before ≡ false = grind (arith, common_steps) in
    let more : after ≡ before ++ at ∷ [] = grind (arith, common_steps, c.loop-count.invariant.seen) in
    let last = c.next_ndp_index.ensures.value in
    let go = tables_go f c.args.block.now (32 - c.loop-count.count) (32 - (c.loop-count.count + 1)) before after c.loop-count.field at (at + c.next_ndp_index.result) (omega arith) c.number-at.ensures.value seen (sym c.in_ok-check_table.ensures.fault) (λ n. c.if-number-eq0.false (c.number.ensures.value ∙ ap (λ k. number_at f.width c.args.block.now (at + k)) last ∙ n)) more (ap (λ n. at + n) last) in
    record {
      room = omega (arith, c.in_ok-check_table.ensures.room, c.next_ndp_index.ensures.inside);
      seen = grind (arith, common_steps, c.loop-count.invariant.seen);
      same = sym go ∙ c.loop-count.invariant.same;
    }
