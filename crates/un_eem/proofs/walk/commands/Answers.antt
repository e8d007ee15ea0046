use Rattle.std.proofs.Common.{◌+◌, ℕ, zero-add, sym, ap, ◌∙◌, arith}
use Rattle.un_frame.specs.Eem.{command_count}
use Rattle.un_eem.specs.Walk.{packets_from}
use Rattle.un_eem.proofs.FrameSteps.{commands_on}
use Rattle.un_eem.proofs.Reading.{sound_start}
use Rattle.un_eem.proofs.Steps.{packets_end}
use Rattle.un_eem.proofs.walk.commands.Goals as goal

pub loop-at-init : goal.loop-at-init
loop-at-init c = record { sound = sound_start c.args.bytes.now (sym c.requires); same = zero-add _; few = omega arith }

pub loop-at-preserved : goal.loop-at-preserved
loop-at-preserved c =
    let rest = command_count (packets_from c.args.bytes.now c.after-at.result) in
    let here = c.commands_here-count.ensures in
    let step = commands_on c.args.bytes.now c.loop-at.at c.after-at.result c.loop-at-test.true c.after-at.ensures.next ∙ ap (λ (n : ℕ). n + rest) (sym here.count) in
    let so_far = c.loop-at.invariant.same in
    let few = c.loop-at.invariant.few in
    let further = c.after-at.ensures.further in
    record { sound = c.after-at.ensures.sound; same = omega (arith, step, so_far); few = omega (arith, few, further, here.most) }

pub returns : goal.returns
returns c =
    let none = ap command_count (packets_end c.args.bytes.now c.loop-at.at c.loop-at-test.false) in
    let so_far = c.loop-at.invariant.same in
    omega (arith, none, so_far)
