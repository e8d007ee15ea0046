use Rattle.std.proofs.Common.{◌+◌, ◌<◌, List, [], length, Ok, sym, ap, ◌∙◌, arith}
use Rattle.un_setup.specs.declared.exchange.Exchange.{Exchange}
use Rattle.un_setup.proofs.Exchanged.{nothing_yet, one_more, one_stalled}
use Rattle.un_setup.proofs.host.exchange_steps.Goals as goal

pub returns-in_default-clause-stopped : goal.returns-in_default-clause-stopped
returns-in_default-clause-stopped c = (0, record { within = omega arith; done = []; crossed = nothing_yet c.args.device.now })

pub loop-step-init : goal.loop-step-init
loop-step-init c = nothing_yet c.args.device.now ∙ ap (λ (es : List Exchange). Ok (record { gadget = c.args.device.now; exchanges = es })) (sym c.in-Ok.ensures.items)

pub returns-in-Err-clause-stalled : goal.returns-in-Err-clause-stalled
returns-in-Err-clause-stalled c =
    let inside : c.loop-step.step-index < length c.args.steps.now = omega arith in
    one_stalled c.args.steps.now c.loop-step.step-index c.args.device.now c.loop-step.device c.step-item.result c.loop-step.done.items c.in-Err.fault inside c.step-item.is c.loop-step.invariant c.in-Err.ensures.stopped.1

pub loop-step-preserved : goal.loop-step-preserved
loop-step-preserved c =
    let inside : c.loop-step.step-index < length c.args.steps.now = omega arith in
    one_more c.args.steps.now c.loop-step.step-index c.args.device.now c.loop-step.device c.cross.new.device c.step-item.result c.in-Ok-cross.crossed c.loop-step.done.items inside c.step-item.is c.loop-step.invariant c.in-Ok-cross.ensures.crossed
    ∙ ap (λ (es : List Exchange). Ok (record { gadget = c.cross.new.device; exchanges = es })) (sym c.in-Ok-push.ensures.items)

pub returns-in_default-push-clause-stopped : goal.returns-in_default-push-clause-stopped
returns-in_default-push-clause-stopped c =
    let inside : c.loop-step.step-index < length c.args.steps.now = omega arith in (
      c.loop-step.step-index + 1,
      record {
        within = omega arith;
        done = _;
        crossed = one_more c.args.steps.now c.loop-step.step-index c.args.device.now c.loop-step.device c.cross.new.device c.step-item.result c.in-Ok-cross.crossed c.loop-step.done.items inside c.step-item.is c.loop-step.invariant c.in-Ok-cross.ensures.crossed;
      },
    )
