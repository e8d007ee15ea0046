use Rattle.std.proofs.Common.{◌<◌, length, refl, sym, ap, ◌∙◌, arith}
use Rattle.un_desc.specs.Reading.{function_of}
use Rattle.un_classreq.specs.Notes.{notes_of}
use Rattle.un_setup.proofs.Exchanged.{never_stalls, all_crossed, first_crossed, reads_first, is_read, exchange_succeeds}
use Rattle.un_setup.proofs.host.set_device_up.Goals as goal

pub unreachable-requires : goal.unreachable-requires
unreachable-requires c = never_stalls c.args.params.now c.requires.range c.in_ok-device.device c.deref.result.now c.in-Err-Stalled.field-0 c.in-Err-Stalled.field-0-0 c.in_ok-device.ensures (c.deref.ensures.value ∙ c.in_ok-steps.ensures) c.in-Err-Stalled.field-0-is c.in-Err-Stalled.ensures.stalled

pub bounds-as_slice-0 : goal.bounds-as_slice-0
bounds-as_slice-0 c =
    let all = all_crossed c.args.params.now c.requires.range c.in_ok-device.device c.exchange_steps.new.device c.deref.result.now c.in-Ok.exchanges c.in_ok-device.ensures (c.deref.ensures.value ∙ c.in_ok-steps.ensures) c.in-Ok.ensures.crossed in
    let first = first_crossed c.args.params.now c.requires.described c.as_slice.result.now (c.as_slice.ensures ∙ all.1) in
    let some : 0 < length c.as_slice.result.now = first.some in
    omega arith

pub described-function-requires-clause-crossed : goal.described-function-requires-clause-crossed
described-function-requires-clause-crossed c =
    let all = all_crossed c.args.params.now c.requires.range c.in_ok-device.device c.exchange_steps.new.device c.deref.result.now c.in-Ok.exchanges c.in_ok-device.ensures (c.deref.ensures.value ∙ c.in_ok-steps.ensures) c.in-Ok.ensures.crossed in
    let first = first_crossed c.args.params.now c.requires.described c.as_slice.result.now (c.as_slice.ensures ∙ all.1) in
    c.as_slice-2.ensures ∙ first.first c.index-as_slice-0.result

pub returns-clause-agreed : goal.returns-clause-agreed
returns-clause-agreed c =
    let all = all_crossed c.args.params.now c.requires.range c.in_ok-device.device c.exchange_steps.new.device c.deref.result.now c.in-Ok.exchanges c.in_ok-device.ensures (c.deref.ensures.value ∙ c.in_ok-steps.ensures) c.in-Ok.ensures.crossed in
    let notes = c.make-2.ensures ∙ c.in_ok-notes.ensures ∙ ap notes_of all.0 ∙ (exchange_succeeds c.args.params.now c.requires.range).told in
    rw (all.1, notes, c.described-function.ensures.function) refl

pub returns-clause-set_up : goal.returns-clause-set_up
returns-clause-set_up c =
    let all = all_crossed c.args.params.now c.requires.range c.in_ok-device.device c.exchange_steps.new.device c.deref.result.now c.in-Ok.exchanges c.in_ok-device.ensures (c.deref.ensures.value ∙ c.in_ok-steps.ensures) c.in-Ok.ensures.crossed in
    let first = first_crossed c.args.params.now c.requires.described c.as_slice.result.now (c.as_slice.ensures ∙ all.1) in
    record {
      params = refl;
      crossed = rw all.1 (exchange_succeeds c.args.params.now c.requires.range).crossed;
      read = is_read _ _ _ _ c.requires.described (rw (← c.as_slice.ensures) (reads_first c.as_slice.result.now c.index-as_slice-0.result c.described-function.result first.some (ap function_of (sym c.as_slice-2.ensures) ∙ c.described-function.ensures.read)));
      told = c.make-2.ensures ∙ c.in_ok-notes.ensures ∙ ap notes_of all.0;
    }
