use Rattle.std.proofs.Common.{◌≡◌, ◌∙◌, sym, ap, slice_get, ◌+◌, ◌<◌, ◌^◌, arith}
use Rattle.un_link.specs.declared.shared.Shared.{Shared}
use Rattle.un_link.proofs.Controlling.{did_room, did_keep, order_room, order_holds, order_steps, index_small}
use Rattle.un_link.proofs.Refusing.{hindered_steps}
use Rattle.un_link.proofs.link.LinkOver.order.Goals as goal

pub push-requires-clause-lines : goal.push-requires-clause-lines
push-requires-clause-lines g c =
    let none : c.hinders-count.result ≡ 0 = omega arith in
    did_room _ c.self.invariant c.args.due c.args.forced (rw (← c.self.view_is) at c.requires.head) (rw (← c.self.view_is) at c.requires.fits) (rw (← c.self.view_is) at (sym c.hinders-count.ensures ∙ none))

pub obey-requires-clause-keep : goal.obey-requires-clause-keep
obey-requires-clause-keep g c =
    let none : c.hinders-count.result ≡ 0 = omega arith in
    did_keep _ c.self.invariant c.args.due c.args.forced (rw (← c.self.view_is) at c.requires.head) (rw (← c.self.view_is) at c.requires.fits) (rw (← c.self.view_is) at (sym c.hinders-count.ensures ∙ none))
    c.push.new.self c.push.ensures.history c.push.ensures.lines c.push.ensures.bytes

pub obey-requires-clause-room : goal.obey-requires-clause-room
obey-requires-clause-room g c =
    let none : c.hinders-count.result ≡ 0 = omega arith in
    order_room _ c.self.invariant c.args.due c.args.forced (rw (← c.self.view_is) at c.requires.head) (rw (← c.self.view_is) at c.requires.fits) (rw (← c.self.view_is) at (sym c.hinders-count.ensures ∙ none))
    c.push.new.self c.push.ensures.history c.push.ensures.lines c.push.ensures.bytes

pub overflow_add-self : goal.overflow_add-self
overflow_add-self g c =
    let b : c.self.inside.shared.next_control + 1 < 2 ^ 32 = index_small c.self.inside.shared.script.controls c.self.inside.shared.next_control c.args.due (ap (slice_get c.self.inside.shared.script.controls) c.self.invariant.next_control_is ∙ (rw (← c.self.view_is) at c.requires.head)) c.prove_ready.ensures.controls in
    omega arith

pub invariant_of-self : goal.invariant_of-self
invariant_of-self g c =
    let none : c.hinders-count.result ≡ 0 = omega arith in
    let o = c.obey.ensures in
    rw c.phase_after-phase.ensures
    (order_holds _ c.self.invariant c.args.due c.args.forced (rw (← c.self.view_is) at c.requires.head) (rw (← c.self.view_is) at c.requires.fits) (rw (← c.self.view_is) at (sym c.hinders-count.ensures ∙ none))
    c.push.new.self c.push.ensures.history c.push.ensures.lines c.push.ensures.bytes
    c.obey.new.shared.journal c.obey.new.out c.obey.new.inward _ (ap (λ (s : Shared). s.script) o.shares) o.obeys)

pub returns : goal.returns
returns g c =
    let none : c.hinders-count.result ≡ 0 = omega arith in
    let o = c.obey.ensures in
    rw (← c.self.view_is, c.phase_after-phase.ensures)
    (order_steps _ c.self.invariant c.args.due c.args.forced (rw (← c.self.view_is) at c.requires.head) (rw (← c.self.view_is) at c.requires.fits) (rw (← c.self.view_is) at (sym c.hinders-count.ensures ∙ none))
    c.push.new.self c.push.ensures.history c.push.ensures.lines c.push.ensures.bytes
    c.obey.new.shared.journal c.obey.new.out c.obey.new.inward _ (ap (λ (s : Shared). s.script) o.shares) o.obeys)

pub returns-then-count-gt0 : goal.returns-then-count-gt0
returns-then-count-gt0 g c =
    let held = c.self.invariant in
    rw (← c.self.view_is) (hindered_steps _ c.args.due c.args.forced c.hinders-count.result held.phase_is (rw (← c.self.view_is) at c.hinders-count.ensures) (omega arith))
