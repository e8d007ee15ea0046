use Rattle.std.proofs.Common.{arith, ◌≡◌, length, nat_lt, subst, sym, ap, ◌∙◌}
use Rattle.un_link.specs.Link.{Holds, Link}
use Rattle.un_link.proofs.Draining.{round_drains, control_drains}
use Rattle.un_link.proofs.link.LinkOver.drain_on.Goals as goal

pub returns-then-len-before : goal.returns-then-len-before
returns-then-len-before g c =
    let a : c.len-before.result ≡ length c.args.self.now.log.history = c.len-before.ensures ∙ ap (λ (l : Link). length l.log.history) c.self.view_is in
    let b : c.len.result ≡ length c.round.new.self.log.history = c.len.ensures ∙ ap (λ (l : Link). length l.log.history) c.self-2.view_is in
    round_drains c.args.self.now c.round.new.self (subst Holds c.self.view_is c.self.invariant) (subst Holds c.self-2.view_is c.self-2.invariant) c.round.ensures.script c.round.ensures.flights c.round.ensures.history
    (omega (arith, a, b, c.if-len-before.true))

pub returns : goal.returns
returns g c =
    let a : c.len-before.result ≡ length c.args.self.now.log.history = c.len-before.ensures ∙ ap (λ (l : Link). length l.log.history) c.self.view_is in
    let b : c.len.result ≡ length c.round.new.self.log.history = c.len.ensures ∙ ap (λ (l : Link). length l.log.history) c.self-2.view_is in
    let d : c.len-2.result ≡ length c.step.new.self.log.history = c.len-2.ensures ∙ ap (λ (l : Link). length l.log.history) c.self-3.view_is in
    control_drains c.args.self.now c.round.new.self c.step.new.self (nat_lt c.len-before.result c.len-2.result) (subst Holds c.self.view_is c.self.invariant) (subst Holds c.self-3.view_is c.self-3.invariant)
    c.round.ensures.script c.step.ensures.script c.round.ensures.flights c.step.ensures.flights c.round.ensures.history (omega (arith, a, b, c.if-len-before.false)) c.step.ensures.history
    (ap (λ n. nat_lt n (length c.step.new.self.log.history)) (sym a) ∙ ap (λ n. nat_lt c.len-before.result n) (sym d))
