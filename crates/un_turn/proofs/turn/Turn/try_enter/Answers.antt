use Rattle.std.proofs.Common.{◌∷◌, Some, sym, ap, ◌∙◌, subst, arith, eqb}
use mathlib.Core.Option.{none}
use prog.Atomic.{either}
use Rattle.atomic_table.specs.Table.{Allows, step, rest}
use Rattle.un_turn.specs.Rule.{Turned}
use Rattle.un_turn.specs.Steps.{won_or_lost}
use Rattle.un_turn.proofs.Kept.{taken_out}
use Rattle.un_turn.proofs.Moves.{tries}
use Rattle.un_turn.proofs.turn.Turn.try_enter.Goals as goal

pub compare_exchange-word-requires : goal.compare_exchange-word-requires
compare_exchange-word-requires g c =
    let K = g.M.Machine in
    let seat = c.seat.inside.token in
    let i = c.seat.invariant in (
      ap (λ p. p.turn) c.seat.view_is ∙ c.requires ∙ sym c.self.view_is,
      omega (arith, c.self.invariant.0),
      subst (λ n. Allows (Turned K.script K.history K.flights) n seat.id seat.me 0 (λ k. either (eqb k 0) 1 k) (won_or_lost K.script K.history K.flights (step n 0 0 1 none) seat.me)) (sym c.self.invariant.1) (tries K.script K.history K.flights seat.id seat.me i.1 i.2),
    )

pub exchange-requires : goal.exchange-requires
exchange-requires g c =
    let e = c.compare_exchange-word.ensures in
    let won = e.2.0 c.if-word-ne0.false in
    (e.0 ∙ ap (λ p. p.turn) c.seat.view_is ∙ c.requires ∙ sym c.self.view_is, (Some won.0, ap (λ n. n.1) won.1 ∙ ap (λ l. (0, Some won.0) ∷ rest l) (sym (ap (λ n. n.1) won.1))))

pub invariant_of-result : goal.invariant_of-result
invariant_of-result g c =
    let K = g.M.Machine in
    let i = c.seat.invariant in
    let e = c.compare_exchange-word.ensures in
    let x = c.exchange.ensures in
    let out = taken_out K.script K.history K.flights c.seat.inside.token.me c.compare_exchange-word.new.seat.me c.exchange.new.seat.me c.exchange.result c.unwrap-machine.result (e.2.0 c.if-word-ne0.false) i.0 i.2 i.3 x.2 x.3 c.unwrap-machine.ensures in
    (x.0 ∙ e.0 ∙ ap (λ p. p.turn) c.seat.view_is ∙ c.requires, out.0, out.1, out.2)
