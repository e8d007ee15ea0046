use Rattle.std.proofs.Common.{◌<◌, sym, ap, ◌∙◌, subst, arith}
use mathlib.Core.Option.{none}
use Rattle.atomic_table.specs.Table.{Allows, step}
use Rattle.un_turn.specs.Rule.{Turned}
use Rattle.un_turn.specs.Steps.{met}
use Rattle.un_turn.proofs.Moves.{joins, compares}
use Rattle.un_turn.proofs.turn.Turn.join.Goals as goal

pub join_seat-requires : goal.join_seat-requires
join_seat-requires g c =
    let K = g.M.Machine in
    let l = c.left.invariant in
    let r = c.right.invariant in (
      ap (λ p. p.turn) c.left.view_is ∙ c.requires.turn.0 ∙ sym c.self.view_is,
      ap (λ p. p.turn) c.right.view_is ∙ c.requires.turn.1 ∙ sym c.self.view_is,
      r.0,
      omega (arith, c.self.invariant.0),
      joins K.script K.history K.flights _ _ _ _ l.1 r.1 l.2 (ap (λ p. p.view.known) c.right.view_is ∙ c.requires.none_known),
    )

pub load-requires : goal.load-requires
load-requires g c =
    let K = g.M.Machine in
    let e = c.join_seat.ensures in
    let t = c.join_seat.new.seat in
    let some_share : 0 < t.me.0.shares = omega (arith, c.left.invariant.2, ap (λ m. m.0.shares) e.2) in (
      e.0 ∙ ap (λ p. p.turn) c.left.view_is ∙ c.requires.turn.0 ∙ sym c.self.view_is,
      omega (arith, c.self.invariant.0),
      subst (λ n. Allows (Turned K.script K.history K.flights) n t.id t.me 0 (λ k. k) (met (step n 0 0 0 none) t.me)) (sym c.self.invariant.1) (compares K.script K.history K.flights t.id t.me some_share),
    )
