use Rattle.std.proofs.Common.{sym, ◌∙◌, subst, arith}
use mathlib.Core.Option.{none}
use Rattle.atomic_table.specs.Table.{Allows, step}
use Rattle.un_turn.specs.Rule.{Turned}
use Rattle.un_turn.specs.Steps.{freed}
use Rattle.un_turn.proofs.Moves.{leaves}
use Rattle.un_turn.proofs.turn.Turn.free.Goals as goal

pub store-requires : goal.store-requires
store-requires g c =
    let K = g.M.Machine in
    let t = c.args.token.now in
    let h = c.requires.held in (
      c.requires.turn ∙ sym c.self.view_is,
      omega (arith, c.self.invariant.0),
      subst (λ n. Allows (Turned K.script K.history K.flights) n t.id t.me 0 (λ _. 0) (λ _. freed K.history K.flights g.N.Amount.amount (step n 0 0 0 none) t.me 0)) (sym c.self.invariant.1) (leaves K.script K.history K.flights t.id g.N.Amount.amount t.me h.0 c.args._called h.1 h.2),
    )
