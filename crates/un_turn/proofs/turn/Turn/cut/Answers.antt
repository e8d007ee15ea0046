use Rattle.std.proofs.Common.{sym, ◌∙◌, subst, arith}
use Rattle.atomic_table.specs.Table.{Splits}
use Rattle.un_turn.specs.Rule.{Turned}
use Rattle.un_turn.specs.Steps.{split_left, split_right}
use Rattle.un_turn.proofs.Moves.{splits}
use Rattle.un_turn.proofs.turn.Turn.cut.Goals as goal

pub split_seat-requires : goal.split_seat-requires
split_seat-requires g c =
    let K = g.M.Machine in
    let t = c.args.token.now in
    let r = c.requires in (
      r.turn ∙ sym c.self.view_is,
      omega (arith, c.self.invariant.0),
      subst (λ n. Splits (Turned K.script K.history K.flights) t.id t.me.0 (split_left n t.me.0) (split_right n t.me.0)) (sym r.pick) (splits K.script K.history K.flights t.id c.args._shares t.me.0 r.away.1 r.shares.0 r.shares.1),
    )
