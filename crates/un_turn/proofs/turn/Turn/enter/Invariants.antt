use Rattle.std.proofs.Common.{◌≡◌}
use Rattle.un_turn.specs.Views.{LostMore}
use Rattle.un_turn.proofs.turn.Turn.enter.Given as goal

abbrev pub invariant-loop : goal.invariant-loop
invariant-loop g l =
    (goal.iterator-loop g).can_next l.iterator' × (goal.iterator-loop g).is_finite l.iterator' × (l.waiting.turn ≡ l.self) × (l.waiting.id ≡ l.fn.seat.id) × LostMore l.fn.seat.view l.waiting.view
