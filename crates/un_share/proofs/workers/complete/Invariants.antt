use Rattle.std.proofs.Common.{◌≡◌, ◌≤◌, []}
use Rattle.un_share.specs.Workers.{Past}
use Rattle.un_share.proofs.workers.complete.Given as goal

abbrev pub invariant-loop-round : goal.invariant-loop-round
invariant-loop-round g l = (l.seat.turn ≡ l.turn) × (l.seat.view.known ≡ []) × Past l.fn.seat.view l.seat.view l.round × (l.idle ≤ l.round)
