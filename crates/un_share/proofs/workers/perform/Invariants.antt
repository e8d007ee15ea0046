use Rattle.std.proofs.Common.{◌≡◌, ◌≤◌, []}
use Rattle.un_share.specs.Workers.{Later}
use Rattle.un_share.proofs.workers.perform.Given as goal

abbrev pub invariant-loop-count : goal.invariant-loop-count
invariant-loop-count g l = (l.seat.turn ≡ l.turn) × (l.seat.view.known ≡ []) × Later l.fn.seat.view l.seat.view l.count × (l.idle ≤ l.count)
