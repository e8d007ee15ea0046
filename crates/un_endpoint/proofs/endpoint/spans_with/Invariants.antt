use Rattle.std.proofs.Common.{◌≡◌, ◌≤◌, take}
use Rattle.un_endpoint.specs.Bus.{queued_count}
use Rattle.un_endpoint.proofs.endpoint.spans_with.Given as goal

-- the transfers so far are counted
abbrev pub invariant-loop-index : goal.invariant-loop-index
invariant-loop-index l = (l.count ≡ queued_count l.number (take l.index l.queue.items)) × (l.count ≤ l.index)
