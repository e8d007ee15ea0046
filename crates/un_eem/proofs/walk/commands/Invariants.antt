use Rattle.std.proofs.Common.{◌≡◌, ◌+◌, ◌-◌, ◌≤◌, length}
use Rattle.un_frame.specs.Eem.{command_count}
use Rattle.un_eem.specs.Frames.{commands_of}
use Rattle.un_eem.specs.Walk.{IsSound, packets_from}
use Rattle.un_eem.proofs.walk.commands.Given as goal

abbrev pub invariant-loop-at : goal.invariant-loop-at
invariant-loop-at l = record {
  sound : IsSound l.bytes l.at;
  same : l.count + command_count (packets_from l.bytes l.at) ≡ commands_of l.fn.bytes;
  few : l.count ≤ l.at;
}

abbrev pub decreases-loop-at : goal.decreases-loop-at
decreases-loop-at l = length l.bytes - l.at
