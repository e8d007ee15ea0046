use Rattle.std.proofs.Common.{◌≡◌, ◌-◌, length}
use Rattle.un_eem.specs.Frames.{frames_from, places_from}
use Rattle.un_eem.specs.Walk.{IsSound}
use Rattle.un_eem.proofs.walk.skip_commands.Given as goal

abbrev pub invariant-loop-at : goal.invariant-loop-at
invariant-loop-at l = record {
  sound : IsSound l.bytes l.at;
  same : frames_from l.bytes l.at ≡ frames_from l.fn.bytes l.fn.at;
  places : places_from l.bytes l.at ≡ places_from l.fn.bytes l.fn.at;
}

abbrev pub decreases-loop-at : goal.decreases-loop-at
decreases-loop-at l = length l.bytes - l.at
