use Rattle.std.proofs.Common.{◌≡◌, ◌++◌}
use Rattle.std.specs.Int.{to_be_bytes, w32}
use Rattle.un_script.specs.Load.{ADDRESSES, load_body}
use Rattle.un_script.proofs.load.frame_of.Given as goal

abbrev pub invariant-loop-place : goal.invariant-loop-place
invariant-loop-place l = l.frame.items ≡ ADDRESSES ++ to_be_bytes w32 l.number ++ load_body l.number l.place
