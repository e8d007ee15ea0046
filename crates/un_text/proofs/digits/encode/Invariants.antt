use Rattle.std.proofs.Common.{◌≡◌, ◌*◌, ◌++◌, take, drop}
use Rattle.hex.specs.Hex.{encode_lower}
use Rattle.un_text.proofs.digits.encode.Given as goal

abbrev pub invariant-loop-index : goal.invariant-loop-index
invariant-loop-index l = take (2 * l.index) l.to ++ encode_lower (drop l.index l.from) ≡ encode_lower l.from
