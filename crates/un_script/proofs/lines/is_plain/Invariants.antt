use Rattle.std.proofs.Common.{◌≡◌, ◌&&◌, drop}
use Rattle.std.specs.List.{list_all}
use Rattle.un_script.specs.Words.{is_plain}
use Rattle.un_script.proofs.lines.is_plain.Given as goal

abbrev pub invariant-loop-index : goal.invariant-loop-index
invariant-loop-index l = list_all is_plain l.line ≡ (l.plain && list_all is_plain (drop l.index l.line))
