use Rattle.std.proofs.Common.{◌≡◌, length}
use Rattle.un_desc.specs.Reading.{merged, parts_of}
use Rattle.un_desc.proofs.parts.found.Given as goal

-- the parts so far and those that are left are those of all
abbrev pub invariant-loop-descriptor : goal.invariant-loop-descriptor
invariant-loop-descriptor l = merged l.parts (parts_of l.rest) ≡ parts_of l.fn.descriptors

abbrev pub decreases-loop-descriptor : goal.decreases-loop-descriptor
decreases-loop-descriptor l = length l.rest
