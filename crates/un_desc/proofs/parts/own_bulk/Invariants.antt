use Rattle.std.proofs.Common.{◌≡◌, length}
use Rattle.un_desc.specs.Reading.{bulk_of, merged_bulk}
use Rattle.un_desc.proofs.parts.own_bulk.Given as goal

-- the endpoints so far and those that are left are those of all
abbrev pub invariant-loop-descriptor : goal.invariant-loop-descriptor
invariant-loop-descriptor l = merged_bulk l.found (bulk_of l.rest) ≡ bulk_of l.fn.descriptors

abbrev pub decreases-loop-descriptor : goal.decreases-loop-descriptor
decreases-loop-descriptor l = length l.rest
