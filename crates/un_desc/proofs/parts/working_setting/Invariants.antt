use Rattle.std.proofs.Common.{◌≡◌, length}
use Rattle.un_desc.specs.Reading.{setting_of}
use Rattle.un_desc.proofs.parts.working_setting.Given as goal

-- no setting before here will do
abbrev pub invariant-loop-descriptor : goal.invariant-loop-descriptor
invariant-loop-descriptor l = setting_of l.number l.rest ≡ setting_of l.fn.number l.fn.descriptors

abbrev pub decreases-loop-descriptor : goal.decreases-loop-descriptor
decreases-loop-descriptor l = length l.rest
