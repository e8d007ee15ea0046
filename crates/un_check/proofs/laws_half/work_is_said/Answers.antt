use Rattle.un_check.proofs.HalfSteps.{work_said, silence_is}
use Rattle.un_check.proofs.laws_half.work_is_said.Goals as goal

pub returns : goal.returns
returns c = record { work = work_said; silence = silence_is }
