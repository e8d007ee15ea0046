use Rattle.un_check.proofs.MomentSteps.{line_begins_step, step_is_legal, read_step_is_legal}
use Rattle.un_check.proofs.laws_moments.steps_leave_moments.Goals as goal

pub returns : goal.returns
returns c = record { begins = line_begins_step; legal = step_is_legal; read = read_step_is_legal }
