use Rattle.std.proofs.Common.{◌-◌, ◌*◌}
use Rattle.un_share.proofs.eleven.+fn-run_from-join+arg2+run_from.Given as goal

abbrev pub decreases-run_from : goal.decreases-run_from
decreases-run_from g l = 22 - 2 * l.actor

abbrev pub decreases-join+arg2 : goal.decreases-join+arg2
decreases-join+arg2 g l = 21 - 2 * l.actor
