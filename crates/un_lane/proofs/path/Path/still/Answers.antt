use Rattle.std.proofs.Common.{◌∙◌}
use Rattle.un_lane.proofs.Stillness.{still_is}
use Rattle.un_lane.proofs.path.Path.still.Goals as goal

pub returns-clause-lines : goal.returns-clause-lines
returns-clause-lines g c = λ frames cause lines w a. c.stays.ensures ∙ still_is c.args.phase c.args.self.now frames cause lines w a
