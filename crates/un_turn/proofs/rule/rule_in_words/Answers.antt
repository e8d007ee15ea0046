use Rattle.un_turn.proofs.Owners.{in_words}
use Rattle.un_turn.proofs.rule.rule_in_words.Goals as goal

pub returns : goal.returns
returns g c = let K = g.M.Machine in in_words K.script K.history K.flights
