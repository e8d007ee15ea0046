use Rattle.un_journal.proofs.Steps.StayLegal.{legal_act, legal_run}
use Rattle.un_journal.proofs.laws.steps_stay_legal.Goals as goal

pub returns : goal.returns
returns c = record { acts = legal_act; runs = legal_run }
