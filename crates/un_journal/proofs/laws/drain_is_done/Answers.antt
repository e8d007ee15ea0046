use Rattle.un_journal.proofs.Steps.StayLegal.{legal_drain}
use Rattle.un_journal.proofs.Finish.Drain.{enough_fuel, drain_done}
use Rattle.un_journal.proofs.laws.drain_is_done.Goals as goal

pub returns : goal.returns
returns c = record {
  legal = legal_drain;
  ends = λ script h rounds legal e. enough_fuel rounds script h legal e;
  done = drain_done;
}
