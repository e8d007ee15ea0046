use Rattle.un_journal.specs.History.{past}
use Rattle.un_journal.proofs.Steps.StaySound.{legal_good}
use Rattle.un_journal.proofs.Lanes.PoolSums.{legal_sums, away_some, away_none}
use Rattle.un_journal.proofs.Lanes.Somewhere.{somewhere}
use Rattle.un_journal.proofs.laws.pools_add_up.Goals as goal

pub returns : goal.returns
returns c = record {
  transmit = λ script h lane legal. (legal_sums script h legal lane).transmit;
  receive = λ script h lane legal. (legal_sums script h legal lane).receive;
  posted = λ script h lane legal. (legal_sums script h legal lane).posted_is;
  somewhere = λ script h lane legal. somewhere script.params lane (past lane h) ((legal_good script h legal).sound lane) (legal_sums script h legal lane);
  in_pool = λ script h lane legal. ((legal_sums script h legal lane).transmit_in_pool, (legal_sums script h legal lane).receive_in_pool);
  some_away = away_some;
  none_away = away_none;
}
