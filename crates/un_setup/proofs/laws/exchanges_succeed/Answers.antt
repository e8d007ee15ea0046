use Rattle.un_setup.proofs.Exchanged.{exchange_succeeds}
use Rattle.un_setup.proofs.laws.exchanges_succeed.Goals as goal

pub returns : goal.returns
returns c = λ p range. exchange_succeeds p range
