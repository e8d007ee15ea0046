use Rattle.un_journal.specs.History.{past}
use Rattle.un_journal.proofs.Lanes.GivenOrder.{given_rises, given_taken}
use Rattle.un_journal.proofs.Bytes.TransferBytes.{legal_formed}
use Rattle.un_journal.proofs.Bounds.Parameters.{wire_holds}
use Rattle.un_journal.proofs.Steps.StaySound.{legal_good}
use Rattle.un_journal.proofs.laws.given_is_accepted.Goals as goal

pub returns : goal.returns
returns c = record {
  rises = λ script h lane legal. given_rises (past lane h) ((legal_good script h legal).sound lane);
  accepted = λ script h lane legal. given_taken (past lane h) ((legal_good script h legal).sound lane);
  unchanged = λ script h lane ranges agree legal. (legal_formed script h (wire_holds script.params ranges agree) legal lane).kept.gave_well;
}
