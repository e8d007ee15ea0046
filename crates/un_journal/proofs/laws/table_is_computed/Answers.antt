use Rattle.un_journal.proofs.Steps.OutcomesFit.{outcome_fits}
use Rattle.un_journal.proofs.Steps.OneStep.{fits_outcome}
use Rattle.un_journal.proofs.Steps.StaySound.{legal_good}
use Rattle.un_journal.proofs.laws.table_is_computed.Goals as goal

pub returns : goal.returns
returns c = record {
  fits = λ script h act lines e. outcome_fits script h lines act e;
  written = λ script h act lines legal f. fits_outcome script h lines act (legal_good script h legal) f;
}
