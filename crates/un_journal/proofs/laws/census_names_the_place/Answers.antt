use Rattle.un_journal.specs.History.{past}
use Rattle.un_journal.specs.Lookup.{phase_of}
use Rattle.un_journal.proofs.Lanes.CensusCounts.{adds_up, names_place, is_nowhere}
use Rattle.un_journal.proofs.Steps.StaySound.{legal_good}
use Rattle.un_journal.proofs.laws.census_names_the_place.Goals as goal

pub returns : goal.returns
returns c = record {
  adds_up = λ script h lane n legal low. adds_up script.params (phase_of script h) lane (past lane h) ((legal_good script h legal).sound lane) n low;
  names = λ script h lane n legal low. names_place script.params (phase_of script h) lane (past lane h) ((legal_good script h legal).sound lane) n low;
  nowhere = λ script h lane n legal high. is_nowhere script.params (phase_of script h) lane (past lane h) ((legal_good script h legal).sound lane) n high;
}
