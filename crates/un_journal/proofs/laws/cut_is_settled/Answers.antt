use Rattle.un_journal.specs.Drain.{drain}
use Rattle.un_journal.proofs.Finish.DoneIsFinal.{cut_off, given_prefix}
use Rattle.un_journal.proofs.Finish.Drain.{drain_extends}
use Rattle.un_journal.proofs.Bounds.Parameters.{have_pools}
use Rattle.un_journal.proofs.laws.cut_is_settled.Goals as goal

pub returns : goal.returns
returns c = record {
  settled = λ script h ranges legal w. cut_off script h (have_pools script.params ranges) legal w;
  kept = λ script h lane. given_prefix h (drain script h) lane (drain_extends _ script h);
}
