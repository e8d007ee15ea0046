use Rattle.un_journal.proofs.Finish.NothingLost.{nothing_lost}
use Rattle.un_journal.proofs.Bounds.Parameters.{have_pools}
use Rattle.un_journal.proofs.laws.nothing_is_lost.Goals as goal

pub returns : goal.returns
returns c = record {
  given = λ script h lane ranges w d. (nothing_lost script h (have_pools script.params ranges) w d lane).all_given;
  accepted = λ script h lane sender ranges w d. (nothing_lost script h (have_pools script.params ranges) w d lane).all_accepted sender;
}
