use Rattle.un_check.proofs.HalfKept.{fresh_kept, half_kept, head_kept, feeds_kept, home_kept, taken_kept}
use Rattle.un_check.proofs.laws_half.half_is_kept.Goals as goal

pub returns : goal.returns
returns c = record {
  fresh = fresh_kept;
  line = half_kept;
  head = head_kept;
  feeds = feeds_kept;
  home = home_kept;
  taken = taken_kept;
}
