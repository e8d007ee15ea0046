use Rattle.un_check.proofs.MomentReads.{no_line_reads, line_reads, other_differs, reads_join, differs_after, differs_before}
use Rattle.un_check.proofs.laws_moments.reads_are_joined.Goals as goal

pub returns : goal.returns
returns c = record {
  none = no_line_reads;
  one = line_reads;
  other = other_differs;
  joined = reads_join;
  after = differs_after;
  before = differs_before;
}
