use Rattle.std.proofs.Common.{subst}
use Rattle.un_check.specs.Transfers.{AreCounts}
use Rattle.un_check.proofs.TransferCounts.{out_made}
use Rattle.un_check.proofs.transfers.Transfers.add.Goals as goal

pub end_next-requires : goal.end_next-requires
end_next-requires c = out_made _ (subst AreCounts c.self.view_is c.self.invariant) (rw c.in-Landed.is at c.requires).1

pub fail_next-requires : goal.fail_next-requires
fail_next-requires c = out_made _ (subst AreCounts c.self.view_is c.self.invariant) (rw c.in-Failed.is at c.requires).1
