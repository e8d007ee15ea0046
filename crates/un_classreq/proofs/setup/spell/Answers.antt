use Rattle.std.proofs.Common.{arith}
use Rattle.un_frame.specs.Bytes.{number_bytes}
use Rattle.un_classreq.proofs.SetupLemmas.{packet_again}
use Rattle.un_classreq.proofs.setup.spell.Goals as goal

pub returns-clause-again : goal.returns-clause-again
unfolding number_bytes
returns-clause-again c =
    rw (c.short.ensures, c.short-2.ensures, c.short-3.ensures) (packet_again _ (omega (arith, c.ranges.value)) (omega (arith, c.ranges.index)) (omega (arith, c.ranges.length)))
