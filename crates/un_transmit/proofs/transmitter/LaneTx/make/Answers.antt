use Rattle.std.proofs.Common.{ap, ◌∙◌}
use Rattle.un_frame.specs.Lanes.{tx_size}
use Rattle.un_wire.specs.Codings.{coding_of}
use Rattle.un_transmit.proofs.TxLemmas.{started}
use Rattle.un_transmit.proofs.transmitter.LaneTx.make.Goals as goal

pub invariant_of-result : goal.invariant_of-result
invariant_of-result g c =
    let size = c.size_of-size.ensures.size ∙ ap (tx_size c.args.params.now) c.LANE.ensures in
    started g.B.Builder.LANE c.args.params.now (coding_of c.in_ok-codec.codec) c.size_of-size.result c.capacity.result (g.B.Builder.held c.in_ok-builder.builder) c.in_ok-pool.pool c.in_ok-deferred.deferred c.in_ok-done.done
    c.requires.in_range c.requires.agree c.in_ok-codec.ensures size c.capacity.ensures c.in_ok-builder.ensures c.in_ok-pool.ensures c.in_ok-deferred.ensures c.in_ok-done.ensures
