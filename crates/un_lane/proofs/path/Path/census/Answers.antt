use Rattle.un_lane.proofs.Numbering.{census_is}
use Rattle.un_lane.proofs.path.Path.census.Goals as goal

pub returns : goal.returns
returns g c = λ phase lines w a.
    let stands = rw (← c.self.view_is) at w in
    let agrees = rw (← c.self.view_is) at a in
    rw (← c.self.view_is, c.tx_census-builder.ensures.builder, c.tx_census-builder.ensures.remainder, c.tx_census-builder.ensures.deferred, c.census-queued.ensures.queued, c.census-queued.ensures.flying, c.rx_census-arrived.ensures.arrived, c.rx_census-arrived.ensures.current)
    (census_is phase _ lines c.args.number stands agrees)
