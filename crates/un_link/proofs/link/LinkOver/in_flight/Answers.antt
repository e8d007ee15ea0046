use Rattle.std.proofs.Common.{◌∙◌}
use Rattle.un_link.proofs.Controlling.{in_flight_is}
use Rattle.un_link.proofs.link.LinkOver.in_flight.Goals as goal

pub returns : goal.returns
returns g c = rw (← c.self.view_is) (in_flight_is _ _ _ _ c.self.invariant (c.from.ensures ∙ c.queued.ensures) c.flights_out.ensures c.flights_out-2.ensures)
