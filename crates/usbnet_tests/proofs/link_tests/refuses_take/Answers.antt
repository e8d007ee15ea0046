use Rattle.std.proofs.Common.{◌<◌, sym, subst}
use Rattle.un_journal.specs.Flights.{times}
use Rattle.un_link.specs.Flights.{LaneTrip, flight_of}
use Rattle.un_link.specs.Link.{flights_of}
use Rattle.usbnet_tests.proofs.Taken.{taken_is_out}
use Rattle.usbnet_tests.proofs.link_tests.refuses_take.Goals as goal

pub land_flight-requires : goal.land_flight-requires
land_flight-requires c =
    subst (λ (f : LaneTrip). 0 < times (flight_of f) (flights_of c.take_flight.new.self)) (sym c.carry.ensures)
    (taken_is_out (flight_of c.in-Part.flight) _ _ c.in-Part.ensures.taken.1)
