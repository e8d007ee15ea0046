use Rattle.std.proofs.Common.{◌≡◌, ◌<◌, sym, subst, ap, ◌∙◌}
use Rattle.un_journal.specs.Flights.{times}
use Rattle.un_link.specs.Flights.{LaneTrip, flight_of}
use Rattle.un_link.specs.Link.{flights_of}
use Rattle.usbnet_tests.proofs.Taken.{taken_is_out}
use Rattle.usbnet_tests.proofs.link_tests.lands_after_a_stop.Goals as goal

-- neither the refused take nor the stop lands it
pub land_flight-requires : goal.land_flight-requires
land_flight-requires c =
    let taken = flight_of c.in-Part.flight in
    let same : times taken (flights_of c.answers-stopping.new.link) ≡ times taken (flights_of c.take_flight.new.self) =
    ap (times taken) c.answers-stopping.ensures ∙ c.refuses_take-refuses.ensures taken in
    subst (λ (f : LaneTrip). 0 < times (flight_of f) (flights_of c.answers-stopping.new.link)) (sym c.carry.ensures)
    (subst (λ n. 0 < n) (sym same) (taken_is_out taken _ _ c.in-Part.ensures.taken.1))
