use Rattle.un_link.specs.Flights.{flight_of}
use Rattle.un_link.proofs.Flights.{is_out, moves, reaps, stays}
use Rattle.un_link.proofs.link.LinkOver.move_flight.Goals as goal

pub land_flight-requires : goal.land_flight-requires
land_flight-requires g c =
    let t = rw c.in-Part.is at c.take_flight.ensures.lanes in
    rw c.carry.ensures (is_out (flight_of c.in-Part.flight) c.args.lane c.take_flight.new.self t.came.is_out)

pub returns-in-Cut : goal.returns-in-Cut
returns-in-Cut g c =
    let d = c.take_flight.ensures in
    reaps c.args.lane c.args.self.now c.take_flight.new.self (rw c.self.view_is at c.self.invariant) d.script d.history (rw c.in-Cut.is at d.lanes)

pub returns-in-Part : goal.returns-in-Part
returns-in-Part g c =
    let d = c.take_flight.ensures in
    let l = rw c.carry.ensures at c.land_flight.ensures in
    moves c.args.lane c.args.self.now c.take_flight.new.self c.land_flight.new.self c.in-Part.flight c.land_flight.result d.script d.history (rw c.in-Part.is at d.lanes) l.answer l.script l.history l.lanes

pub returns-in-Not : goal.returns-in-Not
returns-in-Not g c =
    let d = c.take_flight.ensures in
    let t = rw c.in-Not.is at d.lanes in
    stays c.args.lane c.args.self.now c.take_flight.new.self c.in-Not.answer (rw c.in-Not.is at d.refused) t.came.0
