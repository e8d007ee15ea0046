use Rattle.std.proofs.Common.{arith}
use Rattle.un_toy.specs.Queue.{is_took, is_flying, is_landed, flight}
use Rattle.un_toy.proofs.Counts.{pushed, is_out}
use Rattle.un_toy.proofs.Queue.land.Goals as goal

pub invariant_of-self : goal.invariant_of-self
invariant_of-self c =
    let s = c.args.self.now in
    let out = is_out (flight c.args.serial) s.flown s.landed c.requires in
    let grows = c.push.ensures.history in
    record {
      offers = omega (arith, s.offers, pushed is_took _ _ _ grows);
      flights = omega (arith, s.flights, pushed is_flying _ _ _ grows);
      landings = omega (arith, s.landings, pushed is_landed _ _ _ grows);
      order = (omega arith, omega arith, omega arith, omega arith);
      room = omega (arith, s.room, c.push.ensures.lines);
    }
