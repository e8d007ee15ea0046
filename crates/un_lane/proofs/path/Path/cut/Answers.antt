use Rattle.std.proofs.Common.{[], refl, ap}
use Rattle.un_journal.specs.declared.lines.Line.TheVariants.{Cut}
use Rattle.un_endpoint.specs.Ends.{Transmitter}
use Rattle.un_lane.proofs.Cutting.{cut_stands}
use Rattle.un_lane.proofs.Doing.{stands_after}
use Rattle.un_lane.proofs.path.Path.cut.Goals as goal

pub returns-in-Some : goal.returns-in-Some
returns-in-Some g c =
    let w = rw (← c.self.view_is) at c.requires.stands in
    record {
      line = (Cut c.self.inside.lane c.serial-serial.result c.args.cause, []);
      first = rw (← c.self.view_is, c.finish.ensures, c.in-Some.ensures.some.left, c.serial-serial.ensures) refl;
      adds = c.write.ensures;
      stands =
          rw c.finish.ensures
          (stands_after _ _ _ _ (rw c.serial-serial.ensures at c.write.ensures) (λ l. refl, tt) (cut_stands _ _ _ c.in-Some.request c.args.cause w c.in-Some.ensures.some));
      kept = rw (← c.self.view_is, c.finish.ensures) (record { lane_is = refl; params_are = ap (λ (u : Transmitter). u.params) c.in-Some.ensures.some.rest; builder_is = ap (λ (u : Transmitter). u.builder) c.in-Some.ensures.some.rest; bus_is = refl });
    }
