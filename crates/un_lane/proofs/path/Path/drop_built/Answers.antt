use Rattle.std.proofs.Common.{refl}
use Rattle.un_lane.proofs.Doing.{stands_after}
use Rattle.un_lane.proofs.Dropping.{drop_stands}
use Rattle.un_lane.proofs.path.Path.drop_built.Goals as goal

pub returns-clause-stands : goal.returns-clause-stands
returns-clause-stands g c =
    let w = rw (← c.self.view_is) at c.requires.stands in
    stands_after _ _ _ _ c.write.ensures (λ l. refl, tt) (drop_stands _ _ _ c.in-Some.from c.in-Some.to c.args.cause w c.in-Some.ensures)
