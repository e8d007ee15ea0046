use Rattle.std.proofs.Common.{rules, [], refl}
use Rattle.un_journal.specs.declared.lines.Line.TheVariants.{Recalled}
use Rattle.un_lane.proofs.Doing.{stands_after}
use Rattle.un_lane.proofs.Recalling.{recall_stands}
use Rattle.un_lane.proofs.path.Path.recall.Goals as goal

pub returns-in-Some : goal.returns-in-Some
returns-in-Some g c =
    let w = rw (← c.self.view_is) at c.requires.stands in
    record {
      line = (Recalled c.self.inside.lane, []);
      first = rw (← c.self.view_is, c.in-Some.ensures.some) refl;
      adds = c.write.ensures;
      stands = rw c.give_back.ensures (stands_after _ _ _ _ c.write.ensures (λ l. refl, tt) (recall_stands _ _ c.recall.new.self c.in-Some.request w c.in-Some.ensures.some));
      kept = search rules;
    }
