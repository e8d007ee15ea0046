use Rattle.std.proofs.Common.{rules, [], refl, ap}
use Rattle.un_journal.specs.declared.lines.Line.TheVariants.{Marked}
use Rattle.un_journal.specs.Step.{marked_each}
use Rattle.un_lane.proofs.Doing.{stands_after}
use Rattle.un_lane.proofs.Marking.{mark_first, mark_stands}
use Rattle.un_lane.proofs.path.Path.mark.Goals as goal

pub write-requires-clause-room : goal.write-requires-clause-room
write-requires-clause-room g c =
    let room = rw (← c.self.view_is) at c.requires.room in
    rw (mark_first _ _ c.args.cause c.in-Some.serial c.in-Some.ensures) at room

pub returns : goal.returns
returns g c =
    let w = rw (← c.self.view_is) at c.requires.stands in
    record {
      line = (Marked c.self.inside.lane c.in-Some.serial c.args.cause, []);
      first = rw (← c.self.view_is) (ap (marked_each c.self.inside.lane c.args.cause) (mark_first _ _ c.args.cause c.in-Some.serial c.in-Some.ensures));
      adds = c.write.ensures;
      stands = stands_after _ _ _ _ c.write.ensures (λ l. refl, tt) (mark_stands _ _ _ c.in-Some.serial c.args.cause w c.in-Some.ensures);
      kept = search rules;
    }
