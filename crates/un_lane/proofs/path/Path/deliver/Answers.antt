use Rattle.std.proofs.Common.{refl}
use Rattle.un_lane.proofs.Doing.{wrote}
use Rattle.un_lane.proofs.Giving.{deliver_writes, deliver_stands, lent_some}
use Rattle.un_lane.proofs.Looping.{leaves_rest}
use Rattle.un_lane.proofs.path.Path.deliver.Goals as goal

pub write-requires-clause-room : goal.write-requires-clause-room
write-requires-clause-room g c =
    let r = rw (← c.self.view_is) at c.requires in
    rw (deliver_writes _ _ c.in-Some.number c.in-Some.bytes.now r.stands c.in-Some.ensures.some) at r.room

pub write-requires-clause-carried : goal.write-requires-clause-carried
write-requires-clause-carried g c =
    let w = rw (← c.self.view_is) at c.requires.stands in
    lent_some _ _ c.in-Some.number c.in-Some.bytes.now w c.in-Some.ensures.some

pub returns-in-Some : goal.returns-in-Some
returns-in-Some g c =
    let w = rw (← c.self.view_is) at c.requires.stands in
    let lent = c.in-Some.ensures.some in
    rw (← c.self.view_is)
    (wrote _ _ _ _ _ _ _ (deliver_writes _ _ c.in-Some.number c.in-Some.bytes.now w lent) c.write.ensures (λ l. refl, tt) (deliver_stands _ _ c.in-Some.number c.in-Some.bytes.now _ c.advance.result w lent c.advance.ensures) (leaves_rest _ _ _ _ refl refl refl) refl)
