use Rattle.std.proofs.Common.{refl}
use Rattle.un_lane.proofs.Doing.{wrote}
use Rattle.un_lane.proofs.Giving.{post_stands, post_writes}
use Rattle.un_lane.proofs.Looping.{leaves_rest}
use Rattle.un_lane.proofs.path.Path.refill.Goals as goal

pub write-requires-clause-room : goal.write-requires-clause-room
write-requires-clause-room g c =
    let r = rw (← c.self.view_is) at c.requires in
    rw (post_writes _ _ _ c.in-Some.request r.stands c.in-Some.ensures.some) at r.room

pub returns-in-Ok : goal.returns-in-Ok
returns-in-Ok g c =
    let w = rw (← c.self.view_is) at c.requires.stands in
    let left = c.in-Some.ensures.some in
    rw (← c.self.view_is, c.in-Ok.ensures.ok.1) (wrote _ _ _ _ _ _ _ (post_writes _ _ _ c.in-Some.request w left) c.write.ensures (λ l. refl, tt) (post_stands _ _ _ _ c.in-Some.request w left refl) (leaves_rest _ _ _ _ refl refl refl) refl)
