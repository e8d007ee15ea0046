use Rattle.std.proofs.Common.{refl}
use Rattle.un_lane.proofs.Doing.{wrote}
use Rattle.un_lane.proofs.Looping.{leaves_rest}
use Rattle.un_lane.proofs.Opening.{rx_done_writes, rx_done_stands}
use Rattle.un_lane.proofs.path.Path.rx_done.Goals as goal

pub write-requires-clause-room : goal.write-requires-clause-room
write-requires-clause-room g c =
    let r = rw (← c.self.view_is) at c.requires in
    rw (rx_done_writes _ _ _ c.in-Some.serial r.stands c.in-Some.ensures.some) at r.room

pub returns : goal.returns
returns g c =
    let w = rw (← c.self.view_is) at c.requires.stands in
    let opens = c.in-Some.ensures.some in
    rw (← c.self.view_is)
    (wrote _ _ _ _ _ _ _ (rx_done_writes _ _ _ _ w opens) c.write.ensures (λ l. refl, tt) (rx_done_stands _ _ _ _ w opens) (leaves_rest _ _ _ _ refl refl refl) refl)
