use Rattle.std.proofs.Common.{refl, sym, ◌∙◌}
use Rattle.un_lane.proofs.Doing.{wrote}
use Rattle.un_lane.proofs.Giving.{clear_is, clear_stands}
use Rattle.un_lane.proofs.Looping.{leaves_rest}
use Rattle.un_lane.proofs.path.Path.clear_halt.Goals as goal

pub write-requires-clause-room : goal.write-requires-clause-room
write-requires-clause-room g c =
    let r = rw (← c.self.view_is) at c.requires in
    rw (clear_is _ _ _ r.stands (sym c.clear.ensures.was ∙ c.if-not-clear.false)) at r.room

pub returns : goal.returns
returns g c =
    let w = rw (← c.self.view_is) at c.requires.stands in
    rw (← c.self.view_is, c.clear.ensures.bus) (wrote _ _ _ _ _ _ _ (clear_is _ _ _ w (sym c.clear.ensures.was ∙ c.if-not-clear.false)) c.write.ensures (λ l. refl, tt) (clear_stands _ _ w) (leaves_rest _ _ _ _ refl refl refl) refl)
