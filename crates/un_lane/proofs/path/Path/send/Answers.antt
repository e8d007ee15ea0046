use Rattle.un_lane.proofs.path.Path.send.Goals as goal

pub write-requires-clause-room : goal.write-requires-clause-room
write-requires-clause-room g c =
    let room = rw (← c.self.view_is) at c.requires.room in
    rw (c.from.ensures, c.to.ensures, c.bytes.ensures.bytes) room
