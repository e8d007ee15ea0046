use Rattle.std.proofs.Common.{◌≡◌, length}
use Rattle.un_lane.specs.Controls.{resumed}
use Rattle.un_lane.specs.Stands.{ArePlaced}
use Rattle.un_lane.proofs.path.Path.resume.Given as goal

abbrev pub invariant-loop : goal.invariant-loop
invariant-loop g l = record {
  placed : ArePlaced l.self.lane l.self.tx l.self.rx l.self.bus;
  same : resumed l.self ≡ resumed l.fn.self;
}

abbrev pub decreases-loop : goal.decreases-loop
decreases-loop g l = length l.self.tx.deferred
