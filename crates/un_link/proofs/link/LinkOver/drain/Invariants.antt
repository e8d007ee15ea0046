use Rattle.std.proofs.Common.{◌≡◌, ◌-◌, length}
use Rattle.un_journal.specs.Drain.{drain, line_bound}
use Rattle.un_journal.specs.Fits.{Legal}
use Rattle.un_link.specs.Link.{flights_of}
use Rattle.un_link.proofs.link.LinkOver.drain.Given as goal

abbrev pub invariant-loop : goal.invariant-loop
invariant-loop g l = record {
  script : l.self.script ≡ l.fn.self.script;
  flights : flights_of l.self ≡ flights_of l.fn.self;
  legal : Legal l.self.script l.self.log.history;
  drained : drain l.self.script l.self.log.history ≡ drain l.fn.self.script l.fn.self.log.history;
}

abbrev pub decreases-loop : goal.decreases-loop
decreases-loop g l = line_bound l.self.script - length l.self.log.history
