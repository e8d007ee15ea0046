use Rattle.std.proofs.Common.{◌≡◌, take}
use Rattle.un_journal.specs.Drain.{round, run}
use Rattle.un_link.specs.Link.{flights_of}
use Rattle.un_link.proofs.link.LinkOver.round.Given as goal

abbrev pub invariant-loop-index : goal.invariant-loop-index
invariant-loop-index g l = record {
  script : l.self.script ≡ l.fn.self.script;
  history : l.self.log.history ≡ run l.fn.self.script l.fn.self.log.history (take l.index round);
  flights : flights_of l.self ≡ flights_of l.fn.self;
}
