use Rattle.std.proofs.Common.{◌≡◌}
use Rattle.un_link.specs.Link.{flights_of}
use Rattle.usbnet_tests.proofs.link_tests.reaches.Given as goal

abbrev pub invariant-loop-round : goal.invariant-loop-round
invariant-loop-round l = flights_of l.link ≡ flights_of l.fn.link
