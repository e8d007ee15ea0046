use Rattle.std.proofs.Common.{◌≡◌}
use Rattle.un_link.specs.Link.{flights_of}
use Rattle.usbnet_tests.proofs.link_tests.answers.Given as goal

abbrev pub invariant-loop-row : goal.invariant-loop-row
invariant-loop-row l = flights_of l.link ≡ flights_of l.fn.link
