use Rattle.std.proofs.Common.{◌≡◌}
use Rattle.un_link.specs.Link.{flights_of}
use Rattle.usbnet_tests.proofs.link_tests.go_on.Given as goal

abbrev pub invariant-loop-action : goal.invariant-loop-action
invariant-loop-action l = flights_of l.link ≡ flights_of l.fn.link
