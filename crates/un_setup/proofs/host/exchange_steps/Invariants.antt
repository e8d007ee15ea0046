use Rattle.std.proofs.Common.{◌≡◌, take, Ok}
use Rattle.un_setup.specs.Exchanges.{exchanged}
use Rattle.un_setup.proofs.host.exchange_steps.Given as goal

-- the steps so far crossed, and no other
abbrev pub invariant-loop-step : goal.invariant-loop-step
invariant-loop-step l = exchanged l.fn.device (take l.step-index l.steps) ≡ Ok (record { gadget = l.device; exchanges = l.done.items })
