-- The device's answer by that of the tests.
use Rattle.std.proofs.Common.{◌≡◌, ℕ, List, Result, Ok, Err}
use Rattle.un_classreq.specs.declared.setup.Setup.{Setup}
use Rattle.un_classreq.specs.declared.device.Accepted.{Accepted}
use Rattle.un_classreq.specs.declared.device.Why.{Why}
use Rattle.un_classreq.specs.Control.{Gadget, Controlled, IsAccepted, controlled, judged, sent}

pub stalled : (gadget : Gadget) (setup : Setup) (payload : List ℕ) (why : Why) → judged gadget.params gadget.state setup payload ≡ Err why → controlled gadget setup payload ≡ Err why
unfolding controlled
stalled gadget setup payload why h = rw h

pub accepted : (gadget : Gadget) (setup : Setup) (payload : List ℕ) (step : Accepted) → judged gadget.params gadget.state setup payload ≡ Ok step → controlled gadget setup payload ≡ Ok (record { gadget = record gadget { state = step.next }; bytes = sent gadget setup step.request })
unfolding controlled
accepted gadget setup payload step h = rw h

pub is_accepted : (r : Result Controlled Why) (c : Controlled) → r ≡ Ok c → IsAccepted r
is_accepted (Ok d) c h = tt
is_accepted (Err e) c h = cc
