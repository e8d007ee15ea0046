use Rattle.std.proofs.Common.{refl}
use Rattle.usbnet_run.specs.Runs.{Refuses}
use Rattle.usbnet_run.specs.declared.refusal.Refusal.TheVariants.{NoMemory}
use Rattle.usbnet_run.proofs.Endings.{script_given}
use Rattle.usbnet_run.proofs.prepare.read_script.Goals as goal

pub returns-in-Err-BadLine-clause-refused : goal.returns-in-Err-BadLine-clause-refused
returns-in-Err-BadLine-clause-refused c =
    Refuses.not_a_script c.in-Err-BadLine.line c.in-Err-BadLine.why
    (script_given _ _ _ c.deref.ensures.value (rw c.in-Err-BadLine.field-0-is at c.in-Err-BadLine.ensures))

pub returns-in-Ok-clause-script : goal.returns-in-Ok-clause-script
returns-in-Ok-clause-script c = script_given _ _ _ c.deref.ensures.value c.in-Ok.ensures

pub returns-clause-refused : goal.returns-clause-refused
returns-clause-refused c = Refuses.wants_memory NoMemory refl
