use Rattle.usbnet_run.specs.Reading.{StopsReading}
use Rattle.usbnet_run.proofs.reading.read_input.Goals as goal

pub returns-in-Err-ReadFault-clause-given : goal.returns-in-Err-ReadFault-clause-given
returns-in-Err-ReadFault-clause-given g c =
    let r = rw c.in-Err-ReadFault.field-0-is at c.in-Err-ReadFault.ensures.given in
    (r.0, r.1, StopsReading.read_fault r.2)

pub returns-in-Err-TooLarge-clause-given : goal.returns-in-Err-TooLarge-clause-given
returns-in-Err-TooLarge-clause-given g c =
    let r = rw c.in-Err-TooLarge.field-0-is at c.in-Err-TooLarge.ensures.given in
    (r.0, r.1, StopsReading.too_large r.2)

pub returns-in-Err-NoMemory-clause-given : goal.returns-in-Err-NoMemory-clause-given
returns-in-Err-NoMemory-clause-given g c =
    let r = c.in-Err-NoMemory.ensures.given in
    (r.0, r.1, StopsReading.no_memory)
