-- One turn of the drain's loop.
use Rattle.std.specs.Prelude.{◌≡◌, ◌<◌, Bool, true, false, length}
use Rattle.un_journal.specs.Drain.{drain}
use Rattle.un_journal.specs.Fits.{Legal}
use Rattle.un_link.specs.Link.{Link, flights_of}

-- it wrote lines after which the drain goes on to the same end, or none, and the drain is at its end
abbrev pub IsDrained : Link → Link → Bool → Type 0
IsDrained old new true = (length old.log.history < length new.log.history) × (drain new.script new.log.history ≡ drain old.script old.log.history)
IsDrained old new false = (new.log.history ≡ old.log.history) × (drain old.script old.log.history ≡ old.log.history)

pub record DrainsOn (old new : Link) (more : Bool) : Type 0 where
  pub script_is : new.script ≡ old.script
  pub legal : Legal new.script new.log.history
  pub flights_are : flights_of new ≡ flights_of old
  pub drained : IsDrained old new more
