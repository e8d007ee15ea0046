-- What a plan lets a transfer do of which so many attempts have failed (this project's own). A fault on the bus lets it be tried again
-- three times.
use Rattle.std.specs.Prelude.{◌≡◌, ℕ, ◌<◌, ◌≤◌}
use Rattle.un_frame.specs.declared.kinds.FaultKind.{FaultKind}
use Rattle.un_frame.specs.declared.kinds.Planned.{Planned}
use Rattle.un_frame.specs.declared.kinds.Planned.TheVariants.{Clean, Proto, Halt}

-- it arrives
abbrev pub ArrivesAfter : Planned → ℕ → Type 0
ArrivesAfter Clean attempts = Unit {0}
ArrivesAfter (Proto times) attempts = times ≤ attempts
ArrivesAfter Halt attempts = ⊥

-- it fails, and is tried again
abbrev pub RetriesAfter : Planned → ℕ → Type 0
RetriesAfter Clean attempts = ⊥
RetriesAfter (Proto times) attempts = (attempts < times) × (attempts < 3)
RetriesAfter Halt attempts = ⊥

-- it fails for good, by this kind of fault
abbrev pub FailsAfter : Planned → ℕ → FaultKind → Type 0
FailsAfter Clean attempts kind = ⊥
FailsAfter (Proto times) attempts kind = (attempts < times) × (attempts ≡ 3) × (kind ≡ FaultKind.Proto)
FailsAfter Halt attempts kind = kind ≡ FaultKind.Halt

-- whether it arrives at last
abbrev pub ArrivesLast : Planned → Type 0
ArrivesLast Clean = Unit {0}
ArrivesLast (Proto times) = times ≤ 3
ArrivesLast Halt = ⊥
