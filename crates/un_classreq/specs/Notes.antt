-- What the device notifies the host of, once its data interface is in setting 1. The order is this project's own.
use Rattle.std.specs.Prelude.{ℕ, List, [], ◌∷◌, ◌++◌, ◌==◌, if◌then◌else◌}
use Rattle.un_frame.specs.Bytes.{number_bytes}
use Rattle.un_frame.specs.declared.params.Class.{Class}
use Rattle.un_frame.specs.declared.params.Class.TheVariants.{Eem, Rndis}
use Rattle.un_classreq.specs.Setup.{packet, setup_bytes}
use Rattle.un_classreq.specs.Control.{Gadget}

-- the speed of both directions, in bits each second (ECM 1.2, 6.3.3); which speed it is, is this project's own
abbrev pub BIT_RATE : ℕ
BIT_RATE = 480000000

abbrev pub speed_change : List ℕ
speed_change = setup_bytes (packet 0xa1 0x2a 0 0 8) ++ number_bytes 4 BIT_RATE ++ number_bytes 4 BIT_RATE

-- that the network is there (ECM 1.2, 6.3.1)
abbrev pub connected : List ℕ
connected = setup_bytes (packet 0xa1 0x00 1 0 0)

-- EEM has no endpoint for notifications, and no device of RNDIS is made
abbrev pub notes_as : Class → List (List ℕ)
notes_as Eem = []
notes_as Rndis = []
notes_as class = speed_change ∷ connected ∷ []

abbrev pub notes_of : Gadget → List (List ℕ)
notes_of gadget = if gadget.state.setting == 1 then notes_as gadget.params.class else []
