-- The set-up of a link: which requests the host sends, in order, and what crosses the bus with each. The order is this
-- project's own.
use Rattle.std.specs.Prelude.{◌≡◌, ◌≤◌, ℕ, List, [], ◌∷◌, length, take, map, if◌then◌else◌, Result, Ok, Err}
use Rattle.un_facts.specs.Results.{◌>>=◌}
use Rattle.un_frame.specs.Bytes.{number_bytes}
use Rattle.un_frame.specs.declared.params.Params.{Params}
use Rattle.un_frame.specs.declared.params.Class.{Class}
use Rattle.un_frame.specs.declared.params.Class.TheVariants.{Ecm, Eem, Ncm16, Ncm32, Rndis}
use Rattle.un_desc.specs.Configuration.{configuration}
use Rattle.un_classreq.specs.declared.setup.Setup.{Setup}
use Rattle.un_classreq.specs.declared.device.Why.{Why}
use Rattle.un_classreq.specs.Requests.{ntb_parameters}
use Rattle.un_classreq.specs.Setup.{packet}
use Rattle.un_classreq.specs.Control.{Gadget, controlled, first_gadget, first_state, is_from_device}
use Rattle.un_classreq.specs.Notes.{notes_as, notes_of}
use Rattle.un_classreq.specs.declared.state.State.{State}
use Rattle.un_setup.specs.declared.exchange.Exchange.{Exchange}
use Rattle.un_setup.specs.declared.exchange.ExchangeFault.{ExchangeFault}
use Rattle.un_setup.specs.declared.exchange.ExchangeFault.TheVariants.{Stalled, NoMemory}

abbrev pub exchange : Setup → List ℕ → Exchange
exchange setup payload = record { setup = setup; payload = payload }

-- the configuration's descriptors, in at most 255 bytes (USB 2.0, 9.4.3)
abbrev pub get_descriptor : Setup
get_descriptor = packet 0x80 0x06 0x0200 0 255

-- configuration 1 (USB 2.0, 9.4.7)
abbrev pub set_configuration : Setup
set_configuration = packet 0x00 0x09 1 0 0

-- setting 1 of the data interface (USB 2.0, 9.4.10)
abbrev pub set_interface : Setup
set_interface = packet 0x01 0x0b 1 1 0

-- the packet filter (ECM 1.2, 6.2.4)
abbrev pub set_filter : ℕ → Setup
set_filter filter = packet 0x21 0x43 filter 0 0

-- the NTB parameters, the format of blocks, the largest block and the largest datagram (NCM 1.0, 6.2)
abbrev pub get_parameters : Setup
get_parameters = packet 0xa1 0x80 0 0 28

abbrev pub set_format : ℕ → Setup
set_format format = packet 0x21 0x84 format 0 0

abbrev pub set_input_size : Setup
set_input_size = packet 0x21 0x86 0 0 4

abbrev pub set_datagram_size : Setup
set_datagram_size = packet 0x21 0x88 0 0 2

-- The exchanges of each class, with the bytes that cross in either direction. RNDIS has none: its control messages stay out
-- of this project.
abbrev pub ncm_exchanges : ℕ → Params → List Exchange
ncm_exchanges format p =
    exchange get_descriptor (configuration p)
    ∷ exchange set_configuration []
    ∷ exchange get_parameters (ntb_parameters p)
    ∷ exchange (set_format format) []
    ∷ exchange set_input_size (number_bytes 4 p.block)
    ∷ exchange set_datagram_size (number_bytes 2 p.segment)
    ∷ exchange (set_filter p.filter) []
    ∷ exchange set_interface []
    ∷ []

abbrev pub exchanges_as : Class → Params → List Exchange
exchanges_as Ecm p =
    exchange get_descriptor (configuration p)
    ∷ exchange set_configuration []
    ∷ exchange (set_filter p.filter) []
    ∷ exchange set_interface []
    ∷ []
exchanges_as Eem p = exchange get_descriptor (configuration p) ∷ exchange set_configuration [] ∷ []
exchanges_as Ncm16 p = ncm_exchanges 0 p
exchanges_as Ncm32 p = ncm_exchanges 1 p
exchanges_as Rndis p = []

abbrev pub exchanges_of : Params → List Exchange
exchanges_of p = exchanges_as p.class p

-- what the host sends of an exchange: nothing after a set-up packet that asks for bytes
abbrev pub host_side : Exchange → Exchange
host_side e = if is_from_device e.setup.request_type then exchange e.setup [] else e

-- these are the steps of each class
abbrev pub eem_steps : List Exchange
eem_steps = exchange get_descriptor [] ∷ exchange set_configuration [] ∷ []

abbrev pub ecm_steps : ℕ → List Exchange
ecm_steps filter = exchange get_descriptor [] ∷ exchange set_configuration [] ∷ exchange (set_filter filter) [] ∷ exchange set_interface [] ∷ []

abbrev pub ncm_steps : ℕ → ℕ → ℕ → ℕ → List Exchange
ncm_steps format block segment filter =
    exchange get_descriptor []
    ∷ exchange set_configuration []
    ∷ exchange get_parameters []
    ∷ exchange (set_format format) []
    ∷ exchange set_input_size (number_bytes 4 block)
    ∷ exchange set_datagram_size (number_bytes 2 segment)
    ∷ exchange (set_filter filter) []
    ∷ exchange set_interface []
    ∷ []

abbrev pub steps_of : Params → List Exchange
steps_of p = map host_side (exchanges_of p)

-- what crosses the bus with a step of the host, at a device; and the device after it
abbrev pub crossed : Exchange → List ℕ → Exchange
crossed step reply = if is_from_device step.setup.request_type then exchange step.setup reply else step

pub record Crossing : Type 0 where
  pub gadget : Gadget
  pub exchange : Exchange

unfoldable pub crossing : Gadget → Exchange → Result Crossing Why
crossing gadget step = do
  answer ← controlled gadget step.setup step.payload
  Ok (record { gadget = answer.gadget; exchange = crossed step answer.bytes })

-- what crosses with steps one after the other, and the device after the last; else why it stalls at the first that it
-- stalls at
pub record Session : Type 0 where
  pub gadget : Gadget
  pub exchanges : List Exchange

abbrev pub with_first : Exchange → Session → Session
with_first e s = record s { exchanges = e ∷ s.exchanges }

unfoldable pub exchanged : Gadget → List Exchange → Result Session Why
exchanged gadget [] = Ok (record { gadget = gadget; exchanges = [] })
exchanged gadget (step ∷ steps) =
    crossing gadget step >>= λ one. (exchanged one.gadget steps >>= λ rest. Ok (with_first one.exchange rest))

-- where no more crosses, the device is as the first so many steps left it
pub record StopsAt (old new : Gadget) (steps : List Exchange) (count : ℕ) : Type 0 where
  pub within : count ≤ length steps
  pub done : List Exchange
  pub crossed : exchanged old (take count steps) ≡ Ok (record { gadget = new; exchanges = done })

abbrev pub HasStopped : Gadget → Gadget → List Exchange → Type 0
HasStopped old new steps = (count : ℕ) × StopsAt old new steps count

abbrev pub Stalls : {A : Type 0} → Result A Why → ExchangeFault → Type 0
Stalls answer (Stalled why) = answer ≡ Err why
Stalls answer NoMemory = Unit {0}

-- the state that the steps of each class leave; those of RNDIS, which are none, leave the first
abbrev pub ready_as : Class → Params → State
ready_as Eem p = record (first_state p) { configuration = 1 }
ready_as Rndis p = first_state p
ready_as Ncm32 p = record (first_state p) { configuration = 1; setting = 1; filter = p.filter; format = 1 }
ready_as class p = record (first_state p) { configuration = 1; setting = 1; filter = p.filter }

-- a device that was set up
abbrev pub ready : Params → Gadget
ready p = record { params = p; state = ready_as p.class p }

-- a new device with parameters in range answers each step of the host, these are the exchanges of its class, and then
-- it has these notifications to send
pub record ExchangeSucceeds (p : Params) : Type 0 where
  pub crossed : exchanged (first_gadget p) (steps_of p) ≡ Ok (record { gadget = ready p; exchanges = exchanges_of p })
  pub told : notes_of (ready p) ≡ notes_as p.class
