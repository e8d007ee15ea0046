-- The configuration that the gadget offers: one descriptor after the other. Their layouts are the standards', their
-- numbers, addresses and order are this project's own.
use Rattle.std.specs.Prelude.{ℕ, List, [], ◌∷◌, ◌++◌}
use Rattle.un_frame.specs.Bytes.{number_bytes}
use Rattle.un_frame.specs.declared.params.Params.{Params}
use Rattle.un_frame.specs.declared.params.Class.{Class}
use Rattle.un_frame.specs.declared.params.Class.TheVariants.{Ecm, Eem, Ncm16, Ncm32, Rndis}
use Rattle.un_desc.specs.declared.function.FunctionKind.{FunctionKind}
use Rattle.un_desc.specs.declared.function.FunctionKind.TheVariants as kinds
use Rattle.un_desc.specs.declared.function.Function.{Function}

-- a configuration of so many interfaces, whose descriptors have so many bytes together: its number is 1, it has no
-- text, and takes 100 mA from the bus (USB 2.0, 9.6.3)
abbrev pub configuration_bytes : ℕ → ℕ → List ℕ
configuration_bytes total interfaces = 9 ∷ 0x02 ∷ number_bytes 2 total ++ interfaces ∷ 1 ∷ 0 ∷ 0x80 ∷ 50 ∷ []

-- an interface with its alternate setting, its number of endpoints, its class, subclass and protocol, and no text
-- (USB 2.0, 9.6.5)
abbrev pub interface_bytes : ℕ → ℕ → ℕ → ℕ → ℕ → ℕ → List ℕ
interface_bytes number setting endpoints class subclass protocol =
    9 ∷ 0x04 ∷ number ∷ setting ∷ endpoints ∷ class ∷ subclass ∷ protocol ∷ 0 ∷ []

-- an endpoint with its address, its attributes, its largest packet and its interval (USB 2.0, 9.6.6)
abbrev pub endpoint_bytes : ℕ → ℕ → ℕ → ℕ → List ℕ
endpoint_bytes address attributes size interval = 7 ∷ 0x05 ∷ address ∷ attributes ∷ number_bytes 2 size ++ interval ∷ []

-- the header of the functional descriptors, by release 1.10 of CDC (CDC 1.2, 5.2.3.1)
abbrev pub header_bytes : List ℕ
header_bytes = 5 ∷ 0x24 ∷ 0x00 ∷ 0x10 ∷ 0x01 ∷ []

-- the union of a control interface and a data interface (CDC 1.2, 5.2.3.2)
abbrev pub union_bytes : ℕ → ℕ → List ℕ
union_bytes control interface = 5 ∷ 0x24 ∷ 0x06 ∷ control ∷ interface ∷ []

-- the Ethernet networking descriptor: text 1 for the address, no statistics, the longest frame, no filters of lists
-- or of patterns (ECM 1.2, 5.4)
abbrev pub ethernet_bytes : ℕ → List ℕ
ethernet_bytes segment = 13 ∷ 0x24 ∷ 0x0f ∷ 1 ∷ 0 ∷ 0 ∷ 0 ∷ 0 ∷ number_bytes 2 segment ++ 0 ∷ 0 ∷ 0 ∷ []

-- the NCM functional descriptor, by release 1.0: its capabilities are the packet filter, bit 0, and the largest
-- datagram, bit 3 (NCM 1.0, 5.2.1)
abbrev pub CAPABILITIES : ℕ
CAPABILITIES = 9

abbrev pub ncm_bytes : List ℕ
ncm_bytes = 6 ∷ 0x24 ∷ 0x1a ∷ 0x00 ∷ 0x01 ∷ CAPABILITIES ∷ []

-- class codes of interfaces (CDC 1.2, 4.2 and 4.5), and subclass codes (ECM 1.2, EEM 1.0 and NCM 1.0, each 4); the
-- protocols, 7 of EEM and 1 of NCM's data interface, stand in the configurations below
abbrev pub COMMUNICATIONS : ℕ
COMMUNICATIONS = 0x02

abbrev pub DATA : ℕ
DATA = 0x0a

abbrev pub ECM_SUBCLASS : ℕ
ECM_SUBCLASS = 0x06

abbrev pub EEM_SUBCLASS : ℕ
EEM_SUBCLASS = 0x0c

abbrev pub NCM_SUBCLASS : ℕ
NCM_SUBCLASS = 0x0d

-- the interrupt endpoint of notifications: IN 2, 16 bytes, each 2 ^ (9 - 1) microframes
abbrev pub notification_bytes : List ℕ
notification_bytes = endpoint_bytes 0x82 3 16 9

-- the bulk endpoints: IN 1 and OUT 1
abbrev pub BULK_IN : ℕ
BULK_IN = 0x81

abbrev pub BULK_OUT : ℕ
BULK_OUT = 0x01

-- The whole configuration of ECM and of NCM: the control interface with its functional descriptors and its endpoint of
-- notifications, the data interface in its setting 0, without endpoints, and in its setting 1, with both.
abbrev pub ecm_configuration : ℕ → ℕ → List ℕ
ecm_configuration segment packet =
    configuration_bytes 80 2
    ++ interface_bytes 0 0 1 COMMUNICATIONS ECM_SUBCLASS 0
    ++ header_bytes
    ++ union_bytes 0 1
    ++ ethernet_bytes segment
    ++ notification_bytes
    ++ interface_bytes 1 0 0 DATA 0 0
    ++ interface_bytes 1 1 2 DATA 0 0
    ++ endpoint_bytes BULK_IN 2 packet 0
    ++ endpoint_bytes BULK_OUT 2 packet 0

abbrev pub ncm_configuration : ℕ → ℕ → List ℕ
ncm_configuration segment packet =
    configuration_bytes 86 2
    ++ interface_bytes 0 0 1 COMMUNICATIONS NCM_SUBCLASS 0
    ++ header_bytes
    ++ union_bytes 0 1
    ++ ethernet_bytes segment
    ++ ncm_bytes
    ++ notification_bytes
    ++ interface_bytes 1 0 0 DATA 0 1
    ++ interface_bytes 1 1 2 DATA 0 1
    ++ endpoint_bytes BULK_IN 2 packet 0
    ++ endpoint_bytes BULK_OUT 2 packet 0

-- and of EEM, which has one interface for control and data
abbrev pub eem_configuration : ℕ → List ℕ
eem_configuration packet =
    configuration_bytes 32 1
    ++ interface_bytes 0 0 2 COMMUNICATIONS EEM_SUBCLASS 7
    ++ endpoint_bytes BULK_IN 2 packet 0
    ++ endpoint_bytes BULK_OUT 2 packet 0

-- the classes whose gadget has a configuration here; RNDIS has none
abbrev pub IsDescribed : Class → Type 0
IsDescribed Rndis = ⊥
IsDescribed class = Unit {0}

abbrev pub configuration_as : Class → Params → List ℕ
configuration_as Ecm p = ecm_configuration p.segment p.packet
configuration_as Eem p = eem_configuration p.packet
configuration_as Ncm16 p = ncm_configuration p.segment p.packet
configuration_as Ncm32 p = ncm_configuration p.segment p.packet
configuration_as Rndis p = []

-- the configuration of a link's class, by its parameters
unfoldable pub configuration : Params → List ℕ
configuration p = configuration_as p.class p

-- the function that each class's configuration describes; that of RNDIS is known by the parameters alone
abbrev pub networking_function : FunctionKind → ℕ → Params → Function
networking_function kind capabilities p = record {
  kind = kind;
  control = 0;
  segment = p.segment;
  capabilities = capabilities;
  interface = 1;
  setting = 1;
  bulk_in = BULK_IN;
  bulk_out = BULK_OUT;
  packet = p.packet;
}

abbrev pub function_as : Class → Params → Function
function_as Ecm p = networking_function kinds.Ecm 0 p
function_as Eem p = record {
  kind = kinds.Eem;
  control = 0;
  segment = 0;
  capabilities = 0;
  interface = 0;
  setting = 0;
  bulk_in = BULK_IN;
  bulk_out = BULK_OUT;
  packet = p.packet;
}
function_as Ncm16 p = networking_function kinds.Ncm CAPABILITIES p
function_as Ncm32 p = networking_function kinds.Ncm CAPABILITIES p
function_as Rndis p = record {
  kind = kinds.Rndis;
  control = 0;
  segment = p.segment;
  capabilities = 0;
  interface = 0;
  setting = 0;
  bulk_in = 0;
  bulk_out = 0;
  packet = p.packet;
}

-- the function of a link's class, by its parameters
abbrev pub function : Params → Function
function p = function_as p.class p
