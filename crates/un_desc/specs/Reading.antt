-- The function that descriptors describe, or the first fault: that of the walk, and else the first part that is missing.
-- The order of the checks is this project's own.
use Rattle.std.specs.Prelude.{ℕ, ◌%◌, Bool, true, false, ◌&&◌, not, List, [], ◌∷◌, ◌==◌, nat_le, if◌then◌else◌, Option, Some, None, Result, Ok, Err}
use Rattle.std.specs.Option.{option_or}
use Rattle.un_desc.specs.declared.function.DescFault.{DescFault}
use Rattle.un_desc.specs.declared.function.DescFault.TheVariants.{Missing, Unknown}
use Rattle.un_desc.specs.declared.function.Part.TheVariants as parts
use Rattle.un_desc.specs.declared.function.FunctionKind.{FunctionKind}
use Rattle.un_desc.specs.declared.function.FunctionKind.TheVariants as kinds
use Rattle.un_desc.specs.declared.function.Function.{Function}
use Rattle.un_desc.specs.declared.descriptor.Descriptor.{Descriptor}
use Rattle.un_desc.specs.declared.descriptor.Descriptor.TheVariants.{AnInterface, AnEndpoint, Header, Union, Ethernet, Ncm}
use Rattle.un_desc.specs.declared.descriptor.Interface.{Interface}
use Rattle.un_desc.specs.declared.descriptor.Endpoint.{Endpoint}
use Rattle.un_desc.specs.declared.parts.Parts.{Parts}
use Rattle.un_desc.specs.declared.parts.Bulk.{Bulk}
use Rattle.un_desc.specs.declared.parts.Setting.{Setting}
use Rattle.un_desc.specs.Configuration.{COMMUNICATIONS, ECM_SUBCLASS, EEM_SUBCLASS, NCM_SUBCLASS}
use Rattle.un_desc.specs.Walk.{◌>>=◌, given, walk_from}

-- the first descriptor that is read as something
unfoldable pub first : {X : Type 0} → (Descriptor → Option X) → List Descriptor → Option X
first read [] = None
first read (d ∷ ds) = option_or (read d) (first read ds)

-- WHAT ONE DESCRIPTOR IS READ AS

-- the control interface: one of class Communications (CDC 1.2, 4.2)
abbrev pub control_in : Descriptor → Option Interface
control_in (AnInterface i) = if i.class == COMMUNICATIONS then Some i else None
control_in _ = None

abbrev pub header_in : Descriptor → Option ℕ
header_in (Header release) = Some release
header_in _ = None

abbrev pub union_in : Descriptor → Option ℕ
union_in (Union interface) = Some interface
union_in _ = None

abbrev pub ethernet_in : Descriptor → Option ℕ
ethernet_in (Ethernet segment) = Some segment
ethernet_in _ = None

abbrev pub ncm_in : Descriptor → Option ℕ
ncm_in (Ncm capabilities) = Some capabilities
ncm_in _ = None

-- a bulk endpoint has 2 in the two lowest bits of its attributes, and an IN endpoint has the highest bit of its address
-- set (USB 2.0, 9.6.6)
abbrev pub is_bulk : Endpoint → Bool
is_bulk e = e.attributes % 4 == 2

abbrev pub is_in : Endpoint → Bool
is_in e = nat_le 128 e.address

abbrev pub in_in : Descriptor → Option Endpoint
in_in (AnEndpoint e) = if is_bulk e && is_in e then Some e else None
in_in _ = None

abbrev pub out_in : Descriptor → Option Endpoint
out_in (AnEndpoint e) = if is_bulk e && not (is_in e) then Some e else None
out_in _ = None

-- THE PARTS

-- the first of each kind
abbrev pub parts_of : List Descriptor → Parts
parts_of ds = record {
  control = first control_in ds;
  header = first header_in ds;
  union = first union_in ds;
  ethernet = first ethernet_in ds;
  ncm = first ncm_in ds;
}

abbrev pub is_interface : Descriptor → Bool
is_interface (AnInterface i) = true
is_interface _ = false

-- what one descriptor is read as, and the first of two for each kind
abbrev pub parts_in : Descriptor → Parts
parts_in d = record {
  control = control_in d;
  header = header_in d;
  union = union_in d;
  ethernet = ethernet_in d;
  ncm = ncm_in d;
}

abbrev pub merged : Parts → Parts → Parts
merged a b = record {
  control = option_or a.control b.control;
  header = option_or a.header b.header;
  union = option_or a.union b.union;
  ethernet = option_or a.ethernet b.ethernet;
  ncm = option_or a.ncm b.ncm;
}

-- the descriptors before the next interface: those of the interface that stands before them
unfoldable pub own : List Descriptor → List Descriptor
own [] = []
own (d ∷ ds) = if is_interface d then [] else d ∷ own ds

-- the first bulk endpoints of an interface
abbrev pub bulk_of : List Descriptor → Bulk
bulk_of ds = record { bulk_in = first in_in (own ds); bulk_out = first out_in (own ds) }

abbrev pub ends_in : Descriptor → Bulk
ends_in d = record { bulk_in = in_in d; bulk_out = out_in d }

abbrev pub merged_bulk : Bulk → Bulk → Bulk
merged_bulk a b = record { bulk_in = option_or a.bulk_in b.bulk_in; bulk_out = option_or a.bulk_out b.bulk_out }

abbrev pub setting_with : Interface → Option Endpoint → Option Endpoint → Option Setting
setting_with i (Some e) (Some f) = Some (record { setting = i.setting; bulk_in = e; bulk_out = f })
setting_with i e f = None

-- this descriptor is an interface with this number and both bulk endpoints among the descriptors after it
abbrev pub setting_here : ℕ → Descriptor → Bulk → Option Setting
setting_here number (AnInterface i) bulk = if i.number == number then setting_with i bulk.bulk_in bulk.bulk_out else None
setting_here number _ bulk = None

-- the first such interface
unfoldable pub setting_of : ℕ → List Descriptor → Option Setting
setting_of number [] = None
setting_of number (d ∷ ds) = option_or (setting_here number d (bulk_of ds)) (setting_of number ds)

-- THE FUNCTION

-- the function with these bulk endpoints; the packet size is in the lowest 11 bits of the IN endpoint's (USB 2.0, 9.6.6)
abbrev pub function_with : FunctionKind → ℕ → ℕ → ℕ → ℕ → Setting → Function
function_with kind control segment capabilities interface s = record {
  kind = kind;
  control = control;
  segment = segment;
  capabilities = capabilities;
  interface = interface;
  setting = s.setting;
  bulk_in = s.bulk_in.address;
  bulk_out = s.bulk_out.address;
  packet = s.bulk_in.size % 2048;
}

-- EEM has one interface, for control and data (EEM 1.0, 4)
abbrev pub read_eem : List Descriptor → ℕ → Result Function DescFault
read_eem ds control = do
  setting ← given (Missing parts.Endpoints) (setting_of control ds)
  Ok (function_with kinds.Eem control 0 0 control setting)

-- ECM's data interface is named by the union (ECM 1.2, 5.4)
abbrev pub read_ecm : List Descriptor → ℕ → Result Function DescFault
read_ecm ds control = do
  header ← given (Missing parts.Header) (first header_in ds)
  interface ← given (Missing parts.Union) (first union_in ds)
  segment ← given (Missing parts.Ethernet) (first ethernet_in ds)
  setting ← given (Missing parts.Endpoints) (setting_of interface ds)
  Ok (function_with kinds.Ecm control segment 0 interface setting)

-- NCM has one part more (NCM 1.0, 5.2)
abbrev pub read_ncm : List Descriptor → ℕ → Result Function DescFault
read_ncm ds control = do
  header ← given (Missing parts.Header) (first header_in ds)
  interface ← given (Missing parts.Union) (first union_in ds)
  segment ← given (Missing parts.Ethernet) (first ethernet_in ds)
  capabilities ← given (Missing parts.Ncm) (first ncm_in ds)
  setting ← given (Missing parts.Endpoints) (setting_of interface ds)
  Ok (function_with kinds.Ncm control segment capabilities interface setting)

-- by the subclass of the control interface; no function that is read is of RNDIS
abbrev pub read_as : ℕ → List Descriptor → ℕ → Result Function DescFault
read_as subclass ds control =
    if subclass == ECM_SUBCLASS then read_ecm ds control
    else (if subclass == EEM_SUBCLASS then read_eem ds control
    else (if subclass == NCM_SUBCLASS then read_ncm ds control
    else Err (Unknown subclass)))

-- the function that descriptors describe
unfoldable pub described : List Descriptor → Result Function DescFault
described ds = do
  control ← given (Missing parts.Control) (first control_in ds)
  read_as control.subclass ds control.number

-- the function that bytes describe, or the first fault
unfoldable pub function_of : List ℕ → Result Function DescFault
function_of bytes = do
  descriptors ← walk_from 0 bytes
  described descriptors
