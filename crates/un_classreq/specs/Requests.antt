-- The table of requests that the device knows: how each is told, by which classes, where and when it may come, what it
-- does and what it sends. Names and codes are the standards', the rules on index, length, setting and value are this
-- project's own.
use Rattle.std.specs.Prelude.{ℕ, Bool, List, [], ◌∷◌, ◌++◌, nat_le, ◌==◌, if◌then◌else◌, Option, Some, None}
use Rattle.un_facts.specs.Numbers.{is_between}
use Rattle.un_frame.specs.Bytes.{number_at, number_bytes}
use Rattle.un_frame.specs.declared.params.Params.{Params}
use Rattle.un_frame.specs.declared.params.Class.{Class}
use Rattle.un_frame.specs.declared.params.Class.TheVariants.{Ncm32}
use Rattle.un_desc.specs.Configuration.{configuration}
use Rattle.un_classreq.specs.declared.request.Request.{Request}
use Rattle.un_classreq.specs.declared.request.Request.TheVariants.{GetDescriptor, SetConfiguration, SetInterface, SetPacketFilter, GetNtbParameters, GetNtbFormat, SetNtbFormat, GetNtbInputSize, SetNtbInputSize, GetMaxDatagramSize, SetMaxDatagramSize}
use Rattle.un_classreq.specs.declared.request.Classes.{Classes}
use Rattle.un_classreq.specs.declared.request.Classes.TheVariants.{All, EcmAndNcm, NcmAlone}
use Rattle.un_classreq.specs.declared.request.Columns.{Columns}
use Rattle.un_classreq.specs.declared.state.State.{State}

-- The NTB parameters: their length, the formats, and for each direction the largest block, the divisor, the remainder
-- and the alignment, in between two reserved bytes and in the end the most datagrams (NCM 1.0, table 6-3). Bit 0 of the
-- formats is NTB16, bit 1 NTB32.
abbrev pub formats_of : Class → ℕ
formats_of Ncm32 = 3
formats_of class = 1

abbrev pub ntb_parameters : Params → List ℕ
ntb_parameters p =
    number_bytes 2 28
    ++ number_bytes 2 (formats_of p.class)
    ++ number_bytes 4 p.block
    ++ number_bytes 2 p.divisor
    ++ number_bytes 2 p.remainder
    ++ number_bytes 2 p.alignment
    ++ number_bytes 2 0
    ++ number_bytes 4 p.block
    ++ number_bytes 2 p.divisor
    ++ number_bytes 2 p.remainder
    ++ number_bytes 2 p.alignment
    ++ number_bytes 2 p.datagrams

-- the format with the highest number: 0 is NTB16, 1 is NTB32 (NCM 1.0, 6.2.4)
abbrev pub last_format : Class → ℕ
last_format Ncm32 = 1
last_format class = 0

abbrev pub if_allowed : Bool → State → Option State
if_allowed holds next = if holds then Some next else None

-- A row: how the request is told and where it may come; what the state is after it, where its value and its payload
-- are allowed; and what it sends, before it is cut.
pub record Row : Type 0 where
  pub columns : Columns
  pub next : Params → State → ℕ → List ℕ → Option State
  pub reply : Params → State → List ℕ

abbrev pub told : ℕ → ℕ → Classes → ℕ → Option ℕ → Option ℕ → Columns
told request_type request classes index size setting = record {
  request_type = request_type;
  request = request;
  classes = classes;
  index = index;
  length = size;
  setting = setting;
}

abbrev pub row : Request → Row
-- USB 2.0, 9.4.3: of descriptors that of the configuration alone
row GetDescriptor = record {
  columns = told 0x80 0x06 All 0 None None;
  next = λ p s value payload. if_allowed (value == 0x0200) s;
  reply = λ p s. configuration p;
}
-- USB 2.0, 9.4.7
row SetConfiguration = record {
  columns = told 0x00 0x09 All 0 (Some 0) None;
  next = λ p s value payload. if_allowed (nat_le value 1) (record s { configuration = value; setting = 0 });
  reply = λ p s. [];
}
-- USB 2.0, 9.4.10: of the data interface
row SetInterface = record {
  columns = told 0x01 0x0b EcmAndNcm 1 (Some 0) None;
  next = λ p s value payload. if_allowed (nat_le value 1) (record s { setting = value });
  reply = λ p s. [];
}
-- ECM 1.2, 6.2.4
row SetPacketFilter = record {
  columns = told 0x21 0x43 EcmAndNcm 0 (Some 0) None;
  next = λ p s value payload. if_allowed (nat_le value 0x1f) (record s { filter = value });
  reply = λ p s. [];
}
-- NCM 1.0, 6.2.1
row GetNtbParameters = record {
  columns = told 0xa1 0x80 NcmAlone 0 None None;
  next = λ p s value payload. Some s;
  reply = λ p s. ntb_parameters p;
}
-- NCM 1.0, 6.2.4
row GetNtbFormat = record {
  columns = told 0xa1 0x83 NcmAlone 0 None None;
  next = λ p s value payload. Some s;
  reply = λ p s. number_bytes 2 s.format;
}
-- NCM 1.0, 6.2.5
row SetNtbFormat = record {
  columns = told 0x21 0x84 NcmAlone 0 (Some 0) (Some 0);
  next = λ p s value payload. if_allowed (nat_le value (last_format p.class)) (record s { format = value });
  reply = λ p s. [];
}
-- NCM 1.0, 6.2.6
row GetNtbInputSize = record {
  columns = told 0xa1 0x85 NcmAlone 0 None None;
  next = λ p s value payload. Some s;
  reply = λ p s. number_bytes 4 s.input_size;
}
-- NCM 1.0, 6.2.7
row SetNtbInputSize = record {
  columns = told 0x21 0x86 NcmAlone 0 (Some 4) (Some 0);
  next = λ p s value payload. if_allowed (is_between 2048 p.block (number_at 4 payload 0)) (record s { input_size = number_at 4 payload 0 });
  reply = λ p s. [];
}
-- NCM 1.0, 6.2.8
row GetMaxDatagramSize = record {
  columns = told 0xa1 0x87 NcmAlone 0 None None;
  next = λ p s value payload. Some s;
  reply = λ p s. number_bytes 2 s.datagram_size;
}
-- NCM 1.0, 6.2.9
row SetMaxDatagramSize = record {
  columns = told 0x21 0x88 NcmAlone 0 (Some 2) (Some 0);
  next = λ p s value payload. if_allowed (is_between 60 p.segment (number_at 2 payload 0)) (record s { datagram_size = number_at 2 payload 0 });
  reply = λ p s. [];
}

-- all of them
abbrev pub requests : List Request
requests =
    GetDescriptor ∷ SetConfiguration ∷ SetInterface ∷ SetPacketFilter ∷ GetNtbParameters ∷ GetNtbFormat ∷ SetNtbFormat
    ∷ GetNtbInputSize ∷ SetNtbInputSize ∷ GetMaxDatagramSize ∷ SetMaxDatagramSize ∷ []
