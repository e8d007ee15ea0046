-- What the codecs of the classes keep, and what callers see of it.
use Rattle.std.specs.Prelude.{◌≡◌, ℕ, ◌+◌, ◌-◌, ◌*◌, ◌/◌, ◌<◌, ◌≤◌, ◌==◌, if◌then◌else◌, min, length, vec_capacity, [], None, option_to_list, unwrap_or, false, true}
use Rattle.un_frame.specs.declared.params.Class.{Class}
use Rattle.un_frame.specs.declared.params.Class.TheVariants.{Eem}
use Rattle.un_frame.specs.declared.params.Params.{Params}
use Rattle.un_frame.specs.Blocks.{layout_of}
use Rattle.un_frame.specs.Classes.{eem_capacity}
use Rattle.un_frame.specs.Eem.{packets_size}
use Rattle.un_frame.specs.NtbForm.{block_fits}
use Rattle.un_frame.specs.Wire.{Coding}
use Rattle.un_wire.specs.declared.single.Single.{Single}
use Rattle.un_ntb.specs.Formats.{class_of, format_of}
use Rattle.un_wire.specs.declared.eem.EemWire.TheInside as eem_wire
use Rattle.un_wire.specs.declared.ntb.NtbWire.TheInside as ntb_wire

-- a codec of a class that puts one frame into a transfer, ECM or RNDIS: the open transfer has at most one frame, of at most a
-- segment; with none open there is no frame
abbrev pub single_coding : Params → Single → Coding
single_coding params single = record { params = params; sizes = option_to_list single.held; is_open = single.is_open }

pub record IsSingle (class : Class) (params : Params) (single : Single) : Type 0 where
  pub class_is : params.class ≡ class
  pub segment : params.segment ≤ 8192
  pub fits : unwrap_or single.held 0 ≤ params.segment
  pub nothing_open : single.is_open ≡ false → single.held ≡ None

-- the most frames of a transfer of EEM: each has 14 bytes at least and a packet's 6 more, beside the empty packet, and there are
-- no more of them than the limit, with 0 for none
abbrev pub most_packets : Params → ℕ
most_packets p = if p.datagrams == 0 then (eem_capacity p - 2) / 20 else min ((eem_capacity p - 2) / 20) p.datagrams

-- a codec of EEM: the sizes of the open transfer's frames, and how many bytes their packets have; with none open there are none
abbrev pub eem_coding : eem_wire.Inside → Coding
eem_coding w = record { params = w.params; sizes = w.sizes.items; is_open = w.is_open }

pub record IsEem (w : eem_wire.Inside) : Type 0 where
  pub class_is : w.params.class ≡ Eem
  pub segment : w.params.segment ≤ 8192
  pub block : w.params.block ≤ 262144
  pub packet : 1 ≤ w.params.packet
  pub size_is : w.size ≡ packets_size w.sizes.items
  pub within : w.size + 2 ≤ eem_capacity w.params
  pub least : 20 * length w.sizes.items ≤ w.size
  pub room : vec_capacity w.sizes ≡ most_packets w.params
  pub nothing_open : w.is_open ≡ false → w.sizes.items ≡ []

-- a codec of NCM, by the bytes of an index: its writer has the parameters, and the open block's frames fit; with none open
-- there are no frames
abbrev pub ntb_coding : {width : ℕ} → ntb_wire.Inside width → Coding
ntb_coding w = record { params = w.params; sizes = w.writer.sizes; is_open = w.writer.is_open }

pub record IsNtb (width : ℕ) (w : ntb_wire.Inside width) : Type 0 where
  pub class : w.params.class ≡ class_of width
  pub layout : w.writer.layout ≡ layout_of w.params
  pub block : w.writer.block ≡ w.params.block
  pub limit : w.writer.limit ≡ w.params.datagrams
  pub nothing_open : w.writer.is_open ≡ false → w.writer.sizes ≡ []
  pub fits : 0 < length w.writer.sizes → block_fits (format_of width) (layout_of w.params) w.params.block w.params.datagrams w.writer.sizes ≡ true
