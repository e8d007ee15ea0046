-- A class in one place: what its transfers mean, how they are written, and what else depends on a link's class here. A
-- class of the project is one value of `Rules` below, and one case of `rules_of`; the wire formats themselves have files
-- of their own (Ecm, Eem, Ntb, NtbForm, Rndis). What each class is due is the record `ClassLaws` of proofs/ClassLaws.
use Rattle.std.specs.Prelude.{◌≡◌, ℕ, ◌+◌, ◌*◌, ◌==◌, ◌&&◌, nat_le, max, Bool, true, false, List, [], ◌∷◌, ◌++◌, length, flat_map, codes, Option}
use Rattle.std.specs.List.{concat}
use Rattle.un_frame.specs.declared.params.Params.{Params}
use Rattle.un_frame.specs.declared.params.Class.{Class}
use Rattle.un_frame.specs.declared.params.Class.TheVariants.{Ecm, Eem, Ncm16, Ncm32, Rndis}
use Rattle.un_frame.specs.declared.params.Lane.{Lane}
use Rattle.un_frame.specs.declared.params.Lane.TheVariants.{Outward, Inward}
use Rattle.un_frame.specs.declared.fault.Fault.{Fault}
use Rattle.un_frame.specs.Blocks.{layout_of, BlocksAgree}
use Rattle.un_frame.specs.Bytes.{Place}
use Rattle.un_frame.specs.Ecm.{EcmReads, ecm_fault}
use Rattle.un_frame.specs.Eem.{Data, packet_bytes, packets_fit, EemReads, eem_fault, eem_form}
use Rattle.un_frame.specs.Ntb.{Format, NtbReads, ntb_fault, ntb16, ntb32, MOST_TABLES}
use Rattle.un_frame.specs.NtbForm.{ntb_form, block_fits, open_block, datagram_places}
use Rattle.un_frame.specs.Places.{eem_places, ntb_places, spaced_places}
use Rattle.un_frame.specs.Rndis.{RndisReads, rndis_fault, rndis_places, message_bytes}

-- the rules of one class
pub record Rules : Type 1 where
  -- its word in this project's texts
  pub word : List ℕ
  -- whether its transfers are blocks, and the largest block that its parameters may ask for (this project's own)
  pub builds_blocks : Bool
  pub most_block : ℕ
  -- whether a link's two ends agree on its parameters
  pub agree : Params → Type 0
  -- whether the transmitting end of a lane packs several frames into one transfer
  pub packs : Lane → Bool
  -- reading: a transfer has its frames at these places, and so many commands; its first fault; where its frames stand; and
  -- the most frames that so many bytes hold
  pub reads_at : List ℕ → List Place → ℕ → Type 0
  pub fault : List ℕ → Option Fault
  pub places : List ℕ → List Place
  pub most_frames : ℕ → ℕ
  -- writing, by a link's parameters: the transfer of frames with a serial, its bytes while it is open, where frames of these
  -- sizes stand in these, and the most bytes of a transfer
  pub form : Params → ℕ → List (List ℕ) → List ℕ
  pub open_form : Params → List (List ℕ) → List ℕ
  pub open_places : Params → List ℕ → List Place
  pub capacity : Params → ℕ
  -- whether a frame of this length fits an open transfer with frames of these sizes
  pub fits : Params → List ℕ → ℕ → Bool
  -- whether frames of these sizes may stand in one transfer together, where a lane packs
  pub fits_together : Params → List ℕ → Bool

-- where a transfer has one frame alone: one of at most a segment fits a transfer without a frame
abbrev pub fits_alone : Params → List ℕ → ℕ → Bool
fits_alone p sizes size = (length sizes == 0) && nat_le size p.segment

-- ECM: a transfer is a frame, of at most a segment
abbrev pub ecm : Rules
ecm = record {
  word = codes "ecm";
  builds_blocks = false;
  most_block = 262144;
  agree = λ p. Unit {0};
  packs = λ lane. false;
  reads_at = λ bytes places commands. EcmReads bytes places × (commands ≡ 0);
  fault = ecm_fault;
  places = λ bytes. record { at = 0; size = length bytes } ∷ [];
  most_frames = λ size. 1;
  form = λ p serial frames. concat frames;
  open_form = λ p frames. concat frames;
  open_places = λ p sizes. spaced_places 0 0 0 sizes;
  capacity = λ p. p.segment;
  fits = fits_alone;
  fits_together = λ p sizes. false;
}

-- the gadget sends inward
abbrev pub is_inward : Lane → Bool
is_inward Outward = false
is_inward Inward = true

-- the most bytes of a transfer of EEM: one of a segment is always within them
abbrev pub eem_capacity : Params → ℕ
eem_capacity p = max p.block (p.segment + 8)

-- EEM: a transfer is packets, with a header of 2 bytes before a frame and a sentinel of 4 after it; this project's writers
-- put the empty packet where it is due, and the gadget's put several frames into a transfer
abbrev pub eem : Rules
eem = record {
  word = codes "eem";
  builds_blocks = false;
  most_block = 262144;
  agree = λ p. Unit {0};
  packs = is_inward;
  reads_at = EemReads;
  fault = eem_fault;
  places = λ bytes. eem_places (length bytes) bytes 0;
  most_frames = λ size. size;
  form = λ p serial frames. eem_form p.packet frames;
  open_form = λ p frames. flat_map (λ frame. packet_bytes (Data frame)) frames;
  open_places = λ p sizes. spaced_places 2 4 0 sizes;
  capacity = eem_capacity;
  fits = λ p sizes size. nat_le size p.segment && packets_fit (eem_capacity p) p.datagrams (sizes ++ size ∷ []);
  fits_together = λ p sizes. packets_fit (eem_capacity p) p.datagrams sizes;
}

-- NCM: a transfer is a block of this format. Many pairs may name the same bytes, but a block has 32 tables at most, each of
-- at most 65,535 bytes.
abbrev pub ncm : Format → List ℕ → ℕ → Rules
ncm f word most = record {
  word = word;
  builds_blocks = true;
  most_block = most;
  agree = BlocksAgree f;
  packs = λ lane. true;
  reads_at = λ bytes places commands. NtbReads f bytes places × (commands ≡ 0);
  fault = ntb_fault f;
  places = ntb_places f;
  most_frames = λ size. MOST_TABLES * 65535;
  form = λ p serial frames. ntb_form f (layout_of p) serial frames;
  open_form = λ p frames. open_block f (layout_of p) frames;
  open_places = λ p sizes. datagram_places (layout_of p) f.header sizes;
  capacity = λ p. p.block;
  fits = λ p sizes size. block_fits f (layout_of p) p.block p.datagrams (sizes ++ size ∷ []);
  fits_together = λ p sizes. block_fits f (layout_of p) p.block p.datagrams sizes;
}

-- NCM with fields of 16 bits, which hold what a block may have, and with fields of 32 bits
abbrev pub ncm16 : Rules
ncm16 = ncm ntb16 (codes "ncm16") 65535

abbrev pub ncm32 : Rules
ncm32 = ncm ntb32 (codes "ncm32") 262144

-- RNDIS: a transfer is a message with one frame of at most a segment, which stands behind the message's 44 bytes of header;
-- a reader takes several messages
abbrev pub rndis : Rules
rndis = record {
  word = codes "rndis";
  builds_blocks = false;
  most_block = 262144;
  agree = λ p. Unit {0};
  packs = λ lane. false;
  reads_at = λ bytes places commands. RndisReads bytes places × (commands ≡ 0);
  fault = rndis_fault;
  places = λ bytes. rndis_places (length bytes) bytes 0;
  most_frames = λ size. size;
  form = λ p serial frames. flat_map message_bytes frames;
  open_form = λ p frames. flat_map message_bytes frames;
  open_places = λ p sizes. spaced_places 44 0 0 sizes;
  capacity = λ p. p.segment + 44;
  fits = fits_alone;
  fits_together = λ p sizes. false;
}

-- the rules of each class
abbrev pub rules_of : Class → Rules
rules_of Ecm = ecm
rules_of Eem = eem
rules_of Ncm16 = ncm16
rules_of Ncm32 = ncm32
rules_of Rndis = rndis

-- all classes
abbrev pub CLASSES : List Class
CLASSES = Ecm ∷ Eem ∷ Ncm16 ∷ Ncm32 ∷ Rndis ∷ []
