-- What the codecs write, by class.
use Rattle.std.proofs.Common.{◌≡◌, ℕ, ◌+◌, ◌<◌, ◌≤◌, ◌==◌, Bool, true, false, nat_le, if◌then◌else◌, List, [], ◌∷◌, ◌++◌, length, map, Option, Some, None, option_to_list, unwrap_or, refl, sym, ap, ◌∙◌, IsTrue, subst, arith, length-append}
use Rattle.std.proofs.lemmas.Bool.{and_parts, false≢true, leb-true}
use Rattle.std.proofs.lemmas.Bool.Decides.{nat_tests}
use Rattle.std.proofs.lemmas.List.{length-map}
use Rattle.std.proofs.lemmas.List.Sums.{sum_by_push}
use Rattle.un_frame.proofs.EemLaws.{data_size, fit_within, padded-short}
use Rattle.un_frame.proofs.RndisLaws.{message_long}
use Rattle.un_frame.specs.declared.params.Class.{Class}
use Rattle.un_frame.specs.declared.params.Class.TheVariants.{Ecm, Eem, Ncm16, Ncm32, Rndis}
use Rattle.un_frame.specs.declared.params.Lane.{Lane}
use Rattle.un_frame.specs.declared.params.Params.{Params}
use Rattle.un_frame.specs.Eem.{Empty, packet_bytes, packets_fit, packets_size}
use Rattle.un_frame.specs.Ntb.{Format, ntb16, ntb32}
use Rattle.un_frame.specs.NtbForm.{IsOpenBlock, Layout, block_fits, datagrams_end, ntb_form, open_block}
use Rattle.un_frame.specs.Rndis.{message_bytes}
use Rattle.un_frame.specs.Blocks.{layout_of}
use Rattle.un_frame.specs.Classes.{eem_capacity, fits_alone, rules_of}
use Rattle.un_frame.specs.Lanes.{packs}
use Rattle.un_frame.specs.Params.{Agree, AgreeAs, most_block}
use Rattle.un_frame.specs.Wire.{IsOpen, capacity_as, capacity_of, fits_as, frame_fits, open_as, open_form}
use Rattle.un_frame.proofs.NtbFormLemmas.{closed_fits_within}
use Rattle.un_frame.proofs.NtbFormReads.{IsWritable, length-block}
use Rattle.un_eem.specs.Transfer.{data_packets}
use Rattle.un_ntb.specs.Formats.{class_of, format_of}

-- A class that puts one frame into a transfer, with so many bytes more.
pub record IsAlone (class : Class) (more : ℕ) : Type 0 where
  pub fits : (rules_of class).fits ≡ fits_alone
  pub capacity : (p : Params) → capacity_as class p ≡ p.segment + more
  pub none : (p : Params) → open_as class p [] ≡ []
  pub one : (p : Params) (frame : List ℕ) → length (open_as class p (frame ∷ [])) ≡ length frame + more

pub ecm_alone : IsAlone Ecm 0
ecm_alone = record { fits = refl; capacity = λ p. omega arith; none = λ p. refl; one = λ p frame. let long = length-append frame [] in omega (arith, long) }

pub rndis_alone : IsAlone Rndis 44
rndis_alone = record {
  fits = refl;
  capacity = λ p. refl;
  none = λ p. refl;
  one = λ p frame. let message = message_long frame in let long = length-append (message_bytes frame) [] in omega (arith, message, long);
}

-- the bytes of an open transfer
pub open_eem : (p : Params) (sizes bytes : List ℕ) (frames : List (List ℕ)) → p.class ≡ Eem → IsOpen p sizes bytes frames → bytes ≡ data_packets frames
open_eem p sizes bytes frames is o = o.so_far ∙ ap (λ (class : Class). open_as class p frames) is

-- a frame that fits is the first, of at most a segment, and the transfer has no bytes before it
fits_first : (p : Params) (held : Option ℕ) (size : ℕ) → IsTrue (fits_alone p (option_to_list held) size) → (held ≡ None) × (size ≤ p.segment)
fits_first p None size t = (refl, grind (arith, nat_tests, t))
fits_first p (Some n) size t = absurd (false≢true t)

no_frames : (frames : List (List ℕ)) → map length frames ≡ [] → frames ≡ []
no_frames [] same = refl
no_frames (x ∷ xs) same = absurd (cc)

module _ (class : Class) (more : ℕ) (alone : IsAlone class more) (p : Params) (held : Option ℕ) (size : ℕ) (is : p.class ≡ class) (fits : IsTrue (frame_fits p (option_to_list held) size)) where
  alone_first : (held ≡ None) × (size ≤ p.segment)
  alone_first =
      let by_class = subst (λ (c : Class). IsTrue (fits_as c p (option_to_list held) size)) is fits in
      fits_first p held size (subst (λ (f : Params → List ℕ → ℕ → Bool). IsTrue (f p (option_to_list held) size)) alone.fits by_class)

  pub alone_room : (room : ℕ) → capacity_of p ≤ room → size + more ≤ room
  alone_room room within =
      let first = alone_first in
      let most = first.1 in
      let capacity = ap (λ (c : Class). capacity_as c p) is ∙ alone.capacity p in
      omega (arith, most, capacity, within)

  alone_frames : (bytes : List ℕ) (frames : List (List ℕ)) → IsOpen p (option_to_list held) bytes frames → frames ≡ []
  alone_frames bytes frames o =
      let first = alone_first in
      no_frames frames (o.lengths ∙ ap (λ (o : Option ℕ). option_to_list o) first.0)

  pub alone_empty : (bytes : List ℕ) → ((frames : List (List ℕ)) × IsOpen p (option_to_list held) bytes frames) → bytes ≡ []
  alone_empty bytes left =
      left.1.so_far ∙ ap (λ (c : Class). open_as c p left.0) is ∙ ap (λ (fs : List (List ℕ)). open_as class p fs) (alone_frames bytes left.0 left.1) ∙ alone.none p

  pub alone_grown : (bytes : List ℕ) (frames : List (List ℕ)) (frame : List ℕ) → IsOpen p (option_to_list held) bytes frames → open_form p (frames ++ frame ∷ []) ≡ open_as class p (frame ∷ [])
  alone_grown bytes frames frame o = ap (λ (c : Class). open_as c p (frames ++ frame ∷ [])) is ∙ ap (λ (fs : List (List ℕ)). open_as class p (fs ++ frame ∷ [])) (alone_frames bytes frames o)

-- the bytes of packets are as many as their frames' sizes say
pub open_size : (p : Params) (sizes bytes : List ℕ) → p.class ≡ Eem → ((frames : List (List ℕ)) × IsOpen p sizes bytes frames) → length bytes ≡ packets_size sizes
open_size p sizes bytes is left = ap (λ (xs : List ℕ). length xs) (open_eem p sizes bytes left.0 is left.1) ∙ data_size left.0 ∙ ap packets_size left.1.lengths

capacity_eem : (p : Params) → p.class ≡ Eem → capacity_of p ≡ eem_capacity p
capacity_eem p is = ap (λ (class : Class). capacity_as class p) is

-- a frame that fits has a segment at most, and there is room for its packet
module _ (p : Params) (sizes : List ℕ) (size : ℕ) (is : p.class ≡ Eem) (fits : IsTrue (frame_fits p sizes size)) where
  eem_parts : (nat_le size p.segment ≡ true) × (packets_fit (eem_capacity p) p.datagrams (sizes ++ size ∷ []) ≡ true)
  eem_parts = and_parts (nat_le size p.segment) (packets_fit (eem_capacity p) p.datagrams (sizes ++ size ∷ [])) (subst (λ (class : Class). IsTrue (fits_as class p sizes size)) is fits)

  pub eem_frame_most : p.segment ≤ 8192 → size ≤ 16379
  eem_frame_most segment =
      let most = leb-true size p.segment eem_parts.0 in
      omega (arith, most, segment)

  pub eem_frame_room : (bytes : List ℕ) (room : ℕ) → ((frames : List (List ℕ)) × IsOpen p sizes bytes frames) → capacity_of p ≤ room → length bytes + size + 6 ≤ room
  eem_frame_room bytes room left within =
      let whole = fit_within (eem_capacity p) p.datagrams (sizes ++ size ∷ []) eem_parts.1 in
      let more : packets_size (sizes ++ size ∷ []) ≡ packets_size sizes + (size + 6) = sum_by_push (λ n. n + 6) sizes size in
      let long = open_size p sizes bytes is left in
      let capacity = capacity_eem p is in
      omega (arith, whole, more, long, capacity, within)

-- there is room for the empty packet, and what is closed is within the capacity
pub eem_room : (p : Params) (sizes bytes : List ℕ) → p.class ≡ Eem → packets_size sizes + 2 ≤ eem_capacity p → ((frames : List (List ℕ)) × IsOpen p sizes bytes frames) → length bytes + 2 ≤ capacity_of p
eem_room p sizes bytes is within left =
    let long = open_size p sizes bytes is left in
    let capacity = capacity_eem p is in
    omega (arith, long, capacity, within)

pub eem_within : (p : Params) (sizes bytes closed : List ℕ) (b : Bool) → p.class ≡ Eem → packets_size sizes + 2 ≤ eem_capacity p → ((frames : List (List ℕ)) × IsOpen p sizes bytes frames)
    → closed ≡ bytes ++ (if b then packet_bytes Empty else []) → length closed ≤ capacity_of p
eem_within p sizes bytes closed b is within left same =
    let room = eem_room p sizes bytes is within left in
    let long = padded-short bytes b in
    let whole = ap (λ (xs : List ℕ). length xs) same in
    omega (arith, room, long, whole)

-- the bytes of an open transfer that holds one frame at most
held_long : (class : Class) (more : ℕ) → IsAlone class more → (p : Params) (held : Option ℕ) (frames : List (List ℕ)) → map length frames ≡ option_to_list held → length (open_as class p frames) ≤ unwrap_or held 0 + more
held_long class more alone p None [] same = let none = ap (λ (xs : List ℕ). length xs) (alone.none p) in omega (arith, none)
held_long class more alone p None (x ∷ xs) same = absurd (cc)
held_long class more alone p (Some n) [] same = absurd (cc)
held_long class more alone p (Some n) (x ∷ []) same = let long : length x ≡ n = cc in let one = alone.one p x in omega (arith, long, one)
held_long class more alone p (Some n) (x ∷ y ∷ zs) same = absurd (cc)

-- a closed block that fits has at most the block's bytes
pub block_within : (f : Format) (p : Params) (serial : ℕ) (frames : List (List ℕ)) → IsWritable f → block_fits f (layout_of p) p.block p.datagrams (map length frames) ≡ true → length (ntb_form f (layout_of p) serial frames) ≤ p.block
block_within f p serial frames known fits =
    let n : length (map length frames) ≡ length frames = length-map frames (λ (x : List ℕ). length x) in
    let t = closed_fits_within f p.alignment p.block p.datagrams (datagrams_end (layout_of p) f.header (map length frames)) (length frames) (rw n at fits) in
    rw (length-block f (layout_of p) serial frames known) t.0

-- what a codec of such a class closes has at most the capacity
pub alone_within : (class : Class) (more : ℕ) → IsAlone class more → (p : Params) (held : Option ℕ) (bytes : List ℕ) → p.class ≡ class → unwrap_or held 0 ≤ p.segment → ((frames : List (List ℕ)) × IsOpen p (option_to_list held) bytes frames) → length bytes ≤ capacity_of p
alone_within class more alone p held bytes is fits left =
    let whole = ap (λ (xs : List ℕ). length xs) (left.1.so_far ∙ ap (λ (c : Class). open_as c p left.0) is) in
    let long = held_long class more alone p held left.0 left.1.lengths in
    let capacity = ap (λ (c : Class). capacity_as c p) is ∙ alone.capacity p in
    omega (arith, whole, long, capacity, fits)

-- and what a codec of NCM closes
pub block_open : (f : Format) (p : Params) (l : Layout) (sizes bytes : List ℕ) (frames : List (List ℕ)) → open_form p frames ≡ open_block f (layout_of p) frames → l ≡ layout_of p → IsOpen p sizes bytes frames → IsOpenBlock f l sizes bytes frames
block_open f p l sizes bytes frames is same o =
    record { lengths = o.lengths; so_far = o.so_far ∙ is ∙ ap (λ (m : Layout). open_block f m frames) (sym same) }

pub ntb_within : (f : Format) (p : Params) (l : Layout) (serial : ℕ) (sizes closed : List ℕ) (frames : List (List ℕ)) → IsWritable f → l ≡ layout_of p → block_fits f (layout_of p) p.block p.datagrams sizes ≡ true → map length frames ≡ sizes → closed ≡ ntb_form f l serial frames → length closed ≤ p.block
ntb_within f p l serial sizes closed frames known same fits lengths is =
    let whole = ap (λ (xs : List ℕ). length xs) (is ∙ ap (λ (m : Layout). ntb_form f m serial frames) same) in
    let within = block_within f p serial frames known (ap (λ (ns : List ℕ). block_fits f (layout_of p) p.block p.datagrams ns) lengths ∙ fits) in
    omega (arith, whole, within)

-- whichever width its blocks have
block_capacity : (width : ℕ) (p : Params) → p.class ≡ class_of width → capacity_of p ≡ p.block
block_capacity width p is = ap (λ (class : Class). capacity_as class p) is ∙ of_both (width == 2) where
  of_both : (b : Bool) → capacity_as (if b then Ncm16 else Ncm32) p ≡ p.block
  of_both true = refl
  of_both false = refl

pub capacity_ncm : (width : ℕ) (p : Params) (n : ℕ) → p.class ≡ class_of width → n ≤ p.block → n ≤ capacity_of p
capacity_ncm width p n is within = let capacity = block_capacity width p is in omega (arith, capacity, within)

pub open_ncm : (width : ℕ) (p : Params) (frames : List (List ℕ)) → p.class ≡ class_of width → open_form p frames ≡ open_block (format_of width) (layout_of p) frames
open_ncm width p frames is = ap (λ (class : Class). open_as class p frames) is ∙ of_both (width == 2) where
  of_both : (b : Bool) → open_as (if b then Ncm16 else Ncm32) p frames ≡ open_block (if b then ntb16 else ntb32) (layout_of p) frames
  of_both true = refl
  of_both false = refl

-- and they are packed, in either lane
pub packs_ncm : (width : ℕ) (class : Class) (lane : Lane) → class ≡ class_of width → packs class lane ≡ true
packs_ncm width class lane is = ap (λ (c : Class). packs c lane) is ∙ of_both (width == 2) where
  of_both : (b : Bool) → packs (if b then Ncm16 else Ncm32) lane ≡ true
  of_both true = refl
  of_both false = refl

-- its parameters are a block's
pub remainder_ncm : (width : ℕ) (p : Params) → p.class ≡ class_of width → Agree p → p.remainder < p.divisor
remainder_ncm width p is agree = of_both (width == 2) (subst (λ (class : Class). AgreeAs class p) is agree) where
  of_both : (b : Bool) → AgreeAs (if b then Ncm16 else Ncm32) p → p.remainder < p.divisor
  of_both true a = a.remainder
  of_both false a = a.remainder

pub block_ncm : (width : ℕ) (p : Params) → p.class ≡ class_of width → p.block ≤ most_block p.class → p.block ≤ most_block (class_of width)
block_ncm width p is within = subst (λ (class : Class). p.block ≤ most_block class) is within
