-- What the two formats have in common.
use Rattle.std.proofs.Common.{◌≡◌, ℕ, ◌≤◌, Bool, true, false, ◌==◌, if◌then◌else◌, refl, arith, List}
use Rattle.un_frame.specs.declared.params.Class.TheVariants.{Ncm16, Ncm32}
use Rattle.un_frame.specs.Bytes.{Place}
use Rattle.un_frame.specs.Ntb.{Format, NtbReads, ntb_fault, ntb16, ntb32}
use Rattle.un_frame.specs.Params.{most_block}
use Rattle.un_frame.specs.Parts.{places_as}
use Rattle.un_frame.specs.Places.{ntb_places}
use Rattle.un_frame.specs.Wire.{ReadsAt, fault_of}
use Rattle.un_frame.proofs.NtbLemmas.{IsFormat}
use Rattle.un_frame.proofs.NtbCursorLemmas.{ntb16_known, ntb32_known}
use Rattle.un_frame.proofs.NtbFormReads.{IsWritable}
use Rattle.un_frame.proofs.NtbLaws.{ntb16_writable, ntb32_writable}
use Rattle.un_ntb.specs.Formats.{format_of, class_of}

-- a fact of both formats is one of the format with either width
pub of_both : (P : Format → Type 0) (width : ℕ) → P ntb16 → P ntb32 → P (format_of width)
of_both P width a b = by_test (width == 2) where
  by_test : (t : Bool) → P (if t then ntb16 else ntb32)
  by_test true = a
  by_test false = b

pub format_known : (width : ℕ) → IsFormat (format_of width)
format_known width = of_both IsFormat width ntb16_known ntb32_known

pub format_writable : (width : ℕ) → IsWritable (format_of width)
format_writable width = of_both IsWritable width ntb16_writable ntb32_writable

-- the sizes of the formats are within these
pub record IsSmall (f : Format) : Type 0 where
  pub width : (2 ≤ f.width) × (f.width ≤ 4)
  pub header : (12 ≤ f.header) × (f.header ≤ 16)
  pub head : (8 ≤ f.head) × (f.head ≤ 16)
  pub next : f.next_ndp_index ≤ 8
  pub pair : (4 ≤ f.pair) × (f.pair ≤ 8)

pub format_small : (width : ℕ) → IsSmall (format_of width)
format_small width = of_both IsSmall width
    (record { width = (omega arith, omega arith); header = (omega arith, omega arith); head = (omega arith, omega arith); next = omega arith; pair = (omega arith, omega arith) })
    (record { width = (omega arith, omega arith); header = (omega arith, omega arith); head = (omega arith, omega arith); next = omega arith; pair = (omega arith, omega arith) })

-- what the format reads, its class reads, with the same first fault
pub class_reads : (width : ℕ) (bytes : List ℕ) (places : List Place) → NtbReads (format_of width) bytes places → ReadsAt (class_of width) bytes places 0
class_reads width bytes places r = by_test (width == 2) r where
  by_test : (t : Bool) → NtbReads (if t then ntb16 else ntb32) bytes places → ReadsAt (if t then Ncm16 else Ncm32) bytes places 0
  by_test true r = (r, refl)
  by_test false r = (r, refl)

pub class_fault : (width : ℕ) (bytes : List ℕ) → fault_of (class_of width) bytes ≡ ntb_fault (format_of width) bytes
class_fault width bytes = by_test (width == 2) where
  by_test : (t : Bool) → fault_of (if t then Ncm16 else Ncm32) bytes ≡ ntb_fault (if t then ntb16 else ntb32) bytes
  by_test true = refl
  by_test false = refl

-- where its frames stand
pub class_places : (width : ℕ) (bytes : List ℕ) → ntb_places (format_of width) bytes ≡ places_as (class_of width) bytes
class_places width bytes = by_test (width == 2) where
  by_test : (t : Bool) → ntb_places (if t then ntb16 else ntb32) bytes ≡ places_as (if t then Ncm16 else Ncm32) bytes
  by_test true = refl
  by_test false = refl

-- the largest block of either class
pub most_block-class : (width : ℕ) → most_block (class_of width) ≤ 262144
most_block-class width = by_test (width == 2) where
  by_test : (t : Bool) → most_block (if t then Ncm16 else Ncm32) ≤ 262144
  by_test true = omega arith
  by_test false = omega arith
