-- Descriptors from their bytes: one after the other, each as long as its first byte says (USB 2.0, 9.5).
use Rattle.std.specs.Prelude.{◌≡◌, ℕ, zero, suc, ◌+◌, Bool, List, [], ◌∷◌, length, drop, slice_index, slice_get, nat_le, ◌==◌, if◌then◌else◌, Option, Some, None, Result, Ok, Err}
use Rattle.un_frame.specs.Bytes.{number_at}
use Rattle.un_desc.specs.declared.function.DescFault.{DescFault}
use Rattle.un_desc.specs.declared.function.DescFault.TheVariants.{Truncated, BadLength}
use Rattle.un_desc.specs.declared.descriptor.Descriptor.{Descriptor}
use Rattle.un_desc.specs.declared.descriptor.Descriptor.TheVariants.{AnInterface, AnEndpoint, Header, Union, Ethernet, Ncm, Other}

-- one test after another; the first that fails is the fault
infixl 10 ◌>>=◌
abbrev pub ◌>>=◌ : {A B : Type 0} → Result A DescFault → (A → Result B DescFault) → Result B DescFault
(Ok x) >>= f = f x
(Err e) >>= f = Err e

abbrev pub needs : DescFault → Bool → Result (Unit {0}) DescFault
needs fault holds = if holds then Ok tt else Err fault

abbrev pub given : {X : Type 0} → DescFault → Option X → Result X DescFault
given fault (Some x) = Ok x
given fault None = Err fault

-- the types of descriptors that are known: of USB (USB 2.0, table 9-5), and CDC's functional ones (CDC 1.2, 5.2.3)
abbrev pub CONFIGURATION : ℕ
CONFIGURATION = 0x02

abbrev pub INTERFACE : ℕ
INTERFACE = 0x04

abbrev pub ENDPOINT : ℕ
ENDPOINT = 0x05

abbrev pub FUNCTIONAL : ℕ
FUNCTIONAL = 0x24

-- the subtypes of functional descriptors that are known (CDC 1.2, table 13; NCM 1.0, 5.2.1)
abbrev pub HEADER : ℕ
HEADER = 0x00

abbrev pub UNION : ℕ
UNION = 0x06

abbrev pub ETHERNET : ℕ
ETHERNET = 0x0f

abbrev pub NCM : ℕ
NCM = 0x1a

-- the least length of a functional descriptor, by its subtype, where there is a byte for it
abbrev pub least_functional : Option ℕ → ℕ
least_functional (Some subtype) =
    if subtype == HEADER then 5
    else (if subtype == UNION then 5
    else (if subtype == ETHERNET then 13
    else (if subtype == NCM then 6
    else 3)))
least_functional None = 3

-- the least length of the descriptor at the front, by its type
unfoldable pub least_length : List ℕ → ℕ
least_length bytes =
    if slice_index bytes 1 == CONFIGURATION then 9
    else (if slice_index bytes 1 == INTERFACE then 9
    else (if slice_index bytes 1 == ENDPOINT then 7
    else (if slice_index bytes 1 == FUNCTIONAL then least_functional (slice_get bytes 2)
    else 2)))

-- a functional descriptor at the front, by its subtype: the release of a header, the first data interface of a union
-- (its fifth byte), the longest frame of an Ethernet descriptor, and the capabilities of NCM
abbrev pub functional : List ℕ → Descriptor
functional bytes =
    if slice_index bytes 2 == HEADER then Header (number_at 2 bytes 3)
    else (if slice_index bytes 2 == UNION then Union (slice_index bytes 4)
    else (if slice_index bytes 2 == ETHERNET then Ethernet (number_at 2 bytes 8)
    else (if slice_index bytes 2 == NCM then Ncm (slice_index bytes 5)
    else Other)))

-- the descriptor at the front
unfoldable pub descriptor_of : List ℕ → Descriptor
descriptor_of bytes =
    if slice_index bytes 1 == INTERFACE then AnInterface (record {
      number = slice_index bytes 2;
      setting = slice_index bytes 3;
      class = slice_index bytes 5;
      subclass = slice_index bytes 6;
    })
    else (if slice_index bytes 1 == ENDPOINT then AnEndpoint (record {
      address = slice_index bytes 2;
      attributes = slice_index bytes 3;
      size = number_at 2 bytes 4;
    })
    else (if slice_index bytes 1 == FUNCTIONAL then functional bytes
    else Other))

-- The length of the descriptor at the front, which stands at this place: two bytes are there, the first of them is a
-- length for the type, and all of it is there. The order of the tests is this project's own.
unfoldable pub length_at : ℕ → List ℕ → Result ℕ DescFault
length_at at bytes = do
  begun ← needs (Truncated at) (nat_le 2 (length bytes))
  enough ← needs (BadLength at) (nat_le (least_length bytes) (slice_index bytes 0))
  whole ← needs (Truncated at) (nat_le (slice_index bytes 0) (length bytes))
  Ok (slice_index bytes 0)

abbrev pub onto : Descriptor → Result (List Descriptor) DescFault → Result (List Descriptor) DescFault
onto first rest = rest >>= λ descriptors. Ok (first ∷ descriptors)

-- the descriptors of bytes that stand at this place, or the first fault; at most so many of them
unfoldable pub walk_most : ℕ → ℕ → List ℕ → Result (List Descriptor) DescFault
walk_most most at [] = Ok []
walk_most zero at (byte ∷ bytes) = Ok []
walk_most (suc most) at (byte ∷ bytes) =
    length_at at (byte ∷ bytes) >>= λ size. onto (descriptor_of (byte ∷ bytes)) (walk_most most (at + size) (drop size (byte ∷ bytes)))

-- the same of all: as each has at least 2 bytes, there are no more of them than bytes
unfoldable pub walk_from : ℕ → List ℕ → Result (List Descriptor) DescFault
walk_from at bytes = walk_most (length bytes) at bytes

-- bytes that have descriptors and no fault, and these descriptors
abbrev pub descriptors_in : Result (List Descriptor) DescFault → List Descriptor
descriptors_in (Ok ds) = ds
descriptors_in (Err e) = []

abbrev pub descriptors_of : List ℕ → List Descriptor
descriptors_of bytes = descriptors_in (walk_from 0 bytes)

abbrev pub IsWalked : List ℕ → Type 0
IsWalked bytes = walk_from 0 bytes ≡ Ok (descriptors_of bytes)

-- a check over all bytes found no fault, or the first
abbrev pub IsWalk : Result (Unit {0}) DescFault → Result (List Descriptor) DescFault → Type 0
IsWalk (Ok done) walked = walked ≡ Ok (descriptors_in walked)
IsWalk (Err e) walked = walked ≡ Err e
