-- Where the frames of the packets from a place on stand, past one packet.
use Rattle.std.proofs.Common.{◌≡◌, ℕ, zero, suc, ◌+◌, ◌-◌, ◌%◌, ◌^◌, ◌<◌, ◌≤◌, true, false, nat_le, if◌then◌else◌, List, [], ◌∷◌, ◌++◌, length, drop, refl, sym, ap, ◌∙◌, arith}
use Rattle.std.proofs.lemmas.Bool.Decides.{nat_tests}
use Rattle.un_frame.specs.Bytes.{Place, number_at}
use Rattle.un_frame.specs.Eem.{is_data, packet_size}
use Rattle.un_frame.specs.Parts.{places_as}
use Rattle.un_frame.specs.Places.{eem_places}
use Rattle.un_frame.specs.declared.params.Class.TheVariants.{Eem}
use Rattle.un_eem.specs.Frames.{places_from}
use Rattle.un_eem.proofs.Steps.{least_size}

-- the frame of a packet with this header, if it has one
here : ℕ → ℕ → List Place
here at header = if is_data header then record { at = at + 2; size = header % 2 ^ 14 - 4 } ∷ [] else []

-- with enough steps left, how many there are makes no difference
same_places : (f g : ℕ) (bytes : List ℕ) (at : ℕ) → length bytes ≤ at + f → length bytes ≤ at + g → eem_places f bytes at ≡ eem_places g bytes at
unfolding eem_places
same_places zero zero bytes at h k = refl
same_places zero (suc g) bytes at h k = let t : nat_le (length bytes) at ≡ true = grind (arith, nat_tests) in rw t refl
same_places (suc f) zero bytes at h k = let t : nat_le (length bytes) at ≡ true = grind (arith, nat_tests) in rw t refl
same_places (suc f) (suc g) bytes at h k =
    let least = least_size (number_at 2 bytes at) in
    let next = same_places f g bytes (at + packet_size (number_at 2 bytes at)) (omega arith) (omega arith) in
    rw next refl

pub places_end : (bytes : List ℕ) (at : ℕ) → length bytes ≤ at → places_from bytes at ≡ []
unfolding eem_places
places_end bytes at h = same_places (length bytes - at) 0 bytes at (omega arith) (omega arith)

-- one step
places_next : (left : ℕ) (bytes : List ℕ) (at : ℕ) → at < length bytes → eem_places (suc left) bytes at ≡ here at (number_at 2 bytes at) ++ eem_places left bytes (at + packet_size (number_at 2 bytes at))
unfolding eem_places here
places_next left bytes at h = let t : nat_le (length bytes) at ≡ false = grind (arith, nat_tests) in rw t refl

places_by : (bytes : List ℕ) (at next : ℕ) → at < length bytes → next ≡ at + packet_size (number_at 2 bytes at) → places_from bytes at ≡ here at (number_at 2 bytes at) ++ places_from bytes next
places_by bytes at next h same =
    let n = at + packet_size (number_at 2 bytes at) in
    let least = least_size (number_at 2 bytes at) in
    let left = length bytes - at - 1 in
    same_places (length bytes - at) (suc left) bytes at (omega arith) (omega arith) ∙ places_next left bytes at h
    ∙ ap (λ (rest : List Place). here at (number_at 2 bytes at) ++ rest) (same_places left (length bytes - n) bytes n (omega arith) (omega arith) ∙ ap (λ (m : ℕ). places_from bytes m) (sym same))

here_none : (at header : ℕ) → is_data header ≡ false → here at header ≡ []
unfolding here
here_none at header kind = rw kind refl

here_one : (at header : ℕ) → is_data header ≡ true → here at header ≡ record { at = at + 2; size = header % 2 ^ 14 - 4 } ∷ []
unfolding here
here_one at header kind = rw kind refl

-- a packet that is no data has no frame
pub places_skip : (bytes : List ℕ) (at next : ℕ) → at < length bytes → is_data (number_at 2 bytes at) ≡ false → next ≡ at + packet_size (number_at 2 bytes at) → places_from bytes next ≡ places_from bytes at
places_skip bytes at next more kind step = sym (places_by bytes at next more step ∙ ap (λ (first : List Place). first ++ places_from bytes next) (here_none at (number_at 2 bytes at) kind))

-- a packet of data has one
pub places_data : (bytes : List ℕ) (at next : ℕ) → at < length bytes → is_data (number_at 2 bytes at) ≡ true → next ≡ at + packet_size (number_at 2 bytes at)
    → places_from bytes at ≡ record { at = at + 2; size = number_at 2 bytes at % 2 ^ 14 - 4 } ∷ places_from bytes next
places_data bytes at next more kind step = places_by bytes at next more step ∙ ap (λ (first : List Place). first ++ places_from bytes next) (here_one at (number_at 2 bytes at) kind)

-- past it there is one frame less
pub places_on : (bytes : List ℕ) (at next : ℕ) → at < length bytes → is_data (number_at 2 bytes at) ≡ true → next ≡ at + packet_size (number_at 2 bytes at) → places_from bytes next ≡ drop 1 (places_from bytes at)
places_on bytes at next more kind step = sym (ap (λ (places : List Place). drop 1 places) (places_data bytes at next more kind step))

-- from the beginning on they are those of the grammar
pub places_start : (bytes : List ℕ) → places_from bytes 0 ≡ places_as Eem bytes
places_start bytes = same_places (length bytes - 0) (length bytes) bytes 0 (omega arith) (omega arith)
