-- Walking over the packets of a transfer, one at a time.
use Rattle.std.proofs.Common.{◌≡◌, ℕ, zero, suc, ◌+◌, ◌-◌, ◌<◌, ◌≤◌, true, false, nat_le, List, [], ◌∷◌, length, Some, None, refl, sym, ap, ◌∙◌, arith}
use Rattle.std.proofs.lemmas.Bool.Decides.{nat_tests}
use Rattle.un_frame.proofs.NtbLemmas.{none_or_else}
use Rattle.un_frame.specs.declared.fault.Fault.{Fault}
use Rattle.un_frame.specs.Bytes.{number_at}
use Rattle.un_frame.specs.Fault.{or_else}
use Rattle.un_frame.specs.Eem.{packet_size, packet_fault, packets_fault, eem_fault}
use Rattle.un_eem.specs.Walk.{packet_at, packets_in, packets_from, fault_from, IsSound}

-- a packet has two bytes at least
pub least_size : (h : ℕ) → 2 ≤ packet_size h
least_size h = grind (arith, nat_tests)

-- with enough steps left, how many there are makes no difference
same_fault : (f g : ℕ) (bytes : List ℕ) (at : ℕ) → length bytes ≤ at + f → length bytes ≤ at + g → packets_fault f bytes at ≡ packets_fault g bytes at
unfolding packets_fault
same_fault zero zero bytes at h k = refl
same_fault zero (suc g) bytes at h k = let t : nat_le (length bytes) at ≡ true = grind (arith, nat_tests) in rw t refl
same_fault (suc f) zero bytes at h k = let t : nat_le (length bytes) at ≡ true = grind (arith, nat_tests) in rw t refl
same_fault (suc f) (suc g) bytes at h k =
    let least = least_size (number_at 2 bytes at) in
    let next = same_fault f g bytes (at + packet_size (number_at 2 bytes at)) (omega arith) (omega arith) in
    rw next refl

same_packets : (f g : ℕ) (bytes : List ℕ) (at : ℕ) → length bytes ≤ at + f → length bytes ≤ at + g → packets_in f bytes at ≡ packets_in g bytes at
unfolding packets_in
same_packets zero zero bytes at h k = refl
same_packets zero (suc g) bytes at h k = let t : nat_le (length bytes) at ≡ true = grind (arith, nat_tests) in rw t refl
same_packets (suc f) zero bytes at h k = let t : nat_le (length bytes) at ≡ true = grind (arith, nat_tests) in rw t refl
same_packets (suc f) (suc g) bytes at h k =
    let least = least_size (number_at 2 bytes at) in
    let next = same_packets f g bytes (at + packet_size (number_at 2 bytes at)) (omega arith) (omega arith) in
    rw next refl

-- one step of a walk
fault_next : (left : ℕ) (bytes : List ℕ) (at : ℕ) → at < length bytes → packets_fault (suc left) bytes at ≡ or_else (packet_fault bytes at (number_at 2 bytes at)) (packets_fault left bytes (at + packet_size (number_at 2 bytes at)))
unfolding packets_fault
fault_next left bytes at h = let t : nat_le (length bytes) at ≡ false = grind (arith, nat_tests) in rw t refl

packets_next : (left : ℕ) (bytes : List ℕ) (at : ℕ) → at < length bytes → packets_in (suc left) bytes at ≡ packet_at bytes at ∷ packets_in left bytes (at + packet_size (number_at 2 bytes at))
unfolding packets_in
packets_next left bytes at h = let t : nat_le (length bytes) at ≡ false = grind (arith, nat_tests) in rw t refl

pub fault_start : (bytes : List ℕ) → fault_from bytes 0 ≡ eem_fault bytes
unfolding fault_from
fault_start bytes = same_fault (length bytes - 0) (length bytes) bytes 0 (omega arith) (omega arith)

pub fault_end : (bytes : List ℕ) (at : ℕ) → length bytes ≤ at → fault_from bytes at ≡ None
unfolding fault_from packets_fault
fault_end bytes at h = same_fault (length bytes - at) 0 bytes at (omega arith) (omega arith)

-- a fault stands before those of the packets behind it
fault_by : (bytes : List ℕ) (at : ℕ) → at < length bytes → fault_from bytes at ≡ or_else (packet_fault bytes at (number_at 2 bytes at)) (fault_from bytes (at + packet_size (number_at 2 bytes at)))
unfolding fault_from
fault_by bytes at h =
    let n = at + packet_size (number_at 2 bytes at) in
    let least = least_size (number_at 2 bytes at) in
    let left = length bytes - at - 1 in
    same_fault (length bytes - at) (suc left) bytes at (omega arith) (omega arith) ∙ fault_next left bytes at h
    ∙ ap (λ rest. or_else (packet_fault bytes at (number_at 2 bytes at)) rest) (same_fault left (length bytes - n) bytes n (omega arith) (omega arith))

pub fault_here : (bytes : List ℕ) (at : ℕ) (f : Fault) → at < length bytes → packet_fault bytes at (number_at 2 bytes at) ≡ Some f → fault_from bytes at ≡ Some f
fault_here bytes at f h e = fault_by bytes at h ∙ ap (λ first. or_else first (fault_from bytes (at + packet_size (number_at 2 bytes at)))) e

pub fault_on : (bytes : List ℕ) (at next : ℕ) → at < length bytes → packet_fault bytes at (number_at 2 bytes at) ≡ None → next ≡ at + packet_size (number_at 2 bytes at) → fault_from bytes next ≡ fault_from bytes at
fault_on bytes at next h e same = ap (fault_from bytes) same ∙ sym (fault_by bytes at h ∙ ap (λ first. or_else first (fault_from bytes (at + packet_size (number_at 2 bytes at)))) e)

pub packets_end : (bytes : List ℕ) (at : ℕ) → length bytes ≤ at → packets_from bytes at ≡ []
unfolding packets_from packets_in
packets_end bytes at h = same_packets (length bytes - at) 0 bytes at (omega arith) (omega arith)

pub packets_on : (bytes : List ℕ) (at next : ℕ) → at < length bytes → next ≡ at + packet_size (number_at 2 bytes at) → packets_from bytes at ≡ packet_at bytes at ∷ packets_from bytes next
unfolding packets_from
packets_on bytes at next h same =
    let n = at + packet_size (number_at 2 bytes at) in
    let least = least_size (number_at 2 bytes at) in
    let left = length bytes - at - 1 in
    same_packets (length bytes - at) (suc left) bytes at (omega arith) (omega arith) ∙ packets_next left bytes at h
    ∙ ap (λ rest. packet_at bytes at ∷ rest) (same_packets left (length bytes - n) bytes n (omega arith) (omega arith) ∙ ap (λ m. packets_in (length bytes - m) bytes m) (sym same))

-- where the packets from a place on have no fault, the first has none, nor have those behind it
pub sound_first : (bytes : List ℕ) (at : ℕ) → at < length bytes → IsSound bytes at → packet_fault bytes at (number_at 2 bytes at) ≡ None
sound_first bytes at h s = (none_or_else (packet_fault bytes at (number_at 2 bytes at)) (fault_from bytes (at + packet_size (number_at 2 bytes at))) (sym (fault_by bytes at h) ∙ s.none)).0

pub sound_rest : (bytes : List ℕ) (at : ℕ) → at < length bytes → IsSound bytes at → fault_from bytes (at + packet_size (number_at 2 bytes at)) ≡ None
sound_rest bytes at h s = (none_or_else (packet_fault bytes at (number_at 2 bytes at)) (fault_from bytes (at + packet_size (number_at 2 bytes at))) (sym (fault_by bytes at h) ∙ s.none)).1
