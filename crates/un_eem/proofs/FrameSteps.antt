-- The frames and the commands of the packets from a place on, past one packet.
use Rattle.std.proofs.Common.{◌≡◌, ℕ, ◌+◌, ◌-◌, ◌^◌, ◌<◌, ◌≤◌, Bool, true, false, ◌==◌, nat_le, if◌then◌else◌, List, [], ◌∷◌, length, take, drop, refl, sym, ap, ◌∙◌, arith}
use Rattle.std.proofs.lemmas.Bool.Decides.{nat_tests}
use Rattle.un_frame.specs.Bytes.{number_at}
use Rattle.un_frame.specs.Eem.{Packet, Data, Command, Empty, command_count, echo_length, is_data, packet_size}
use Rattle.un_eem.specs.Frames.{frames_from}
use Rattle.un_eem.specs.Transfer.{frames_in}
use Rattle.un_eem.specs.Walk.{packet_by, packet_at, packets_from}
use Rattle.un_eem.proofs.Reading.{by_zero, by_low, by_high}
use Rattle.un_eem.proofs.Steps.{packets_end, packets_on}

pub frames_end : (bytes : List ℕ) (at : ℕ) → length bytes ≤ at → frames_from bytes at ≡ []
frames_end bytes at past = ap frames_in (packets_end bytes at past)

module _ (bytes : List ℕ) (at : ℕ) where
  -- the packet at the place, by its header
  none_there : number_at 2 bytes at ≡ 0 → packet_at bytes at ≡ Empty
  unfolding packet_at
  none_there zero_is = ap (packet_by bytes at) zero_is ∙ by_zero bytes at

  low_there : 0 < number_at 2 bytes at → number_at 2 bytes at < 2 ^ 15 → packet_at bytes at ≡ Data (take (number_at 2 bytes at - 4) (drop (at + 2) bytes))
  unfolding packet_at
  low_there some low = by_low bytes at (number_at 2 bytes at) some low

  high_there : 2 ^ 15 ≤ number_at 2 bytes at → packet_at bytes at ≡ Command (number_at 2 bytes at) (take (echo_length (number_at 2 bytes at)) (drop (at + 2) bytes))
  unfolding packet_at
  high_there high = by_high bytes at (number_at 2 bytes at) high

module _ (bytes : List ℕ) (at next : ℕ) (more : at < length bytes) (step : next ≡ at + packet_size (number_at 2 bytes at)) where
  past : (p : Packet) → packet_at bytes at ≡ p → packets_from bytes at ≡ p ∷ packets_from bytes next
  past p here = packets_on bytes at next more step ∙ ap (λ (q : Packet). q ∷ packets_from bytes next) here

  pub frames_data : (frame : List ℕ) → packet_at bytes at ≡ Data frame → frames_from bytes at ≡ frame ∷ frames_from bytes next
  frames_data frame here = ap frames_in (past (Data frame) here)

  skipped : (zero_is : Bool) → (number_at 2 bytes at == 0) ≡ zero_is → is_data (number_at 2 bytes at) ≡ false → frames_from bytes at ≡ frames_from bytes next
  skipped true e kind = ap frames_in (past Empty (none_there bytes at (grind (arith, nat_tests, e))))
  skipped false e kind = ap frames_in (past _ (high_there bytes at (grind (arith, nat_tests, e, kind))))

  counted : (high zero_is : Bool) → nat_le (2 ^ 15) (number_at 2 bytes at) ≡ high → (number_at 2 bytes at == 0) ≡ zero_is
      → command_count (packets_from bytes at) ≡ (if high then 1 else 0) + command_count (packets_from bytes next)
  counted true zero_is h e = ap command_count (past _ (high_there bytes at (grind (arith, nat_tests, h)))) ∙ (omega arith)
  counted false true h e = ap command_count (past Empty (none_there bytes at (grind (arith, nat_tests, e)))) ∙ (omega arith)
  counted false false h e = ap command_count (past _ (low_there bytes at (grind (arith, nat_tests, e)) (grind (arith, nat_tests, h)))) ∙ (omega arith)

-- a packet that is no data has no frame
pub frames_skip : (bytes : List ℕ) (at next : ℕ) → at < length bytes → is_data (number_at 2 bytes at) ≡ false → next ≡ at + packet_size (number_at 2 bytes at) → frames_from bytes next ≡ frames_from bytes at
frames_skip bytes at next more kind step = sym (skipped bytes at next more step (number_at 2 bytes at == 0) refl kind)

-- past a packet of data there is one frame less
pub frames_on : (bytes : List ℕ) (at next : ℕ) → at < length bytes → is_data (number_at 2 bytes at) ≡ true → next ≡ at + packet_size (number_at 2 bytes at) → frames_from bytes next ≡ drop 1 (frames_from bytes at)
frames_on bytes at next more kind step =
    let here = low_there bytes at (grind (arith, nat_tests, kind)) (grind (arith, nat_tests, kind)) in
    sym (ap (λ (frames : List (List ℕ)). drop 1 frames) (frames_data bytes at next more step _ here))

-- a packet is a command, or none
pub commands_on : (bytes : List ℕ) (at next : ℕ) → at < length bytes → next ≡ at + packet_size (number_at 2 bytes at)
    → command_count (packets_from bytes at) ≡ (if nat_le (2 ^ 15) (number_at 2 bytes at) then 1 else 0) + command_count (packets_from bytes next)
commands_on bytes at next more step = counted bytes at next more step (nat_le (2 ^ 15) (number_at 2 bytes at)) (number_at 2 bytes at == 0) refl refl
