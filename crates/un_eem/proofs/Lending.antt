-- The packet at a place that has no fault: its numbers, and what is lent of it.
use Rattle.std.proofs.Common.{◌≡◌, ◌≢◌, ℕ, ◌+◌, ◌-◌, ◌%◌, ◌^◌, ◌<◌, ◌≤◌, true, false, List, ◌∷◌, length, take, drop, refl, sym, ap, ◌∙◌, arith, mod-eq_of_lt}
use Rattle.std.proofs.lemmas.Bool.Decides.{nat_tests}
use Rattle.std.proofs.lemmas.List.{take_rest}
use Rattle.un_frame.specs.Bytes.{Place, number_at, slice_at}
use Rattle.un_frame.specs.Eem.{Data, Command, Empty, echo_length, is_data, packet_size, packet_fault}
use Rattle.un_frame.specs.Spans.{place_of}
use Rattle.un_frame.specs.declared.span.Span.{Span}
use Rattle.un_frame.proofs.EemLemmas.{NoFault, no_fault, not_below, size_command, size_data}
use Rattle.un_eem.specs.Frames.{places_from}
use Rattle.un_eem.specs.Walk.{IsSound, fault_from, packet_by, packet_at}
use Rattle.un_eem.proofs.Reading.{by_zero, by_low, by_high}
use Rattle.un_eem.proofs.Steps.{sound_first, sound_rest}

module _ (bytes : List ℕ) (at h : ℕ) (more : at < length bytes) (sound : IsSound bytes at) (head : h ≡ number_at 2 bytes at) where
  checked : NoFault bytes at h
  checked = no_fault bytes at h (ap (packet_fault bytes at) head ∙ sound_first bytes at more sound)

  pub two_left : at + 2 ≤ length bytes
  two_left = not_below (length bytes) (at + 2) checked.two

  pub packet_left : at + packet_size h ≤ length bytes
  packet_left = not_below (length bytes) (at + packet_size h) checked.inside

  pub sound_next : (size : ℕ) → size ≡ packet_size h → IsSound bytes (at + size)
  sound_next size same = record {
    within = let left = packet_left in omega (arith, left, same);
    none = ap (λ (n : ℕ). fault_from bytes (at + n)) (same ∙ ap packet_size head) ∙ sound_rest bytes at more sound;
  }

  pub least_data : is_data h ≡ true → 18 ≤ h
  least_data is_one = let p = rw is_one at checked.long in not_below h 18 p

  pub low_data : is_data h ≡ true → h < 2 ^ 14
  low_data is_one = let p = rw is_one at checked.plain in grind (arith, nat_tests, p)

  pub size_of_data : is_data h ≡ true → packet_size h ≡ h + 2
  size_of_data is_one =
      let some : h ≢ 0 = grind (arith, nat_tests, is_one) in
      let low = low_data is_one in
      size_data h some low

  pub shows_empty : h ≡ 0 → packet_at bytes at ≡ Empty
  unfolding packet_at
  shows_empty none = ap (packet_by bytes at) (sym head ∙ none) ∙ by_zero bytes at

  pub shows_data : is_data h ≡ true → packet_at bytes at ≡ Data (take (h - 4) (take (length bytes - (at + 2)) (drop (at + 2) bytes)))
  unfolding packet_at
  shows_data is_one =
      let low : h < 2 ^ 15 = grind (arith, nat_tests, is_one) in
      ap (packet_by bytes at) (sym head) ∙ by_low bytes at h (let least = least_data is_one in omega (arith, least)) low
      ∙ ap (λ (xs : List ℕ). Data (take (h - 4) xs)) (sym (take_rest bytes (at + 2)))

  pub high_command : is_data h ≡ false → h ≢ 0 → 2 ^ 15 ≤ h
  high_command is_none_of_it some = grind (arith, nat_tests, is_none_of_it, some)

  pub shows_command : is_data h ≡ false → h ≢ 0 → packet_at bytes at ≡ Command h (take (echo_length h) (take (length bytes - (at + 2)) (drop (at + 2) bytes)))
  unfolding packet_at
  shows_command is_none_of_it some =
      ap (packet_by bytes at) (sym head) ∙ by_high bytes at h (high_command is_none_of_it some)
      ∙ ap (λ (xs : List ℕ). Command h (take (echo_length h) xs)) (sym (take_rest bytes (at + 2)))

  pub size_of_command : is_data h ≡ false → h ≢ 0 → packet_size h ≡ echo_length h + 2
  size_of_command is_none_of_it some = size_command h (high_command is_none_of_it some)

-- where the frame of a data packet stands
pub span_there : (bytes : List ℕ) (at : ℕ) (span : Span) (rest : List Place) → at < length bytes → IsSound bytes at → is_data (number_at 2 bytes at) ≡ true → span.at ≡ at + 2 → span.size + 4 ≡ number_at 2 bytes at
    → places_from bytes at ≡ record { at = at + 2; size = number_at 2 bytes at % 2 ^ 14 - 4 } ∷ rest → places_from bytes at ≡ place_of span ∷ rest
span_there bytes at span rest more sound kind first size here =
    let low = low_data bytes at (number_at 2 bytes at) more sound refl kind in
    let same : number_at 2 bytes at % 2 ^ 14 - 4 ≡ span.size = ap (λ (n : ℕ). n - 4) (mod-eq_of_lt low) ∙ omega (arith, size) in
    here ∙ ap (λ (p : Place). p ∷ rest) (rw (same, first) refl)

-- and that frame
pub data_there : (bytes : List ℕ) (at : ℕ) (span : Span) → at < length bytes → IsSound bytes at → is_data (number_at 2 bytes at) ≡ true → span.at ≡ at + 2 → span.size + 4 ≡ number_at 2 bytes at
    → packet_at bytes at ≡ Data (slice_at bytes (place_of span))
unfolding packet_at
data_there bytes at span more sound kind first size =
    let low = low_data bytes at (number_at 2 bytes at) more sound refl kind in
    let same : number_at 2 bytes at - 4 ≡ span.size = omega (arith, size) in
    by_low bytes at (number_at 2 bytes at) (omega (arith, size)) (omega (arith, low)) ∙ rw (same, first) refl
