-- A set-up packet and its bytes are one another's.
use Rattle.std.proofs.Common.{◌≡◌, ℕ, ◌<◌, List, [], ◌∷◌, length, refl, ap, ◌∙◌, arith}
use Rattle.un_desc.proofs.Built.{again, again_same}
use Rattle.un_frame.specs.Bytes.{AreBytes, number_at, number_bytes}
use Rattle.un_frame.proofs.EemLemmas.{number_bytes-number_at}
use Rattle.un_classreq.specs.declared.setup.Setup.{Setup}
use Rattle.un_classreq.specs.Setup.{setup_bytes, setup_of}

abbrev with_numbers : Setup → ℕ → ℕ → ℕ → Setup
with_numbers s value index size = record { request_type = s.request_type; request = s.request; value = value; index = index; length = size }

read_back : (s : Setup) → setup_of (setup_bytes s) ≡ with_numbers s (again s.value) (again s.index) (again s.length)
unfolding number_at number_bytes
read_back s = refl

pub packet_again : (s : Setup) → s.value < 65536 → s.index < 65536 → s.length < 65536 → setup_of (setup_bytes s) ≡ s
packet_again s v i l =
    read_back s
    ∙ ap (λ (x : ℕ). with_numbers s x (again s.index) (again s.length)) (again_same s.value v)
    ∙ ap (λ (x : ℕ). with_numbers s s.value x (again s.length)) (again_same s.index i)
    ∙ ap (λ (x : ℕ). with_numbers s s.value s.index x) (again_same s.length l)

pub bytes_again : (bytes : List ℕ) → length bytes ≡ 8 → AreBytes bytes → setup_bytes (setup_of bytes) ≡ bytes
bytes_again (a ∷ b ∷ c ∷ d ∷ e ∷ f ∷ g ∷ h ∷ []) n small =
    let bytes : List ℕ = a ∷ b ∷ c ∷ d ∷ e ∷ f ∷ g ∷ h ∷ [] in
    let two = number_bytes-number_at bytes 2 small (omega arith) in
    let four = number_bytes-number_at bytes 4 small (omega arith) in
    let six = number_bytes-number_at bytes 6 small (omega arith) in
    rw (two, four, six) refl
bytes_again other n small = absurd (omega arith)
