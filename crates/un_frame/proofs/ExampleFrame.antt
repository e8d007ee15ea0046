-- The Ethernet header of the frames in worked examples (IEEE 802.3, 3.1.1): to one station, from another, of type IPv4.
use Rattle.std.proofs.Common.{ℕ, List, [], ◌∷◌}

abbrev pub header : List ℕ
header = 2 ∷ 0 ∷ 0 ∷ 0 ∷ 0 ∷ 2 ∷ 2 ∷ 0 ∷ 0 ∷ 0 ∷ 0 ∷ 1 ∷ 8 ∷ 0 ∷ []
