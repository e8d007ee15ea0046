-- Packets that are put together.
use Rattle.std.proofs.Common.{◌≡◌, ℕ, ◌+◌, ◌*◌, ◌/◌, ◌≤◌, List, ◌++◌, length, take, drop, sym, arith}
use Rattle.std.proofs.lemmas.Grind.{common_steps}
use Rattle.std.proofs.Math.Seq.{take-add}

pub pieces_more : {X : Type 0} (xs : List X) (i packet : ℕ) → take (i * packet) xs ++ take packet (drop (i * packet) xs) ≡ take ((i + 1) * packet) xs
pieces_more xs i packet =
    let e : (i + 1) * packet ≡ i * packet + packet = grind arith in
    rw e (sym (take-add (i * packet) packet xs))

pub pieces_all : {X : Type 0} (xs : List X) (packet : ℕ) → 1 ≤ packet → take ((length xs / packet + 1) * packet) xs ≡ xs
pieces_all xs packet h =
    let e : length xs ≤ (length xs / packet + 1) * packet = grind arith in
    grind (arith, common_steps)
