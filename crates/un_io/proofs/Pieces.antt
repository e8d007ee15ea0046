-- One call of a source in memory.
use Rattle.std.proofs.Common.{ℕ, ◌+◌, ◌<◌, ◌≤◌, min, List, [], ◌++◌, ◌≡◌, length, take, drop, sym, arith, length-drop}
use Rattle.std.proofs.lemmas.List.{take-append-drop, drop_all, drop-drop}

nothing_left : (items : List ℕ) (at : ℕ) → length items ≤ at → drop at items ≡ []
nothing_left items at h = drop_all at items h

pub piece_given : (items front : List ℕ) (at n most room : ℕ) → at ≤ length items → 1 ≤ most
    → n ≡ min (min most room) (length (drop at items)) → front ≡ take n (drop at items)
    → (drop at items ≡ front ++ drop (at + n) items) × (n ≡ 0 → 0 < room → drop (at + n) items ≡ [])
piece_given items front at n most room within least e f =
    let left = length-drop at items in (
      rw f (rw (← drop-drop n at items) (sym (take-append-drop n (drop at items)))),
      λ z r. nothing_left items (at + n) (omega arith),
    )
