-- What the laws of this crate say.
use Rattle.std.specs.Prelude.{◌≡◌, ℕ, ◌+◌, List, ◌++◌}
use Rattle.un_facts.specs.Lists.{copies}

-- how often a number stands in two lists one after the other: as often as in the one, and as often as in the other, added up
abbrev pub CopiesAddUp : Type 0
CopiesAddUp = (n : ℕ) (xs ys : List ℕ) → copies n (xs ++ ys) ≡ copies n xs + copies n ys
