-- One line more: every receive request stays in one place.
use Rattle.std.proofs.Common.{◌≡◌, ℕ, ◌+◌, ◌<◌, ◌≤◌, Bool, true, false, [], ◌∷◌, ◌++◌, drop, length, Option, Some, None, is_some, refl, ap, arith, nat_lt, if◌then◌else◌}
use Rattle.std.proofs.lemmas.List.{length_push}
use Rattle.std.proofs.lemmas.Option.{none-some}
use Rattle.un_facts.specs.Numbers.{one_if}
use Rattle.un_journal.specs.declared.lines.Line.{Line}
use Rattle.un_journal.specs.declared.lines.Line.TheVariants.{Posted, Flying, Landed, Failed, Retried, Cut, Opened, Gave, Recalled}
use Rattle.un_journal.specs.History.{more_if}
use Rattle.un_check.specs.declared.reading.Reading.{Reading}
use Rattle.un_check.specs.Receiving.{Receiving, InPool}
use Rattle.un_check.specs.ReceivingLines.{GoesOn, after, gives, next_in, out_after, IsOut}
use Rattle.un_check.proofs.ReceivingLists.{first_rest}

reading_some : (o : Option Reading) (n : ℕ) → next_in o ≡ Some n → one_if (is_some o) ≡ 1
reading_some None n e = absurd (none-some n e)
reading_some (Some o) n e = refl

given_in : (size : ℕ) (is_out : Bool) (r : Receiving) (o : Option Reading) (n : ℕ) → r.reading ≡ o → next_in o ≡ Some n → InPool size is_out r → InPool size is_out (gives r o)
given_in size is_out r None n is e w = absurd (none-some n e)
given_in size is_out r (Some o) n is e w = go (nat_lt (o.next + 1) o.to)
  where
    read : one_if (is_some r.reading) ≡ 1
    read = ap (λ x. one_if (is_some x)) is

    go : (b : Bool) → r.posted + (if b then r.home else r.home + 1) + one_if is_out + length r.landed + one_if (is_some (if b then Some (record o { next = o.next + 1 }) else None)) ≡ size
    go true = let sum : r.posted + r.home + one_if is_out + length r.landed + one_if (is_some r.reading) ≡ size = w in let one = read in omega (arith, one)
    go false = let sum : r.posted + r.home + one_if is_out + length r.landed + one_if (is_some r.reading) ≡ size = w in let one = read in omega (arith, one)

cut_in : (size p h l x : ℕ) (b : Bool) → p + h + one_if b + l + x ≡ size → p + more_if b h + 0 + l + x ≡ size
cut_in size p h l x true e = omega arith
cut_in size p h l x false e = e

pub in_pool : (size : ℕ) (is_out : Bool) (s : ℕ × ℕ) (line : Line) (r : Receiving) → IsOut is_out line → GoesOn line r → InPool size is_out r → InPool size (out_after line is_out) (after is_out s line r)
in_pool size is_out s (Posted l) r out goes w =
    let sum : r.posted + r.home + one_if is_out + length r.landed + one_if (is_some r.reading) ≡ size = w in let some : 0 < r.home = goes in omega arith
in_pool size is_out s (Recalled l) r out goes w =
    let sum : r.posted + r.home + one_if is_out + length r.landed + one_if (is_some r.reading) ≡ size = w in let some : 0 < r.posted = goes in omega arith
in_pool size is_out s (Flying l k) r out goes w =
    let sum : r.posted + r.home + one_if is_out + length r.landed + one_if (is_some r.reading) ≡ size = w in
    let some : 0 < r.posted = goes in let none : one_if is_out ≡ 0 = ap one_if out in omega arith
in_pool size is_out s (Landed l k) r out goes w =
    let sum : r.posted + r.home + one_if is_out + length r.landed + one_if (is_some r.reading) ≡ size = w in
    let one : one_if is_out ≡ 1 = ap one_if out in let more : length (r.landed ++ k ∷ []) ≡ length r.landed + 1 = length_push r.landed k in omega arith
in_pool size is_out s (Failed l k kind) r out goes w =
    let sum : r.posted + r.home + one_if is_out + length r.landed + one_if (is_some r.reading) ≡ size = w in let one : one_if is_out ≡ 1 = ap one_if out in omega arith
in_pool size is_out s (Retried l k n) r out goes w =
    let sum : r.posted + r.home + one_if is_out + length r.landed + one_if (is_some r.reading) ≡ size = w in let one : one_if is_out ≡ 1 = ap one_if out in omega arith
in_pool size is_out s (Cut l k c) r out goes w = cut_in size r.posted r.home (length r.landed) (one_if (is_some r.reading)) is_out w
in_pool size is_out s (Opened l k) r out goes w =
    let sum : r.posted + r.home + one_if is_out + length r.landed + one_if (is_some r.reading) ≡ size = w in
    let less : length r.landed ≡ length (k ∷ drop 1 r.landed) = ap length (first_rest r.landed k goes.0) in
    let none : one_if (is_some r.reading) ≡ 0 = ap (λ o. one_if (is_some o)) goes.1 in omega arith
in_pool size is_out s (Gave l n) r out goes w = given_in size is_out r r.reading n refl goes w
in_pool size is_out s line r out goes w = w

pub in_pool_below : (size : ℕ) (is_out : Bool) (r : Receiving) → InPool size is_out r → r.posted + r.home ≤ size
in_pool_below size is_out r w = let sum : r.posted + r.home + one_if is_out + length r.landed + one_if (is_some r.reading) ≡ size = w in omega arith
