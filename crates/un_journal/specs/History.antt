-- A history is a list of entries, the oldest first. What it says of a lane is looked up in the lane's entries, the newest first:
-- each look-up below says what one more line changes. A flight is looked up so that a
-- transfer may fly again: it flies where a flying line has no later line that ends the flight.
use Rattle.std.specs.Prelude.{ℕ, zero, suc, ◌+◌, ◌-◌, Bool, true, false, not, ◌&&◌, ◌||◌, ◌==◌, List, [], ◌∷◌, ◌++◌, reverse, Option, Some, None, filter, is_some, if◌then◌else◌}
use Rattle.un_facts.specs.Lists.{is_empty}
use Rattle.un_facts.specs.Numbers.{within}
use Rattle.un_frame.specs.declared.params.Lane.{Lane}
use Rattle.un_frame.specs.declared.kinds.FaultKind.TheVariants.{Halt}
use Rattle.un_journal.specs.declared.lines.Line.{Line}
use Rattle.un_journal.specs.Lines.{begin_with, row}
use Rattle.un_journal.specs.declared.lines.Line.TheVariants.{Took, Refused, Made, Waited, Posted, Flying, Landed, Failed, Retried, Marked, Cut, Dropped, TxHome, Opened, Gave, Recalled, Cleared, Settled}

-- a line with its bytes
abbrev pub Entry : Type 0
Entry = Line × List ℕ

abbrev pub History : Type 0
History = List Entry

-- whether a line speaks of the lane, which is then its first field; a settled line speaks of both
abbrev pub concerns : Lane → Entry → Bool
concerns lane (Settled t1 r1 t2 r2, bytes) = true
concerns lane (line, bytes) = begin_with lane (row line).fields

-- the lane's entries, the newest first
abbrev pub past : Lane → History → History
past lane history = filter (concerns lane) (reverse history)

-- LISTS OF NUMBERS

-- the numbers below n that pass, in order
abbrev pub those : (ℕ → Bool) → ℕ → List ℕ
those test zero = []
those test (suc n) = those test n ++ (if test n then n ∷ [] else [])

-- the first of a list
abbrev pub first : {X : Type 0} → List X → Option X
first [] = None
first (x ∷ xs) = Some x

-- so many numbers in a row, and the numbers of a span
abbrev pub row_from : ℕ → ℕ → List ℕ
row_from a zero = []
row_from a (suc n) = a ∷ row_from (a + 1) n

abbrev pub numbers : ℕ × ℕ → List ℕ
numbers span = row_from span.0 (span.1 - span.0)

-- one more where the test passes; the value where it passes, else what was there
abbrev pub more_if : Bool → ℕ → ℕ
more_if true n = n + 1
more_if false n = n

abbrev pub told_if : {X : Type 0} → Bool → X → Option X → Option X
told_if true x before = Some x
told_if false x before = before

-- LINES THAT PASS A TEST

-- whether some line passes, and how many do
abbrev pub some_line : (Line → Bool) → History → Bool
some_line test [] = false
some_line test (e ∷ g) = test e.0 || some_line test g

abbrev pub count_of : (Line → Bool) → History → ℕ
count_of test [] = 0
count_of test (e ∷ g) = more_if (test e.0) (count_of test g)

-- THE LANE'S LINES, g, THE NEWEST FIRST

-- how many datagrams were accepted
abbrev pub taken : History → ℕ
taken g = count_of (elim [ Took l s ↦ true | _ ↦ false ]) g

-- how many frames of a sender were consumed
abbrev pub consumed : History → ℕ → ℕ
consumed g sender = count_of (elim [ Took l s ↦ s == sender | Refused l s why ↦ s == sender | _ ↦ false ]) g

-- how many transfers were made
abbrev pub made : History → ℕ
made g = count_of (elim [ Made l k a b ↦ true | _ ↦ false ]) g

-- the span and the bytes of a transfer
abbrev pub span : History → ℕ → Option (ℕ × ℕ)
span [] k = None
span ((Made l j a b, bytes) ∷ g) k = told_if (j == k) (a, b) (span g k)
span (e ∷ g) k = span g k

abbrev pub made_bytes : History → ℕ → List ℕ
made_bytes [] k = []
made_bytes ((Made l j a b, bytes) ∷ g) k = if j == k then bytes else made_bytes g k
made_bytes (e ∷ g) k = made_bytes g k

-- the transfer whose span has n
abbrev pub serial_of : History → ℕ → Option ℕ
serial_of [] n = None
serial_of ((Made l j a b, bytes) ∷ g) n = told_if (within a b n) j (serial_of g n)
serial_of (e ∷ g) n = serial_of g n

-- whether n was dropped
abbrev pub dropped : History → ℕ → Bool
dropped g n = some_line (elim [ Dropped l a b c ↦ within a b n | _ ↦ false ]) g

-- the end of the last made or dropped span
abbrev pub cover : History → ℕ
cover [] = 0
cover ((Made l j a b, bytes) ∷ g) = b
cover ((Dropped l a b c, bytes) ∷ g) = b
cover (e ∷ g) = cover g

-- whether a transfer flies: a flying line of it has no later line that ends the flight
abbrev pub flies : History → ℕ → Bool
flies [] k = false
flies ((Flying l j, bytes) ∷ g) k = j == k || flies g k
flies ((Landed l j, bytes) ∷ g) k = not (j == k) && flies g k
flies ((Failed l j kind, bytes) ∷ g) k = not (j == k) && flies g k
flies ((Retried l j n, bytes) ∷ g) k = not (j == k) && flies g k
flies ((Cut l j c, bytes) ∷ g) k = not (j == k) && flies g k
flies (e ∷ g) k = flies g k

-- whether it landed, failed, was cut, was opened
abbrev pub landed : History → ℕ → Bool
landed g k = some_line (elim [ Landed l j ↦ j == k | _ ↦ false ]) g

abbrev pub failed : History → ℕ → Bool
failed g k = some_line (elim [ Failed l j kind ↦ j == k | _ ↦ false ]) g

abbrev pub was_cut : History → ℕ → Bool
was_cut g k = some_line (elim [ Cut l j c ↦ j == k | _ ↦ false ]) g

abbrev pub opened : History → ℕ → Bool
opened g k = some_line (elim [ Opened l j ↦ j == k | _ ↦ false ]) g

-- the control that marked it
abbrev pub mark : History → ℕ → Option ℕ
mark [] k = None
mark ((Marked l j c, bytes) ∷ g) k = told_if (j == k) c (mark g k)
mark (e ∷ g) k = mark g k

-- whether datagram n was given, and the numbers given, in order
abbrev pub gave : History → ℕ → Bool
gave g n = some_line (elim [ Gave l m ↦ m == n | _ ↦ false ]) g

abbrev pub given : History → List ℕ
given [] = []
given ((Gave l m, bytes) ∷ g) = given g ++ m ∷ []
given (e ∷ g) = given g

-- whether a transfer is over; whether one that was made waits
abbrev pub ended : History → ℕ → Bool
ended g k = landed g k || failed g k || was_cut g k

abbrev pub waits : History → ℕ → Bool
waits g k = not (flies g k) && not (ended g k)

-- the transfers that wait, that fly, that have landed and aren't opened, by serial
abbrev pub waiting : History → List ℕ
waiting g = those (waits g) (made g)

abbrev pub flying : History → List ℕ
flying g = those (flies g) (made g)

abbrev pub arrived : History → List ℕ
arrived g = those (λ k. landed g k && not (opened g k)) (made g)

-- the numbers of a transfer that aren't given
abbrev pub span_numbers : Option (ℕ × ℕ) → List ℕ
span_numbers None = []
span_numbers (Some s) = numbers s

abbrev pub left_of : History → ℕ → List ℕ
left_of g k = filter (λ n. not (gave g n)) (span_numbers (span g k))

-- the current transfer: opened, with a number that isn't given
abbrev pub current : History → Option ℕ
current g = first (those (λ k. opened g k && not (is_empty (left_of g k))) (made g))

-- the transfers that landed and were given whole
abbrev pub delivered : History → List ℕ
delivered g = those (λ k. landed g k && is_empty (left_of g k)) (made g)

-- counts of lines
abbrev pub posts : History → ℕ
posts g = count_of (elim [ Posted l ↦ true | _ ↦ false ]) g

abbrev pub recalls : History → ℕ
recalls g = count_of (elim [ Recalled l ↦ true | _ ↦ false ]) g

abbrev pub flights : History → ℕ
flights g = count_of (elim [ Flying l k ↦ true | _ ↦ false ]) g

abbrev pub retries : History → ℕ
retries g = count_of (elim [ Retried l k n ↦ true | _ ↦ false ]) g

-- how many attempts of a transfer failed, after each of which it was tried again
abbrev pub attempts : History → ℕ → ℕ
attempts g k = count_of (elim [ Retried l j n ↦ j == k | _ ↦ false ]) g

abbrev pub failures : History → ℕ
failures g = count_of (elim [ Failed l k kind ↦ true | _ ↦ false ]) g

-- the cut lines of transfers that flew when the line was written
abbrev pub flight_cuts : History → ℕ
flight_cuts [] = 0
flight_cuts ((Cut l k c, bytes) ∷ g) = more_if (flies g k) (flight_cuts g)
flight_cuts (e ∷ g) = flight_cuts g

-- the transfers that are over: landed, failed or cut
abbrev pub ends : History → ℕ
ends g = count_of (elim [ Landed l k ↦ true | Failed l k kind ↦ true | Cut l k c ↦ true | _ ↦ false ]) g

abbrev pub returned : History → ℕ
returned g = count_of (elim [ TxHome l k ↦ true | _ ↦ false ]) g

-- the receive requests that are posted
abbrev pub posted : History → ℕ
posted g = posts g - (recalls g + flights g)

-- whether the endpoint is halted
abbrev pub halted : History → Bool
halted [] = false
halted ((Failed l k Halt, bytes) ∷ g) = true
halted ((Cleared l, bytes) ∷ g) = false
halted ((Settled t1 r1 t2 r2, bytes) ∷ g) = false
halted (e ∷ g) = halted g

-- the built numbers, and whether the last accepted datagram came after the last transfer
abbrev pub built : History → ℕ
built g = taken g - cover g

abbrev pub took_last : History → Bool
took_last [] = false
took_last ((Took l s, bytes) ∷ g) = true
took_last ((Made l k a b, bytes) ∷ g) = false
took_last (e ∷ g) = took_last g

-- the waited lines after the took line with this index
abbrev pub waited_after : History → ℕ → ℕ
waited_after [] m = 0
waited_after ((Waited l, bytes) ∷ g) m = waited_after g m + 1
waited_after ((Took l s, bytes) ∷ g) m = if taken g == m then 0 else waited_after g m
waited_after (e ∷ g) m = waited_after g m

-- PLACES

-- where datagram n stands: five conditions, stated apart
abbrev pub in_builder : History → ℕ → Bool
in_builder g n = not (is_some (serial_of g n)) && not (dropped g n)

abbrev pub for_serial : (ℕ → Bool) → Option ℕ → Bool
for_serial test None = false
for_serial test (Some k) = test k

abbrev pub in_list : History → ℕ → Bool
in_list g n = for_serial (λ k. waits g k || (landed g k && not (gave g n))) (serial_of g n)

abbrev pub in_transfer : History → ℕ → Bool
in_transfer g n = for_serial (flies g) (serial_of g n)

abbrev pub at_peer : History → ℕ → Bool
at_peer g n = gave g n

abbrev pub is_lost : History → ℕ → Bool
is_lost g n = for_serial (λ k. failed g k || was_cut g k) (serial_of g n) || dropped g n
