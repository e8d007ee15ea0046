-- How many lines pass a test, and how many bytes lines carry.
use Rattle.std.proofs.Common.{◌≡◌, ◌+◌, ◌≤◌, Bool, true, false, [], ◌∷◌, ◌++◌, length, arith, if◌then◌else◌, filter, reverse}
use Rattle.std.proofs.lemmas.Bool.{or_right}
use Rattle.std.proofs.lemmas.List.{length-reverse}
use Rattle.un_frame.specs.declared.params.Lane.{Lane}
use Rattle.un_journal.specs.declared.lines.Line.{Line}
use Rattle.un_journal.specs.History.{Entry, History, past, concerns, more_if, some_line, count_of, taken, made}
use Rattle.un_journal.specs.Lookup.{controls_done}
use Rattle.un_journal.specs.Bytes.{bytes_in}
use Rattle.un_journal.proofs.Lists.NewestFirst.{onto}

pub bytes_append : (xs ys : History) → bytes_in (xs ++ ys) ≡ bytes_in xs + bytes_in ys
bytes_append [] ys = omega arith
bytes_append ((line, bytes) ∷ xs) ys = let e : bytes_in (xs ++ ys) ≡ bytes_in xs + bytes_in ys = bytes_append xs ys in omega arith

pub filter_short : (p : Entry → Bool) (h : History) → length (filter p h) ≤ length h
filter_short p [] = omega arith
filter_short p (e ∷ h) = go (p e) (filter_short p h)
  where
    go : (b : Bool) → length (filter p h) ≤ length h → length (if b then (e ∷ filter p h) else filter p h) ≤ length (e ∷ h)
    go true low = omega arith
    go false low = omega arith

-- a lane's lines are no more than all
pub past_short : (lane : Lane) (h : History) → length (past lane h) ≤ length h
past_short lane h = let f : length (past lane h) ≤ length (reverse h) = filter_short (concerns lane) (reverse h) in let r : length (reverse h) ≡ length h = length-reverse h in omega arith

-- ONE TEST, WHATEVER IT IS

-- no more lines pass than there are
pub count_short : (test : Line → Bool) (g : History) → count_of test g ≤ length g
count_short test [] = omega arith
count_short test (e ∷ g) = go (test e.0) (count_short test g)
  where
    go : (b : Bool) → count_of test g ≤ length g → more_if b (count_of test g) ≤ length (e ∷ g)
    go true low = omega arith
    go false low = omega arith

-- one more line takes none away
pub count_more : (test : Line → Bool) (e : Entry) (g : History) → count_of test g ≤ count_of test (e ∷ g)
count_more test e g = go (test e.0)
  where
    go : (b : Bool) → count_of test g ≤ more_if b (count_of test g)
    go true = omega arith
    go false = omega arith

-- and one that passed is still there below more lines
pub some_onto : (test : Line → Bool) (lines g : History) → some_line test g ≡ true → some_line test (onto lines g) ≡ true
some_onto test [] g e = e
some_onto test (x ∷ lines) g e = some_onto test lines (x ∷ g) (or_right (test x.0) (some_line test g) e)

pub taken_short : (g : History) → taken g ≤ length g
taken_short g = count_short _ g

pub made_short : (g : History) → made g ≤ length g
made_short g = count_short _ g

pub controls_short : (older : History) → controls_done older ≤ length older
controls_short older = count_short _ older
