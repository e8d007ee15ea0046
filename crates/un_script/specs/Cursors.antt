-- How far the feeds of a lane are read.
use Rattle.std.specs.Prelude.{◌≡◌, ℕ, ◌+◌, ◌==◌, if◌then◌else◌}
use Rattle.un_journal.specs.History.{History, consumed}
use Rattle.un_script.specs.declared.cursors.Cursors.{Cursors}

-- no frame of any feed is consumed
abbrev pub nothing_read : Cursors
nothing_read = record { first = 0; second = 0; third = 0; fourth = 0 }

-- how many frames of a sender's feed are consumed; there are no senders but 0 to 3
abbrev pub cursor_at : Cursors → ℕ → ℕ
cursor_at c sender =
    if sender == 0 then c.first
    else (if sender == 1 then c.second
    else (if sender == 2 then c.third
    else (if sender == 3 then c.fourth
    else 0)))

-- one frame of a sender's feed more
abbrev pub advanced : ℕ → Cursors → Cursors
advanced sender c =
    if sender == 0 then record c { first = c.first + 1 }
    else (if sender == 1 then record c { second = c.second + 1 }
    else (if sender == 2 then record c { third = c.third + 1 }
    else (if sender == 3 then record c { fourth = c.fourth + 1 }
    else c)))

-- the cursors are those that the lane's lines say
pub record AreRead (c : Cursors) (g : History) : Type 0 where
  pub first : c.first ≡ consumed g 0
  pub second : c.second ≡ consumed g 1
  pub third : c.third ≡ consumed g 2
  pub fourth : c.fourth ≡ consumed g 3
