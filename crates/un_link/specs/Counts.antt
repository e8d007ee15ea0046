-- Counts of a census.
use Rattle.std.specs.Prelude.{ℕ, ◌+◌, Bool, false, ◌&&◌, ◌==◌}
use Rattle.un_frame.specs.declared.params.Lane.{Lane}
use Rattle.un_frame.specs.Lanes.{same_lane}
use Rattle.un_journal.specs.declared.lines.Line.{Line}
use Rattle.un_journal.specs.declared.lines.Line.TheVariants.{Gave}
use Rattle.un_journal.specs.declared.census.Census.{Census}

-- how often the number stands in the places of the path
abbrev pub in_path : Census → ℕ
in_path c = c.builder + c.remainder + c.deferred + c.queued + c.flying + c.arrived + c.current

-- whether a line gives a datagram
abbrev pub gives : Lane → ℕ → Line → Bool
gives lane number (Gave l m) = same_lane lane l && m == number
gives lane number line = false
