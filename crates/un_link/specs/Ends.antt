-- When a link is finished.
use Rattle.std.specs.Prelude.{Bool, ◌&&◌, ◌==◌, reverse, length}
use Rattle.un_journal.specs.Script.{Script}
use Rattle.un_journal.specs.History.{History}
use Rattle.un_journal.specs.Lookup.{controls_done}
use Rattle.un_journal.specs.Step.{quiet}

-- it is quiet, and no control is left
abbrev pub is_finished : Script → History → Bool
is_finished script h = quiet script h && controls_done (reverse h) == length script.controls
