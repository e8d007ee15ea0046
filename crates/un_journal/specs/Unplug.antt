-- A link that is unplugged last, and what it leaves.
use Rattle.std.specs.Prelude.{◌≡◌, ℕ, ◌+◌, true, List, [], ◌∷◌, ◌++◌, reverse, length, Some, slice_get}
use Rattle.un_frame.specs.declared.params.Lane.{Lane}
use Rattle.un_frame.specs.declared.kinds.Phase.{Phase}
use Rattle.un_journal.specs.declared.controls.Control.{Control as Order}
use Rattle.un_journal.specs.declared.controls.Due.{Due}
use Rattle.un_journal.specs.Script.{Script}
use Rattle.un_journal.specs.History.{History, past}
use Rattle.un_journal.specs.Lookup.{phase_of, controls_done}
use Rattle.un_journal.specs.LaneSteps.{bare}
use Rattle.un_journal.specs.Step.{all_home, settled_line}
use Rattle.un_journal.specs.Done.{NoneFlies, IsSpread}

-- an unplug is the one control that isn't done, and nothing flies
pub record AwaitsUnplug (script : Script) (h : History) : Type 0 where
  pub due : Due
  pub is_next : slice_get script.controls (controls_done (reverse h)) ≡ Some due
  pub is_unplug : due.control ≡ Order.Unplug
  pub is_last : controls_done (reverse h) + 1 ≡ length script.controls
  pub none_flies : NoneFlies h

-- the last line is a settled line, with every request at home before it and after it
pub record EndsSettled (script : Script) (h : History) : Type 0 where
  pub before : History
  pub is_last : h ≡ before ++ bare (settled_line script before) ∷ []
  pub found_home : all_home script before ≡ true
  pub is_home : all_home script h ≡ true

-- the link is away for good: it settled last, with every request at home and every datagram at the peer or lost
pub record IsSettledAway (script : Script) (h : History) : Type 0 where
  pub is_away : phase_of script h ≡ Phase.Away
  pub settled : EndsSettled script h
  pub spread : (lane : Lane) → IsSpread (past lane h)

-- the first list begins the second
pub record IsPrefix (xs ys : List ℕ) : Type 0 where
  pub rest : List ℕ
  pub is_rest : ys ≡ xs ++ rest
