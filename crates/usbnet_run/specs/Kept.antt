-- What the eleven workers leave.
use Rattle.std.specs.Prelude.{◌≡◌}
use Rattle.un_journal.specs.Script.{Script}
use Rattle.un_journal.specs.History.{History}
use Rattle.un_journal.specs.Drain.{drain}
use Rattle.un_journal.specs.Done.{NoneFlies}
use Rattle.un_journal.specs.Fits.{Legal}

-- A history that run may end with: what the last drain makes of a legal history out of which nothing flies. As run is built, that is
-- the one that was kept under the turn when it is closed; no clause names it.
pub record IsKept (script : Script) (history : History) : Type 0 where
  pub kept : History
  pub is_legal : Legal script kept
  pub none_flies : NoneFlies kept
  pub is_drained : history ≡ drain script kept
