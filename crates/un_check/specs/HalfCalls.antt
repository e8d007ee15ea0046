-- Whether a lane has anything to do, by what is kept of it.
use Rattle.std.specs.Prelude.{ℕ, Bool, not, [], ◌∷◌, is_some}
use Rattle.std.specs.List.{list_all}
use Rattle.un_frame.specs.declared.params.Lane.{Lane}
use Rattle.un_frame.specs.declared.kinds.Phase.{Phase}
use Rattle.un_journal.specs.Script.{Script}
use Rattle.un_journal.specs.Step.{lane_works}
use Rattle.un_check.specs.Half.{Half}
use Rattle.un_check.specs.HalfLines.{head_of, said}

-- no step of the lane but a landing would write a line
abbrev pub is_silent : Script → Phase → Lane → ℕ → Half → Bool
is_silent script phase lane cause half = list_all (λ w. not (is_some (said script phase lane cause half w))) (lane_works lane)

-- no sender has a frame left
abbrev pub are_feeds_empty : Script → Lane → Half → Bool
are_feeds_empty script lane half = list_all (λ sender. not (is_some (head_of script lane half sender))) (0 ∷ 1 ∷ 2 ∷ 3 ∷ [])
