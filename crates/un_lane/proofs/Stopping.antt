-- One step of a stop: the first of the lines that mark and of those that recall.
use Rattle.std.proofs.Common.{◌≡◌, ℕ, zero, suc, List, [], ◌∷◌, ◌++◌, take, length, refl, ap, ◌∙◌, subst, arith, if◌then◌else◌}
use Rattle.un_frame.specs.declared.params.Lane.{Lane}
use Rattle.un_journal.specs.declared.actions.Answer.{Answer}
use Rattle.un_journal.specs.declared.lines.Line.{Line}
use Rattle.un_journal.specs.History.{History, posted}
use Rattle.un_journal.specs.LaneSteps.{Outcome, Writes, Answers, bare, lines_in, unlink_first}
use Rattle.un_journal.specs.Log.{Log}
use Rattle.un_journal.specs.Step.{marked_each, recalled_each}
use Rattle.un_lane.specs.Way.{Way, HasRoom, lane_lines}
use Rattle.un_lane.specs.Calls.{Does, Ready}
use Rattle.un_lane.specs.Controls.{Stays, WritesFirst, posted_lines, unmarked_in, unmarked_lines}
use Rattle.un_lane.specs.Phases.{Leaves}
use Rattle.un_lane.specs.Stands.{Stands}
use Rattle.un_lane.proofs.Adding.{first_room}
use Rattle.un_lane.proofs.Counting.{not_zero}
use Rattle.un_lane.proofs.Doing.{did}
use Rattle.un_lane.proofs.LinkSteps.{posted_is}

abbrev pub first_of : History → Outcome
first_of [] = Answers Answer.Nothing
first_of (line ∷ lines) = Writes (line ∷ [])

first_lines : (lines : History) → lines_in (first_of lines) ≡ take 1 lines
first_lines [] = refl
first_lines (line ∷ lines) = refl

first_is : (lane : Lane) (cause : ℕ) (g : History) (ks : List ℕ) (n : ℕ) → posted g ≡ n → unlink_first lane cause g ks ≡ first_of (marked_each lane cause ks ++ recalled_each lane n)
first_is lane cause g (k ∷ ks) n e = refl
first_is lane cause g [] zero e = rw e refl
first_is lane cause g [] (suc n) e = ap (λ b. if b then Answers Answer.Nothing else Writes (bare (Line.Recalled lane) ∷ [])) (not_zero (posted g) (omega (arith, e)))

module _ (cause : ℕ) (way : Way) (log : Log) where
  abbrev unlinks : Outcome
  unlinks = unlink_first way.lane cause (lane_lines way log) (unmarked_in way.bus)

  pub unlink_is : Stands way (lane_lines way log) → unlinks ≡ first_of (unmarked_lines cause way ++ posted_lines way)
  unlink_is w = first_is way.lane cause (lane_lines way log) (unmarked_in way.bus) (length way.bus.posted) (posted_is way (lane_lines way log) w)

  -- where nothing is left to mark
  pub recall_is : Stands way (lane_lines way log) → unmarked_lines cause way ≡ [] → unlinks ≡ first_of (posted_lines way)
  recall_is w none = unlink_is w ∙ ap (λ h. first_of (h ++ posted_lines way)) none

  pub mark_ready : Ready (lines_in unlinks) way log → Ready (take 1 (unmarked_lines cause way)) way log
  mark_ready r = record { stands = r.stands; room = first_room log (unmarked_lines cause way) (posted_lines way) (subst (HasRoom log) (ap lines_in (unlink_is r.stands) ∙ first_lines (unmarked_lines cause way ++ posted_lines way)) r.room) }

  pub recall_ready : Ready (lines_in unlinks) way log → unmarked_lines cause way ≡ [] → Ready (take 1 (posted_lines way)) way log
  recall_ready r none = record { stands = r.stands; room = subst (HasRoom log) (ap lines_in (recall_is r.stands none) ∙ first_lines (posted_lines way)) r.room }

  -- a line of the stop is written
  pub stopped : (left : Way → History) (new : Way) (log' : Log) → (m : WritesFirst left Stays way new log log') → unlinks ≡ Writes (m.line ∷ []) → Does Leaves unlinks way new log log' Answer.Did
  stopped left new log' m e = did Leaves unlinks way new log log' (m.line ∷ []) e m.adds m.stands m.kept.leaves m.kept.flight_is
