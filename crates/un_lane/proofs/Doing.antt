-- What a call does, by its outcome and the lines that it wrote.
use Rattle.std.proofs.Common.{◌≡◌, refl, sym, ap, ◌∙◌, subst}
use Rattle.un_journal.specs.declared.actions.Answer.{Answer}
use Rattle.un_journal.specs.History.{History, past}
use Rattle.un_journal.specs.LaneSteps.{Outcome, Writes, Answers, lines_in, answer_in}
use Rattle.un_journal.specs.Log.{Log}
use Rattle.un_journal.proofs.ForLane.{past_own, onto, AllOf}
use Rattle.un_lane.specs.Way.{Way, Adds, lane_lines}
use Rattle.un_lane.specs.Answered.{IsUnchanged, UnlessDid}
use Rattle.un_lane.specs.Calls.{Does, Ready}
use Rattle.un_lane.specs.Stands.{Stands}
use Rattle.un_lane.proofs.Adding.{adds_none}

-- the lane's lines after these
pub lines_after : (way : Way) (log log' : Log) (lines : History) → Adds log log' lines → AllOf way.lane lines → lane_lines way log' ≡ onto lines (lane_lines way log)
lines_after way log log' lines a own = ap (past way.lane) a.history_is ∙ past_own way.lane log.history lines own

-- a path stands for its lane's lines with these on top of them
pub stands_after : (way : Way) (log log' : Log) (lines : History) → Adds log log' lines → AllOf way.lane lines → Stands way (onto lines (lane_lines way log)) → Stands way (lane_lines way log')
stands_after way log log' lines a own s = subst (Stands way) (sym (lines_after way log log' lines a own)) s

-- the lines are written
pub did : (left : Way → Way → Type 0) (outcome : Outcome) (old new : Way) (log log' : Log) (lines : History) → outcome ≡ Writes lines → Adds log log' lines → Stands new (lane_lines new log') → left old new → new.bus.flight ≡ old.bus.flight
    → Does left outcome old new log log' Answer.Did
did left outcome old new log log' lines e a s l f = record {
  lines = subst (λ o. Adds log log' (lines_in o)) (sym e) a;
  answer = ap answer_in (sym e);
  stands = s;
  leaves = l;
  flight = f;
  refused = tt;
}

pub wrote : (left : Way → Way → Type 0) (outcome : Outcome) (old new : Way) (log log' : Log) (lines : History) → outcome ≡ Writes lines → Adds log log' lines → AllOf new.lane lines
    → Stands new (onto lines (lane_lines new log)) → left old new → new.bus.flight ≡ old.bus.flight → Does left outcome old new log log' Answer.Did
wrote left outcome old new log log' lines e a own s l f = did left outcome old new log log' lines e a (stands_after new log log' lines a own s) l f

-- nothing is done
pub answered : (left : Way → Way → Type 0) (outcome : Outcome) (way : Way) (log : Log) (answer : Answer) → outcome ≡ Answers answer → Stands way (lane_lines way log) → left way way → Does left outcome way way log log answer
answered left outcome way log answer e s l = record {
  lines = subst (λ o. Adds log log (lines_in o)) (sym e) (adds_none log);
  answer = ap answer_in (sym e);
  stands = s;
  leaves = l;
  flight = refl;
  refused = same answer;
}
  where
    same : (a : Answer) → UnlessDid a (IsUnchanged way way log log)
    same Answer.Did = tt
    same a = (refl, refl)

-- THE WAY THAT A PATH IS

-- An outcome and what a call leaves are told of the path's view where the call is proved. A rewriting by the view's equation doesn't
-- reach a test of lines, so they are functions of a way here.
pub ready_at : (outcome : Way → Outcome) (way old : Way) (log : Log) → way ≡ old → Ready (lines_in (outcome old)) old log → Ready (lines_in (outcome way)) way log
ready_at outcome way old log e r = subst (λ v. Ready (lines_in (outcome v)) v log) (sym e) r

pub does_at : (left : Way → Way → Way → Type 0) (outcome : Way → Outcome) (way old new : Way) (log log' : Log) (result : Answer) → way ≡ old
    → Does (left way) (outcome way) way new log log' result → Does (left old) (outcome old) old new log log' result
does_at left outcome way old new log log' result e d = subst (λ v. Does (left v) (outcome v) v new log log' result) e d
