-- A half after its lane's work.
use Rattle.std.proofs.Common.{◌≡◌, ℕ, ◌-◌, ◌≤◌, Bool, true, List, ◌++◌, drop, reverse, Some, refl, sym, ap, ◌∙◌, subst, if◌then◌else◌}
use Rattle.un_frame.specs.declared.params.Lane.{Lane}
use Rattle.un_frame.specs.declared.params.Params.{Params}
use Rattle.un_frame.specs.declared.kinds.Phase.{Phase}
use Rattle.un_journal.specs.declared.actions.Answer.{Answer}
use Rattle.un_journal.specs.Script.{Script, Frame}
use Rattle.un_journal.specs.History.{History, past, cover}
use Rattle.un_journal.specs.Log.{Log}
use Rattle.un_journal.specs.Lookup.{phase_of, controls_done, is_asleep, is_stopping, unmarked, built_frames, datagrams}
use Rattle.un_journal.specs.LaneSteps.{Outcome, Answers, lines_in, answer_in, tick_built, deliver_next, post, unlink_first, clear_set}
use Rattle.un_journal.specs.Step.{Work, work, refill, unlink, clear_halt}
use Rattle.un_journal.specs.Sound.{IsSound}
use Rattle.un_journal.proofs.ForLink.{onto, lane_of, work_own, past_own}
use Rattle.un_lane.specs.Way.{Way, Adds, HasRoom}
use Rattle.un_lane.specs.Answered.{UnlessDid, IsUnchanged}
use Rattle.un_lane.specs.Calls.{Ready as PathReady}
use Rattle.un_lane.specs.Controls.{unmarked_in}
use Rattle.un_lane.specs.Stands.{Stands}
use Rattle.un_lane.specs.Phases.{Builds, Leaves}
use Rattle.un_lane.proofs.Adding.{adds_none}
use Rattle.un_lane.proofs.Lookups.{unmarked_is}
use Rattle.un_link.specs.declared.half.Half.{Half}
use Rattle.un_link.specs.declared.shared.Shared.{Shared}
use Rattle.un_link.specs.Keeps.{Keeps}
use Rattle.un_link.specs.Halves.{HalfKeeps, Ready, Goes, Does}
use Rattle.un_link.proofs.Frames.{is_calm, is_plain, calm_same, calm_read, plain_frames, built_after, covers_onto}
use Rattle.un_link.proofs.Unchanged.{always, unless, half_same}

-- after lines that leave what is built a path keeps what it kept
pub kept : (script : Script) (phase : Phase) (old new : Way) (h h' : History) → Keeps script phase old (past old.lane h) → Stands new (past new.lane h') → Leaves old new
    → built_frames script old.lane (past old.lane h') ≡ built_frames script old.lane (past old.lane h) → Keeps script phase new (past new.lane h')
kept script phase old new h h' k s l same = record {
  params_are = l.params_are ∙ k.params_are;
  stands = s;
  agrees = l.agrees (is_asleep phase) k.agrees;
  frames_are = l.frames_are ∙ (k.frames_are ∙ (sym same ∙ ap (λ lane. built_frames script lane (past lane h')) (sym l.lane_is)));
}

plain_calm : (w : Work) → is_plain w ≡ true → is_calm w ≡ true
plain_calm (Work.Offer lane sender) p = p
plain_calm Work.Settle p = p
plain_calm w p = refl

-- a work of one lane that writes lines never lowers what is covered
pub work_covers : (script : Script) (h h' : History) (w : Work) (lane : Lane) → lane_of w ≡ Some lane → h' ≡ h ++ lines_in (work script h w) → IsSound (past lane h') → cover (past lane h) ≤ cover (past lane h')
work_covers script h h' w lane of e sound =
    let p : past lane h' ≡ onto (lines_in (work script h w)) (past lane h) = ap (past lane) e ∙ past_own lane h (lines_in (work script h w)) (work_own script h w lane of).own in
    subst (λ g. cover (past lane h) ≤ cover g) (sym p) (covers_onto (lines_in (work script h w)) (past lane h) (subst IsSound p sound))

-- WORK THAT BUILDS NOTHING; its outcome is told in the path's own words

-- the path has what its call needs
pub plain_ready : {T R : Type 0} (w : Work) (o : Outcome) (shared : Shared) (half : Half T R) → Ready w shared half → o ≡ work shared.script shared.journal.history w → PathReady (lines_in o) half.path shared.journal
plain_ready w o shared half r same = record { stands = r.kept.keeps.stands; room = subst (λ o. HasRoom shared.journal (lines_in o)) (sym same) r.room }

pub plain_goes : {T R : Type 0} (w : Work) (o : Outcome) (shared : Shared) (half : Half T R) (way' : Way) (log' : Log)
    → lane_of w ≡ Some half.path.lane → is_plain w ≡ true → HalfKeeps shared half → o ≡ work shared.script shared.journal.history w
    → Adds shared.journal log' (lines_in o) → Stands way' (past way'.lane log'.history) → Leaves half.path way'
    → Goes w shared (record shared { journal = log' }) half (record half { path = way' })
plain_goes w o shared half way' log' of plain k same a s l =
    let adds = subst (λ o. Adds shared.journal log' (lines_in o)) same a in
    record {
      shares = refl;
      adds = adds;
      lane_is = l.lane_is;
      keeps = kept shared.script shared.phase half.path way' shared.journal.history log'.history k.keeps s l
          (subst (λ h'. built_frames shared.script half.path.lane (past half.path.lane h') ≡ built_frames shared.script half.path.lane (past half.path.lane shared.journal.history)) (sym adds.history_is)
          (plain_frames shared.script w half.path.lane _ _ plain (calm_same shared.script shared.journal.history w half.path.lane of (plain_calm w plain))));
      read_is = calm_read shared.script w half.path.lane shared.journal.history log'.history half.read of (plain_calm w plain) adds.history_is k.read_is;
    }

pub plain_does : {T R : Type 0} (w : Work) (o : Outcome) (shared : Shared) (half : Half T R) (way' : Way) (log' : Log) (answer : Answer)
    → lane_of w ≡ Some half.path.lane → is_plain w ≡ true → HalfKeeps shared half → o ≡ work shared.script shared.journal.history w
    → Adds shared.journal log' (lines_in o) → answer ≡ answer_in o → Stands way' (past way'.lane log'.history) → Leaves half.path way'
    → way'.bus.flight ≡ half.path.bus.flight → UnlessDid answer (IsUnchanged half.path way' shared.journal log')
    → Does w shared (record shared { journal = log' }) half (record half { path = way' }) answer
plain_does w o shared half way' log' answer of plain k same a e s l f u = record {
  goes = plain_goes w o shared half way' log' of plain k same a s l;
  answers = e ∙ ap answer_in same;
  flight_is = f;
  unchanged = unless answer _ _ (half_same shared half way' log') u;
}

-- work that answers alone
pub idle_does : {T R : Type 0} (w : Work) (shared : Shared) (half : Half T R) (answer : Answer) → work shared.script shared.journal.history w ≡ Answers answer → HalfKeeps shared half → Does w shared shared half half answer
idle_does w shared half answer e k = record {
  goes = record { shares = refl; adds = subst (λ (o : Outcome). Adds shared.journal shared.journal (lines_in o)) (sym e) (adds_none shared.journal); lane_is = refl; keeps = k.keeps; read_is = k.read_is };
  answers = ap answer_in (sym e);
  flight_is = refl;
  unchanged = always answer _ (refl, refl);
}

-- WHAT THE PATH'S OUTCOMES ARE

pub deliver_is : (script : Script) (phase : Phase) (way : Way) (g h : History) → Keeps script phase way g → deliver_next way.tx.params way.lane (past way.lane h) ≡ work script h (Work.Deliver way.lane)
deliver_is script phase way g h k = ap (λ (p : Params). deliver_next p way.lane (past way.lane h)) k.params_are

pub refill_is : (script : Script) (phase : Phase) (way : Way) (g h : History) → Keeps script phase way g → phase ≡ phase_of script h → phase ≡ Phase.Up → post way.tx.params way.lane (past way.lane h) ≡ work script h (Work.Refill way.lane)
refill_is script phase way g h k p up = ap (λ (p : Params). post p way.lane (past way.lane h)) k.params_are ∙ ap (λ (i : Phase). refill script i way.lane (past way.lane h)) (sym up ∙ p)

pub clear_is : (script : Script) (phase : Phase) (lane : Lane) (h : History) → phase ≡ phase_of script h → phase ≡ Phase.Up → clear_set lane (past lane h) ≡ work script h (Work.ClearHalt lane)
clear_is script phase lane h p up = ap (λ (i : Phase). clear_halt i lane (past lane h)) (sym up ∙ p)

pub unlink_is : (script : Script) (phase : Phase) (way : Way) (cause : ℕ) (h : History) → Keeps script phase way (past way.lane h) → phase ≡ phase_of script h → phase ≡ Phase.Stopping → cause ≡ controls_done (reverse h) - 1
    → unlink_first way.lane cause (past way.lane h) (unmarked_in way.bus) ≡ work script h (Work.Unlink way.lane)
unlink_is script phase way cause h k p stop c =
    ap (unlink_first way.lane cause (past way.lane h)) (sym (unmarked_is phase way (past way.lane h) k.stands k.agrees))
    ∙ (ap (λ (b : Bool). if b then unlink_first way.lane cause (past way.lane h) (unmarked phase way.lane (past way.lane h)) else Answers Answer.Nothing) (sym (ap is_stopping stop))
    ∙ (ap (λ (i : Phase). unlink i way.lane cause (past way.lane h)) p ∙ ap (λ n. unlink (phase_of script h) way.lane n (past way.lane h)) c))

-- A TICK

pub tick_is : (script : Script) (phase : Phase) (way : Way) (h : History) → Keeps script phase way (past way.lane h) → tick_built way.tx.params way.lane way.tx.builder.frames (past way.lane h) ≡ work script h (Work.Tick way.lane)
tick_is script phase way h k =
    ap (λ (p : Params). tick_built p way.lane way.tx.builder.frames (past way.lane h)) k.params_are ∙ ap (λ (fs : List Frame). tick_built script.params way.lane fs (past way.lane h)) k.frames_are

pub tick_does : {T R : Type 0} (shared : Shared) (half : Half T R) (way' : Way) (log' : Log) (answer : Answer) → HalfKeeps shared half
    → Adds shared.journal log' (lines_in (tick_built half.path.tx.params half.path.lane half.path.tx.builder.frames (past half.path.lane shared.journal.history)))
    → answer ≡ answer_in (tick_built half.path.tx.params half.path.lane half.path.tx.builder.frames (past half.path.lane shared.journal.history))
    → Stands way' (past way'.lane log'.history)
    → Builds (is_asleep shared.phase) half.path way' half.path.tx.builder.frames (past half.path.lane shared.journal.history) (past way'.lane log'.history)
    → way'.bus.flight ≡ half.path.bus.flight → UnlessDid answer (IsUnchanged half.path way' shared.journal log')
    → Does (Work.Tick half.path.lane) shared (record shared { journal = log' }) half (record half { path = way' }) answer
tick_does shared half way' log' answer k a e s l f u =
    let h : History = shared.journal.history in
    let same = tick_is shared.script shared.phase half.path h k.keeps in
    let adds = subst (λ o. Adds shared.journal log' (lines_in o)) same a in
    let own : past way'.lane log'.history ≡ past half.path.lane log'.history = ap (λ i. past i log'.history) l.lane_is in
    let low = work_covers shared.script h log'.history (Work.Tick half.path.lane) half.path.lane refl adds.history_is (subst IsSound own s.sound) in
    let frames = subst (λ h'. datagrams shared.script half.path.lane (past half.path.lane h') ≡ datagrams shared.script half.path.lane (past half.path.lane h)) (sym adds.history_is) (calm_same shared.script h (Work.Tick half.path.lane) half.path.lane refl refl).frames in
    record {
      goes = record {
        shares = refl;
        adds = adds;
        lane_is = l.lane_is;
        keeps = record {
          params_are = l.params_are ∙ k.keeps.params_are;
          stands = s;
          agrees = l.agrees;
          frames_are = l.frames_are ∙ subst (λ g'. drop (cover g' - cover (past half.path.lane h)) half.path.tx.builder.frames ≡ built_frames shared.script way'.lane g') (sym own)
              (built_after _ _ _ _ low (k.keeps.frames_are ∙ ap (drop (cover (past half.path.lane h))) (sym frames)) ∙ ap (λ i. built_frames shared.script i (past half.path.lane log'.history)) (sym l.lane_is));
        };
        read_is = calm_read shared.script (Work.Tick half.path.lane) half.path.lane h log'.history half.read refl refl adds.history_is k.read_is;
      };
      answers = e ∙ ap answer_in same;
      flight_is = f;
      unchanged = unless answer _ _ (half_same shared half way' log') u;
    }
