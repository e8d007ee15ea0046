-- A half after an offer.
use Rattle.std.proofs.Common.{◌≡◌, ◌≢◌, ℕ, ◌+◌, ◌-◌, ◌<◌, ◌≤◌, ◌^◌, Bool, true, false, not, is_some, ◌&&◌, ◌==◌, nat_lt, List, [], ◌∷◌, ◌++◌, length, drop, unwrap_or, Option, Some, None, refl, sym, ap, ◌∙◌, subst, arith, append-nil, if◌then◌else◌}
use Rattle.std.proofs.lemmas.List.{drop-append-le}
use Rattle.std.proofs.lemmas.Bool.{false≢true}
use Rattle.std.proofs.lemmas.Bool.Decides.{nat_tests}
use Rattle.un_frame.proofs.LaneLemmas.{same_lane-refl}
use Rattle.un_endpoint.specs.Ends.{Transmitter}
use Rattle.un_frame.specs.declared.params.Lane.{Lane}
use Rattle.un_frame.specs.declared.params.Params.{Params}
use Rattle.un_frame.specs.declared.kinds.Phase.{Phase}
use Rattle.un_frame.specs.declared.kinds.Verdict.{Verdict}
use Rattle.un_frame.specs.declared.kinds.Verdict.TheVariants.{Take}
use Rattle.un_frame.specs.Verdict.{verdict_of, is_kept_out}
use Rattle.un_endpoint.specs.EndOutcomes.{with_frame}
use Rattle.un_journal.specs.declared.lines.Line.{Line}
use Rattle.un_journal.specs.declared.lines.Line.TheVariants.{Took, Refused}
use Rattle.un_journal.specs.declared.actions.Action.{Action}
use Rattle.un_journal.specs.declared.actions.Answer.{Answer}
use Rattle.un_journal.specs.Script.{Script, Frame}
use Rattle.un_journal.specs.History.{History, past, taken, cover, consumed, more_if}
use Rattle.un_journal.specs.Log.{Log}
use Rattle.un_frame.specs.Cut.{closed_span}
use Rattle.un_journal.specs.Lookup.{tx_home, offer_needs_home, is_asleep, works, phase_of, built_frames, datagrams, feed_head}
use Rattle.un_journal.specs.LaneSteps.{Outcome, Writes, Answers, lines_in, answer_in, bare, accept, made_lines}
use Rattle.un_journal.specs.Step.{Work, work, judge, offer_head, is_still, step_of}
use Rattle.un_journal.specs.Sound.{IsSound}
use Rattle.un_journal.proofs.ForLink.{count_datagrams, past_short, work_own, past_own, onto, own_past}
use Rattle.un_lane.specs.Way.{Way, HasRoom, Adds}
use Rattle.un_lane.specs.Answered.{UnlessDid, IsUnchanged}
use Rattle.un_lane.specs.Stands.{Stands}
use Rattle.un_lane.specs.Phases.{Builds, offered}
use Rattle.un_script.specs.declared.cursors.Cursors.{Cursors}
use Rattle.un_link.specs.declared.half.Half.{Half}
use Rattle.un_link.specs.declared.shared.Shared.{Shared}
use Rattle.un_script.specs.Cursors.{AreRead, advanced, cursor_at}
use Rattle.un_script.proofs.CursorLemmas.{advanced_read, cursor_low}
use Rattle.un_link.specs.Keeps.{Keeps}
use Rattle.un_link.specs.Halves.{HalfKeeps, Does}
use Rattle.un_link.proofs.Frames.{built_after}
use Rattle.un_link.proofs.Unchanged.{both, half_unread}
use Rattle.un_link.proofs.Working.{work_covers}

-- no cursor is near its type's end
pub cursor_small : (c : Cursors) (lane : Lane) (log : Log) (lines : History) (s : ℕ) → AreRead c (past lane log.history) → HasRoom log lines → cursor_at c s + 1 < 2 ^ 64
cursor_small c lane log lines s r room =
    let a : cursor_at c s ≤ length (past lane log.history) = cursor_low c (past lane log.history) s r in
    let b : length (past lane log.history) ≤ length log.history = past_short lane log.history in
    let f : length log.history + length lines < 2 ^ 63 = room.counts_fit in
    omega arith

-- AN OFFER THAT IS TAKEN

-- the frames with the new one are the built ones after the took line
pub took_frames : (script : Script) (way : Way) (g : History) (sender : ℕ) (frame : Frame) → Stands way g → way.tx.builder.frames ≡ built_frames script way.lane g
    → feed_head script way.lane g sender ≡ Some frame
    → with_frame way.tx frame ≡ built_frames script way.lane (bare (Took way.lane sender) ∷ g)
took_frames script way g sender frame w e head =
    let c : cover g + length way.tx.builder.frames ≡ taken g = w.building.covered in
    let n : length (datagrams script way.lane g) ≡ taken g = count_datagrams script way.lane g in
    let low : cover g ≤ length (datagrams script way.lane g) = omega arith in
    ap (λ fs. fs ++ frame ∷ []) e
    ∙ (sym (drop-append-le (cover g) (datagrams script way.lane g) (frame ∷ []) low)
    ∙ ap (λ f. drop (cover g) (datagrams script way.lane g ++ f ∷ [])) (sym (ap (λ o. unwrap_or o []) head)))

-- what an offer does in a phase that takes frames
pub offer_is : (script : Script) (h : History) (lane : Lane) (sender : ℕ) (frame : Frame) (verdict : Verdict) → works (phase_of script h) ≡ true → feed_head script lane (past lane h) sender ≡ Some frame
    → verdict_of script.params lane frame ≡ verdict → work script h (Work.Offer lane sender) ≡ judge script lane sender (past lane h) verdict
offer_is script h lane sender frame verdict w head v = ap (offer_head script (phase_of script h) lane sender (past lane h)) head ∙ (go (works (phase_of script h)) w ∙ ap (judge script lane sender (past lane h)) v)
  where
    go : (b : Bool) → b ≡ true → (if b then judge script lane sender (past lane h) (verdict_of script.params lane frame) else Answers (Answer.Down (phase_of script h))) ≡ judge script lane sender (past lane h) (verdict_of script.params lane frame)
    go true e = refl
    go false e = absurd (cc)

-- the outcome in the path's own words
pub accept_is : (script : Script) (phase : Phase) (way : Way) (h : History) (sender : ℕ) (frame : Frame) → Keeps script phase way (past way.lane h) → phase ≡ phase_of script h → works phase ≡ true
    → feed_head script way.lane (past way.lane h) sender ≡ Some frame → verdict_of script.params way.lane frame ≡ Take
    → work script h (Work.Offer way.lane sender) ≡ accept way.tx.params way.lane sender (with_frame way.tx frame) (past way.lane h)
accept_is script phase way h sender frame k p w head v =
    offer_is script h way.lane sender frame Take (ap works (sym p) ∙ w) head v
    ∙ (ap (λ fs. accept script.params way.lane sender fs (past way.lane h)) (sym (took_frames script way (past way.lane h) sender frame k.stands k.frames_are head))
    ∙ ap (λ ps. accept ps way.lane sender (with_frame way.tx frame) (past way.lane h)) (sym k.params_are))

-- an offer that is to be taken is busy, or writes a took line and perhaps a made line
data Accepts (params : Params) (lane : Lane) (sender : ℕ) (frames : List Frame) (g : History) : Outcome → Type 0 where
  busy : Accepts params lane sender frames g (Answers Answer.Busy)
  took : (closed : Option (ℕ × ℕ)) → Accepts params lane sender frames g (Writes (bare (Took lane sender) ∷ made_lines params lane frames (bare (Took lane sender) ∷ g) closed))

accepts : (params : Params) (lane : Lane) (sender : ℕ) (frames : List Frame) (g : History) → Accepts params lane sender frames g (accept params lane sender frames g)
accepts params lane sender frames g = go (offer_needs_home params lane g (closed_span params lane frames (cover g) (taken g + 1 - 1)) && tx_home params lane g == 0)
  where
    go : (b : Bool) → Accepts params lane sender frames g (if b then Answers Answer.Busy else Writes (bare (Took lane sender) ∷ made_lines params lane frames (bare (Took lane sender) ∷ g) (closed_span params lane frames (cover g) (taken g + 1 - 1))))
    go true = busy
    go false = took (closed_span params lane frames (cover g) (taken g + 1 - 1))

made_datagrams : (script : Script) (lane : Lane) (params : Params) (frames : List Frame) (g : History) (closed : Option (ℕ × ℕ)) → datagrams script lane (onto (made_lines params lane frames g closed) g) ≡ datagrams script lane g
made_datagrams script lane params frames g None = refl
made_datagrams script lane params frames g (Some s) = refl

made_consumed : (lane : Lane) (params : Params) (frames : List Frame) (g : History) (closed : Option (ℕ × ℕ)) (j : ℕ) → consumed (onto (made_lines params lane frames g closed) g) j ≡ consumed g j
made_consumed lane params frames g None j = refl
made_consumed lane params frames g (Some s) j = refl

-- what is built after an offer
accept_frames : (script : Script) (lane : Lane) (sender : ℕ) (frames frames' : List Frame) (params : Params) (g g' : History) (o : Outcome) (t : Transmitter) (frame : Frame) (answer : Answer)
    → Accepts params lane sender frames g o → g' ≡ onto (lines_in o) g → answer ≡ answer_in o → cover g ≤ cover g'
    → t.builder.frames ≡ built_frames script lane g → with_frame t frame ≡ built_frames script lane (bare (Took lane sender) ∷ g)
    → drop (cover g' - cover g) (offered t frame answer) ≡ built_frames script lane g'
accept_frames script lane sender frames frames' params g g' o t frame answer busy p e low now more =
    rw e (built_after (cover g) (cover g') t.builder.frames (datagrams script lane g') low (now ∙ ap (λ i. drop (cover g) (datagrams script lane i)) (sym p)))
accept_frames script lane sender frames frames' params g g' o t frame answer (took closed) p e low now more =
    rw e (built_after (cover g) (cover g') (with_frame t frame) (datagrams script lane g') low
    (more ∙ ap (drop (cover g)) (sym (ap (datagrams script lane) p ∙ made_datagrams script lane params frames (bare (Took lane sender) ∷ g) closed))))

-- the lane's lines after an offer that is to be taken
accept_onto : (script : Script) (phase : Phase) (old : Way) (log log' : Log) (sender : ℕ) (frame : Frame)
    → Keeps script phase old (past old.lane log.history) → phase ≡ phase_of script log.history → works phase ≡ true
    → feed_head script old.lane (past old.lane log.history) sender ≡ Some frame → verdict_of script.params old.lane frame ≡ Take
    → log'.history ≡ log.history ++ lines_in (accept old.tx.params old.lane sender (with_frame old.tx frame) (past old.lane log.history))
    → past old.lane log'.history ≡ onto (lines_in (accept old.tx.params old.lane sender (with_frame old.tx frame) (past old.lane log.history))) (past old.lane log.history)
accept_onto script phase old log log' sender frame k p w head v e =
    let o = accept_is script phase old log.history sender frame k p w head v in
    ap (past old.lane) (e ∙ ap (λ o. log.history ++ lines_in o) (sym o))
    ∙ (past_own old.lane log.history (lines_in (work script log.history (Work.Offer old.lane sender))) (work_own script log.history (Work.Offer old.lane sender) old.lane refl).own ∙ ap (λ o. onto (lines_in o) (past old.lane log.history)) o)

pub accept_does : {T R : Type 0} (shared : Shared) (half : Half T R) (way' : Way) (log' : Log) (read' : Cursors) (sender : ℕ) (frame : Frame) (answer : Answer)
    → HalfKeeps shared half → works shared.phase ≡ true
    → feed_head shared.script half.path.lane (past half.path.lane shared.journal.history) sender ≡ Some frame → verdict_of shared.script.params half.path.lane frame ≡ Take
    → Adds shared.journal log' (lines_in (accept half.path.tx.params half.path.lane sender (with_frame half.path.tx frame) (past half.path.lane shared.journal.history)))
    → answer ≡ answer_in (accept half.path.tx.params half.path.lane sender (with_frame half.path.tx frame) (past half.path.lane shared.journal.history))
    → Stands way' (past way'.lane log'.history)
    → Builds (is_asleep shared.phase) half.path way' (offered half.path.tx frame answer) (past half.path.lane shared.journal.history) (past way'.lane log'.history)
    → way'.bus.flight ≡ half.path.bus.flight → UnlessDid answer (IsUnchanged half.path way' shared.journal log')
    → AreRead read' (past half.path.lane log'.history) → UnlessDid answer (read' ≡ half.read)
    → Does (Work.Offer half.path.lane sender) shared (record shared { journal = log' }) half (record half { path = way'; read = read' }) answer
accept_does shared half way' log' read' sender frame answer k w head v a e s l f u read unread =
    let g = past half.path.lane shared.journal.history in
    let o = accept_is shared.script shared.phase half.path shared.journal.history sender frame k.keeps k.phase_is w head v in
    let adds = subst (λ o. Adds shared.journal log' (lines_in o)) (sym o) a in
    let own : past way'.lane log'.history ≡ past half.path.lane log'.history = ap (λ lane. past lane log'.history) l.lane_is in
    let sound : IsSound (past half.path.lane log'.history) = subst IsSound own s.sound in
    let low = work_covers shared.script shared.journal.history log'.history (Work.Offer half.path.lane sender) half.path.lane refl adds.history_is sound in
    let longer = accept_onto shared.script shared.phase half.path shared.journal log' sender frame k.keeps k.phase_is w head v a.history_is in
    record {
      goes = record {
        shares = refl;
        adds = adds;
        lane_is = l.lane_is;
        keeps = record {
          params_are = l.params_are ∙ k.keeps.params_are;
          stands = s;
          agrees = l.agrees;
          frames_are = l.frames_are ∙ (subst (λ g'. drop (cover g' - cover g) (offered half.path.tx frame answer) ≡ built_frames shared.script half.path.lane g') (sym own)
              (accept_frames shared.script half.path.lane sender (with_frame half.path.tx frame) [] half.path.tx.params g (past half.path.lane log'.history) _ half.path.tx frame answer
              (accepts half.path.tx.params half.path.lane sender (with_frame half.path.tx frame) g) longer e low k.keeps.frames_are (took_frames shared.script half.path g sender frame k.keeps.stands k.keeps.frames_are head))
              ∙ ap (λ lane. built_frames shared.script lane (past way'.lane log'.history)) (sym l.lane_is));
        };
        read_is = read;
      };
      answers = e ∙ ap answer_in (sym o);
      flight_is = f;
      unchanged = both answer _ _ _ (half_unread shared half way' log' read') u unread;
    }

-- the feeds after an offer that is to be taken: its sender's cursor moves where it was taken
accept_reads : (params : Params) (lane : Lane) (sender : ℕ) (frames : List Frame) (g : History) (o : Outcome) → Accepts params lane sender frames g o → answer_in o ≡ Answer.Did → (j : ℕ) → consumed (onto (lines_in o) g) j ≡ more_if (sender == j) (consumed g j)
accept_reads params lane sender frames g o busy e j = absurd (cc)
accept_reads params lane sender frames g o (took closed) e j = made_consumed lane params frames (bare (Took lane sender) ∷ g) closed j

accept_keeps : (params : Params) (lane : Lane) (sender : ℕ) (frames : List Frame) (g : History) (o : Outcome) → Accepts params lane sender frames g o → (answer_in o ≡ Answer.Did → ⊥) → lines_in o ≡ []
accept_keeps params lane sender frames g o busy n = refl
accept_keeps params lane sender frames g o (took closed) n = absurd (n refl)

pub accept_advances : (script : Script) (phase : Phase) (old : Way) (log log' : Log) (c : Cursors) (sender : ℕ) (frame : Frame) (answer : Answer)
    → Keeps script phase old (past old.lane log.history) → phase ≡ phase_of script log.history → works phase ≡ true
    → feed_head script old.lane (past old.lane log.history) sender ≡ Some frame → verdict_of script.params old.lane frame ≡ Take
    → log'.history ≡ log.history ++ lines_in (accept old.tx.params old.lane sender (with_frame old.tx frame) (past old.lane log.history))
    → answer ≡ answer_in (accept old.tx.params old.lane sender (with_frame old.tx frame) (past old.lane log.history)) → answer ≡ Answer.Did
    → AreRead c (past old.lane log.history) → AreRead (advanced sender c) (past old.lane log'.history)
accept_advances script phase old log log' c sender frame answer k p w head v e a did r =
    advanced_read c (past old.lane log.history) (past old.lane log'.history) sender r
    (λ j. ap (λ g. consumed g j) (accept_onto script phase old log log' sender frame k p w head v e)
    ∙ accept_reads old.tx.params old.lane sender (with_frame old.tx frame) (past old.lane log.history) _ (accepts old.tx.params old.lane sender (with_frame old.tx frame) (past old.lane log.history)) (sym a ∙ did) j)

pub accept_stays : (old : Way) (log log' : Log) (c : Cursors) (sender : ℕ) (frame : Frame) (answer : Answer)
    → log'.history ≡ log.history ++ lines_in (accept old.tx.params old.lane sender (with_frame old.tx frame) (past old.lane log.history))
    → answer ≡ answer_in (accept old.tx.params old.lane sender (with_frame old.tx frame) (past old.lane log.history)) → (answer ≡ Answer.Did → ⊥)
    → AreRead c (past old.lane log.history) → AreRead c (past old.lane log'.history)
accept_stays old log log' c sender frame answer e a not_did r =
    let none = accept_keeps old.tx.params old.lane sender (with_frame old.tx frame) (past old.lane log.history) _ (accepts old.tx.params old.lane sender (with_frame old.tx frame) (past old.lane log.history)) (λ d. not_did (a ∙ d)) in
    subst (λ h. AreRead c (past old.lane h)) (sym (e ∙ (ap (λ ls. log.history ++ ls) none ∙ append-nil log.history))) r

-- A FRAME THAT IS REFUSED

pub refuse_is : (script : Script) (h : History) (lane : Lane) (sender : ℕ) (frame : Frame) (why : Verdict) → works (phase_of script h) ≡ true → feed_head script lane (past lane h) sender ≡ Some frame
    → verdict_of script.params lane frame ≡ why → why ≢ Take → work script h (Work.Offer lane sender) ≡ Writes (bare (Refused lane sender why) ∷ [])
refuse_is script h lane sender frame why w head v n = offer_is script h lane sender frame why w head v ∙ go why n
  where
    go : (why : Verdict) → why ≢ Take → judge script lane sender (past lane h) why ≡ Writes (bare (Refused lane sender why) ∷ [])
    go Verdict.Take n = absurd (n refl)
    go Verdict.Short n = refl
    go Verdict.Long n = refl
    go Verdict.Filtered n = refl

-- a refused line changes nothing but the sender's feed
refused_stands : (way : Way) (lane : Lane) (sender : ℕ) (why : Verdict) (g : History) → Stands way g → Stands way (bare (Refused lane sender why) ∷ g)
refused_stands way lane sender why g w = record {
  sound = (tt, w.sound);
  placed = w.placed;
  building = w.building;
  queues = w.queues;
  tries = w.tries;
  ends = w.ends;
  counts = w.counts;
  texts = w.texts;
}

pub refuse_does : {T R : Type 0} (shared : Shared) (half : Half T R) (log' : Log) (read' : Cursors) (sender : ℕ) (frame : Frame) (why : Verdict) → HalfKeeps shared half → works shared.phase ≡ true
    → feed_head shared.script half.path.lane (past half.path.lane shared.journal.history) sender ≡ Some frame → verdict_of shared.script.params half.path.lane frame ≡ why → why ≢ Take
    → Adds shared.journal log' (bare (Refused half.path.lane sender why) ∷ []) → read' ≡ advanced sender half.read
    → Does (Work.Offer half.path.lane sender) shared (record shared { journal = log' }) half (record half { read = read' }) Answer.Did
refuse_does shared half log' read' sender frame why k w head v n a e =
    let o = refuse_is shared.script shared.journal.history half.path.lane sender frame why (ap works (sym k.phase_is) ∙ w) head v n in
    let longer : past half.path.lane log'.history ≡ bare (Refused half.path.lane sender why) ∷ past half.path.lane shared.journal.history =
    ap (past half.path.lane) a.history_is ∙ own_past shared.journal.history (bare (Refused half.path.lane sender why)) half.path.lane (same_lane-refl half.path.lane) in
    record {
      goes = record {
        shares = refl;
        adds = subst (λ o. Adds shared.journal log' (lines_in o)) (sym o) a;
        lane_is = refl;
        keeps = subst (Keeps shared.script shared.phase half.path) (sym longer) (record {
          params_are = k.keeps.params_are;
          stands = refused_stands half.path half.path.lane sender why (past half.path.lane shared.journal.history) k.keeps.stands;
          agrees = k.keeps.agrees;
          frames_are = k.keeps.frames_are;
        });
        read_is = subst (λ (c : Cursors). AreRead c (past half.path.lane log'.history)) (sym e)
            (advanced_read half.read (past half.path.lane shared.journal.history) (past half.path.lane log'.history) sender k.read_is (λ j. ap (λ g. consumed g j) longer));
      };
      answers = ap answer_in (sym o);
      flight_is = refl;
      unchanged = tt;
    }

pub pushed : (log log' : Log) (line : Line) → log'.history ≡ log.history ++ bare line ∷ [] → log'.spare_lines + 1 ≡ log.spare_lines → log'.spare_bytes + 0 ≡ log.spare_bytes → Adds log log' (bare line ∷ [])
pushed log log' line e l b = record { history_is = e; lines_left = l; bytes_left = omega (arith, b) }

-- A READING

lt_no : (n m : ℕ) → nat_lt m n ≡ false → n ≤ m
lt_no n m e = grind (arith, nat_tests)

-- a frame that is to be taken is no longer than a segment
pub taken_length : (params : Params) (lane : Lane) (frame : List ℕ) → verdict_of params lane frame ≡ Take → length frame ≤ params.segment
taken_length params lane frame v = go (nat_lt (length frame) 14) (nat_lt params.segment (length frame)) refl v
  where
    rest : Verdict
    rest = if is_kept_out params lane frame then Verdict.Filtered else Take

    go : (a b : Bool) → nat_lt params.segment (length frame) ≡ b → (if a then Verdict.Short else (if b then Verdict.Long else rest)) ≡ Take → length frame ≤ params.segment
    go true b e w = absurd (cc)
    go false true e w = absurd (cc)
    go false false e w = lt_no (length frame) params.segment e

pub taken_low : (way : Way) (params : Params) (lane : Lane) (frame : List ℕ) (size : ℕ) → way.tx.params ≡ params → length frame ≡ size → verdict_of params lane frame ≡ Take → size ≤ way.tx.params.segment
taken_low way params lane frame size same long v =
    let most = taken_length params lane frame v in
    let segment = ap (λ (p : Params). p.segment) same in
    omega (arith, most, segment, long)

-- whether the offer of a good frame would write lines
pub take_still : (script : Script) (phase : Phase) (way : Way) (h : History) (sender : ℕ) (frame : Frame) → Keeps script phase way (past way.lane h) → phase ≡ phase_of script h → works phase ≡ true
    → feed_head script way.lane (past way.lane h) sender ≡ Some frame → verdict_of script.params way.lane frame ≡ Take
    → is_still (work script h (Work.Offer way.lane sender)) ≡ is_still (accept way.tx.params way.lane sender (with_frame way.tx frame) (past way.lane h))
take_still script phase way h sender frame k p w head v = ap is_still (accept_is script phase way h sender frame k p w head v)

-- an offer writes lines where it would if the frame were taken: it is taken, or refused
pub acts_anyway : (script : Script) (phase : Phase) (way : Way) (h : History) (sender : ℕ) (frame : Frame) → Keeps script phase way (past way.lane h) → phase ≡ phase_of script h → works phase ≡ true
    → feed_head script way.lane (past way.lane h) sender ≡ Some frame
    → (verdict_of script.params way.lane frame ≡ Take → is_still (accept way.tx.params way.lane sender (with_frame way.tx frame) (past way.lane h)) ≡ false)
    → is_still (work script h (Work.Offer way.lane sender)) ≡ false
acts_anyway script phase way h sender frame k p w head can = go (verdict_of script.params way.lane frame) refl
  where
    refused : (why : Verdict) → verdict_of script.params way.lane frame ≡ why → why ≢ Take → is_still (work script h (Work.Offer way.lane sender)) ≡ false
    refused why v n = ap is_still (refuse_is script h way.lane sender frame why (ap works (sym p) ∙ w) head v n)

    go : (v : Verdict) → verdict_of script.params way.lane frame ≡ v → is_still (work script h (Work.Offer way.lane sender)) ≡ false
    go Verdict.Take v = take_still script phase way h sender frame k p w head v ∙ can v
    go Verdict.Short v = refused Verdict.Short v (λ e. absurd (cc))
    go Verdict.Long v = refused Verdict.Long v (λ e. absurd (cc))
    go Verdict.Filtered v = refused Verdict.Filtered v (λ e. absurd (cc))

-- an offer from a feed without a further frame writes nothing
pub spent_writes : (script : Script) (h : History) (lane : Lane) (s : ℕ) → not (is_some (feed_head script lane (past lane h) s)) ≡ true → step_of script h (Action.Offer lane s) ≡ []
spent_writes script h lane s none = go (feed_head script lane (past lane h) s) none
  where
    go : (o : Option Frame) → not (is_some o) ≡ true → lines_in (offer_head script (phase_of script h) lane s (past lane h) o) ≡ []
    go None e = refl
    go (Some frame) e = absurd (false≢true e)
