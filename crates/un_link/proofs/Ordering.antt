-- What the orders of controls do to two paths.
use Rattle.std.proofs.Common.{◌≡◌, ℕ, suc, ◌+◌, Bool, true, false, List, [], ◌∷◌, ◌++◌, length, map, Option, Some, None, refl, sym, ap, ◌∙◌, subst, arith, append_assoc, drop_of_length-le}
use Rattle.std.proofs.lemmas.Bool.{false≢true}
use Rattle.un_facts.proofs.Numbers.{middle_zero}
use Rattle.un_frame.specs.declared.params.Lane.{Lane}
use Rattle.un_frame.specs.declared.params.Lane.TheVariants.{Outward, Inward}
use Rattle.un_frame.specs.declared.kinds.Phase.{Phase}
use Rattle.un_req.specs.Request.{Buffer}
use Rattle.un_endpoint.specs.declared.record.FlightRecord.{FlightRecord}
use Rattle.un_journal.specs.declared.controls.Control.{Control as Order}
use Rattle.un_journal.specs.Script.{Script}
use Rattle.un_journal.specs.History.{History, past, taken, cover, flying, posted}
use Rattle.un_journal.specs.Log.{Log}
use Rattle.un_journal.specs.Lookup.{is_asleep, datagrams, built_frames, deferred, queued, unmarked}
use Rattle.un_journal.specs.Step.{order_lines, hinders, marked_each, cut_each, recalled_each, dropped_built}
use Rattle.un_journal.proofs.ForLink.{onto, count_datagrams, onto_marked, onto_recalled}
use Rattle.un_lane.specs.Way.{Way, HasRoom, Adds}
use Rattle.un_lane.specs.Phases.{Agrees, IsDropped, Leaves, defers}
use Rattle.un_lane.specs.Controls.{Stays, unmarked_in, unmarked_lines, deferred_lines, posted_lines, dropped_lines, resumed}
use Rattle.un_lane.specs.Stands.{Stands, serial_of, flight_serial}
use Rattle.un_lane.proofs.Adding.{adds_none, adds_more, room_front, room_rest}
use Rattle.un_lane.proofs.Lookups.{queued_is}
use Rattle.un_lane.proofs.LinkSteps.{marks_are, cuts_are, recalls_are, agrees_inward, agrees_resumed, agrees_awake}
use Rattle.un_link.specs.Keeps.{Keeps}
use Rattle.un_link.specs.Orders.{AreBoth, KeepBoth, DoBoth, Obeys}
use Rattle.un_link.proofs.BothLanes.{own_lines, in_same, out_same, unmarked_own, posted_own, posted_same}

pub both_of : (script : Script) (phase : Phase) (out inward : Way) (log : Log) → KeepBoth script phase out inward log → AreBoth out inward log
both_of script phase out inward log k = record { out_lane = k.out_lane; in_lane = k.in_lane; out_stands = k.out_keeps.stands; in_stands = k.in_keeps.stands }

-- WHAT A PATH KEEPS

-- in another phase that it agrees with
pub rephased : (script : Script) (phase phase' : Phase) (way : Way) (g : History) → Keeps script phase way g → Agrees (is_asleep phase') way → Keeps script phase' way g
rephased script phase phase' way g k a = record { params_are = k.params_are; stands = k.stands; agrees = a; frames_are = k.frames_are }

-- after lines that leave its frames
moved : (script : Script) (phase : Phase) (lane : Lane) (old new : Way) (g lines g' : History) → old.lane ≡ lane → Keeps script phase old g → g' ≡ onto lines g → built_frames script old.lane (onto lines g) ≡ built_frames script old.lane g
    → Stands new g' → Leaves old new → Keeps script phase new g'
moved script phase lane old new g lines g' at k e same s l = record {
  params_are = l.params_are ∙ k.params_are;
  stands = s;
  agrees = l.agrees (is_asleep phase) k.agrees;
  frames_are = l.frames_are ∙ (k.frames_are ∙ (sym same ∙ (ap (built_frames script old.lane) (sym e) ∙ ap (λ i. built_frames script i g') (sym l.lane_is))));
}

frames_marked : (script : Script) (lane l : Lane) (c : ℕ) (ks : List ℕ) (g : History) → built_frames script lane (onto (marked_each l c ks) g) ≡ built_frames script lane g
frames_marked script lane l c ks g = onto_marked (built_frames script lane) l c (λ k i. refl) ks g

frames_recalled : (script : Script) (lane l : Lane) (n : ℕ) (g : History) → built_frames script lane (onto (recalled_each l n) g) ≡ built_frames script lane g
frames_recalled script lane l n g = onto_recalled (built_frames script lane) l (λ i. refl) n g

-- and with nothing built
pub emptied : (script : Script) (phase phase' : Phase) (old new : Way) (g g' : History) → Keeps script phase old g → new.tx.params ≡ old.tx.params → Stands new g' → new.tx.builder.frames ≡ [] → Agrees (is_asleep phase') new → Keeps script phase' new g'
emptied script phase phase' old new g g' k p s none a = record {
  params_are = p ∙ k.params_are;
  stands = s;
  agrees = a;
  frames_are =
      let n : length (datagrams script new.lane g') ≡ taken g' = count_datagrams script new.lane g' in
      let c : cover g' + length new.tx.builder.frames ≡ taken g' = s.building.covered in
      let z : length new.tx.builder.frames ≡ 0 = ap length none in
      none ∙ sym (drop_of_length-le (datagrams script new.lane g') (omega arith));
}

-- SUSPEND

no_serials : (rs : List Buffer) → length (map serial_of rs) ≡ 0 → rs ≡ []
no_serials [] e = refl
no_serials (r ∷ rs) e = absurd (let z : suc (length (map serial_of rs)) ≡ 0 = e in omega arith)

no_flight : (f : Option FlightRecord) → length (flight_serial f) ≡ 0 → f ≡ None
no_flight None e = refl
no_flight (Some f) e = absurd (let z : 1 ≡ 0 = e in omega arith)

defers_inward : (lane : Lane) (asleep : Bool) → defers lane true ≡ false → defers lane asleep ≡ false
defers_inward Outward asleep e = absurd (false≢true (sym e))
defers_inward Inward asleep e = refl

asleep_agrees : (asleep : Bool) (way : Way) → Agrees asleep way → way.bus.queue ≡ [] → way.bus.flight ≡ None → Agrees true way
asleep_agrees asleep way a q f = record { none_queued = λ e. (q, f); none_deferred = λ e. a.none_deferred (defers_inward way.lane asleep e) }

first_none : (a b c : ℕ) → a + b + c ≡ 0 → a ≡ 0
first_none a b c e = omega arith

pub suspend_room : (script : Script) (phase : Phase) (out inward : Way) (log : Log) → KeepBoth script phase out inward log → recalled_each Inward (posted (past Inward log.history)) ≡ posted_lines inward
suspend_room script phase out inward log k = ap (λ l. recalled_each l (posted (past Inward log.history))) (sym k.in_lane) ∙ recalls_are inward (past Inward log.history) k.in_keeps.stands

pub suspend_obeys : (script : Script) (phase : Phase) (cause : ℕ) (out inward inward' : Way) (log log' : Log) → KeepBoth script phase out inward log
    → hinders Order.Suspend phase (past Outward log.history) (past Inward log.history) ≡ 0
    → Adds log log' (posted_lines inward) → Stands inward' (past inward'.lane log'.history) → Leaves inward inward' → inward'.bus.flight ≡ inward.bus.flight
    → Obeys script Order.Suspend cause phase out out inward inward' log log'
suspend_obeys script phase cause out inward inward' log log' k free a s l f =
    let at : inward'.lane ≡ Inward = l.lane_is ∙ k.in_lane in
    let q = no_serials out.bus.queue (sym (ap length (subst (λ i. queued phase i (past Outward log.history) ≡ map serial_of out.bus.queue) k.out_lane (queued_is phase out (past Outward log.history) k.out_keeps.stands k.out_keeps.agrees)))
    ∙ first_none (length (queued phase Outward (past Outward log.history))) (length (flying (past Outward log.history))) (length (flying (past Inward log.history))) free) in
    let n = no_flight out.bus.flight (sym (ap length k.out_keeps.stands.queues.fly)
    ∙ middle_zero (length (queued phase Outward (past Outward log.history))) (length (flying (past Outward log.history))) (length (flying (past Inward log.history))) free) in
    record {
      adds = subst (Adds log log') (sym (suspend_room script phase out inward log k)) a;
      keep = record {
        out_lane = k.out_lane;
        in_lane = at;
        out_keeps = rephased script phase Phase.Asleep out (past Outward log'.history) (subst (Keeps script phase out) (sym (out_same inward.lane log log' (posted_lines inward) k.in_lane a (posted_own inward []))) k.out_keeps)
            (asleep_agrees (is_asleep phase) out k.out_keeps.agrees q n);
        in_keeps = rephased script phase Phase.Asleep inward' (past Inward log'.history)
            (moved script phase Inward inward inward' (past Inward log.history) (posted_lines inward) (past Inward log'.history) k.in_lane k.in_keeps
            (own_lines Inward inward.lane log log' (posted_lines inward) k.in_lane a (posted_own inward []))
            (frames_recalled script inward.lane inward.lane (length inward.bus.posted) (past Inward log.history))
            (subst (λ i. Stands inward' (past i log'.history)) at s) l)
            (agrees_inward (is_asleep phase) true inward' at (l.agrees (is_asleep phase) k.in_keeps.agrees));
      };
      out_flight = refl;
      in_flight = f;
    }

-- RESUME AND UP

resumed_keep : (script : Script) (phase : Phase) (out out' inward : Way) (log : Log) → KeepBoth script phase out inward log → out' ≡ resumed out → ((g : History) → Stands out g → Stands out' g) → KeepBoth script Phase.Up out' inward log
resumed_keep script phase out out' inward log k now s = record {
  out_lane = ap (λ (w : Way). w.lane) now ∙ k.out_lane;
  in_lane = k.in_lane;
  out_keeps = record {
    params_are = ap (λ (w : Way). w.tx.params) now ∙ k.out_keeps.params_are;
    stands = s (past Outward log.history) k.out_keeps.stands;
    agrees = subst (Agrees false) (sym now) (agrees_resumed out);
    frames_are = subst (λ (w : Way). w.tx.builder.frames ≡ built_frames script w.lane (past Outward log.history)) (sym now) k.out_keeps.frames_are;
  };
  in_keeps = rephased script phase Phase.Up inward (past Inward log.history) k.in_keeps (agrees_inward (is_asleep phase) false inward k.in_lane k.in_keeps.agrees);
}

pub resume_obeys : (script : Script) (phase : Phase) (cause : ℕ) (out out' inward : Way) (log : Log) → KeepBoth script phase out inward log → out' ≡ resumed out → ((g : History) → Stands out g → Stands out' g) → Obeys script Order.Resume cause phase out out' inward inward log log
resume_obeys script phase cause out out' inward log k now s = record { adds = adds_none log; keep = resumed_keep script phase out out' inward log k now s; out_flight = ap (λ (w : Way). w.bus.flight) now; in_flight = refl }

pub up_obeys : (script : Script) (phase : Phase) (cause : ℕ) (out out' inward : Way) (log : Log) → KeepBoth script phase out inward log → out' ≡ resumed out → ((g : History) → Stands out g → Stands out' g) → Obeys script Order.Up cause phase out out' inward inward log log
up_obeys script phase cause out out' inward log k now s = record { adds = adds_none log; keep = resumed_keep script phase out out' inward log k now s; out_flight = ap (λ (w : Way). w.bus.flight) now; in_flight = refl }

-- UNLINK

pub out_marks : (script : Script) (phase : Phase) (cause : ℕ) (out inward : Way) (log : Log) → KeepBoth script phase out inward log → marked_each Outward cause (unmarked phase Outward (past Outward log.history)) ≡ unmarked_lines cause out
out_marks script phase cause out inward log k = subst (λ l. marked_each l cause (unmarked phase l (past Outward log.history)) ≡ unmarked_lines cause out) k.out_lane (marks_are phase out (past Outward log.history) cause k.out_keeps.stands k.out_keeps.agrees)

pub in_marks : (script : Script) (phase : Phase) (cause : ℕ) (out inward : Way) (log : Log) → KeepBoth script phase out inward log → marked_each Inward cause (unmarked phase Inward (past Inward log.history)) ≡ unmarked_lines cause inward
in_marks script phase cause out inward log k = subst (λ l. marked_each l cause (unmarked phase l (past Inward log.history)) ≡ unmarked_lines cause inward) k.in_lane (marks_are phase inward (past Inward log.history) cause k.in_keeps.stands k.in_keeps.agrees)

pub unlink_out_obeys : (script : Script) (phase : Phase) (cause : ℕ) (out out' inward : Way) (log log' : Log) → KeepBoth script phase out inward log
    → Adds log log' (unmarked_lines cause out) → Stands out' (past out'.lane log'.history) → Leaves out out' → out'.bus.flight ≡ out.bus.flight
    → Obeys script (Order.Unlink Outward) cause phase out out' inward inward log log'
unlink_out_obeys script phase cause out out' inward log log' k a s l f =
    let at : out'.lane ≡ Outward = l.lane_is ∙ k.out_lane in
    record {
      adds = subst (Adds log log') (sym (out_marks script phase cause out inward log k)) a;
      keep = record {
        out_lane = at;
        in_lane = k.in_lane;
        out_keeps = moved script phase Outward out out' (past Outward log.history) (unmarked_lines cause out) (past Outward log'.history) k.out_lane k.out_keeps
            (own_lines Outward out.lane log log' (unmarked_lines cause out) k.out_lane a (unmarked_own cause out []))
            (frames_marked script out.lane out.lane cause (unmarked_in out.bus) (past Outward log.history))
            (subst (λ i. Stands out' (past i log'.history)) at s) l;
        in_keeps = subst (Keeps script phase inward) (sym (in_same out.lane log log' (unmarked_lines cause out) k.out_lane a (unmarked_own cause out []))) k.in_keeps;
      };
      out_flight = f;
      in_flight = refl;
    }

pub unlink_in_obeys : (script : Script) (phase : Phase) (cause : ℕ) (out inward inward' : Way) (log log' : Log) → KeepBoth script phase out inward log
    → Adds log log' (unmarked_lines cause inward) → Stands inward' (past inward'.lane log'.history) → Leaves inward inward' → inward'.bus.flight ≡ inward.bus.flight
    → Obeys script (Order.Unlink Inward) cause phase out out inward inward' log log'
unlink_in_obeys script phase cause out inward inward' log log' k a s l f =
    let at : inward'.lane ≡ Inward = l.lane_is ∙ k.in_lane in
    record {
      adds = subst (Adds log log') (sym (in_marks script phase cause out inward log k)) a;
      keep = record {
        out_lane = k.out_lane;
        in_lane = at;
        out_keeps = subst (Keeps script phase out) (sym (out_same inward.lane log log' (unmarked_lines cause inward) k.in_lane a (unmarked_own cause inward []))) k.out_keeps;
        in_keeps = moved script phase Inward inward inward' (past Inward log.history) (unmarked_lines cause inward) (past Inward log'.history) k.in_lane k.in_keeps
            (own_lines Inward inward.lane log log' (unmarked_lines cause inward) k.in_lane a (unmarked_own cause inward []))
            (frames_marked script inward.lane inward.lane cause (unmarked_in inward.bus) (past Inward log.history))
            (subst (λ i. Stands inward' (past i log'.history)) at s) l;
      };
      out_flight = refl;
      in_flight = f;
    }

-- DOWN

pub stop_lines : (script : Script) (phase : Phase) (cause : ℕ) (out inward : Way) (log : Log) → KeepBoth script phase out inward log
    → order_lines Order.Down cause phase (past Outward log.history) (past Inward log.history) ≡ dropped_lines cause out (past Outward log.history) ++ dropped_lines cause inward (past Inward log.history)
stop_lines script phase cause out inward log k =
    ap (λ xs. xs ++ dropped_built Outward cause (past Outward log.history) ++ dropped_built Inward cause (past Inward log.history))
    (subst (λ l. cut_each l cause (deferred phase l (past Outward log.history)) ≡ deferred_lines cause out) k.out_lane (cuts_are phase out (past Outward log.history) cause k.out_keeps.stands k.out_keeps.agrees))
    ∙ (ap (λ l. deferred_lines cause out ++ dropped_built l cause (past Outward log.history) ++ dropped_built Inward cause (past Inward log.history)) (sym k.out_lane)
    ∙ (ap (λ l. dropped_lines cause out (past Outward log.history) ++ dropped_built l cause (past Inward log.history)) (sym k.in_lane)
    ∙ ap (λ (ds : List Buffer). dropped_lines cause out (past Outward log.history) ++ (cut_each inward.lane cause (map serial_of ds) ++ dropped_built inward.lane cause (past Inward log.history))) (sym (k.in_keeps.stands.placed.no_deferred k.in_lane))))

pub down_obeys : (script : Script) (phase : Phase) (cause : ℕ) (out out' inward inward' : Way) (log log' : Log) → KeepBoth script phase out inward log
    → DoBoth IsDropped (dropped_lines cause out (past Outward log.history) ++ dropped_lines cause inward (past Inward log.history)) out out' inward inward' log log'
    → Obeys script Order.Down cause phase out out' inward inward' log log'
down_obeys script phase cause out out' inward inward' log log' k d = record {
  adds = subst (Adds log log') (sym (stop_lines script phase cause out inward log k)) d.adds;
  keep = record {
    out_lane = d.both.out_lane;
    in_lane = d.both.in_lane;
    out_keeps = emptied script phase Phase.Stopping out out' (past Outward log.history) (past Outward log'.history) k.out_keeps d.out_kept.params_are d.both.out_stands d.out_kept.none_built (agrees_awake out' d.out_kept.none_deferred);
    in_keeps = emptied script phase Phase.Stopping inward inward' (past Inward log.history) (past Inward log'.history) k.in_keeps d.in_kept.params_are d.both.in_stands d.in_kept.none_built (agrees_awake inward' d.in_kept.none_deferred);
  };
  out_flight = ap (λ b. b.flight) d.out_kept.bus_is;
  in_flight = ap (λ b. b.flight) d.in_kept.bus_is;
}

-- UNPLUG

grouped : (s a b c d s' a' b' c' d' : History) → s ≡ s' → a ≡ a' → b ≡ b' → c ≡ c' → d ≡ d' → s ++ a ++ b ++ c ++ d ≡ (s' ++ (a' ++ b')) ++ (c' ++ d')
grouped s a b c d s' a' b' c' d' es ea eb ec ed =
    ap (λ x. x ++ a ++ b ++ c ++ d) es
    ∙ (ap (λ x. s' ++ x ++ b ++ c ++ d) ea
    ∙ (ap (λ x. s' ++ a' ++ x ++ c ++ d) eb
    ∙ (ap (λ x. s' ++ a' ++ b' ++ x ++ d) ec
    ∙ (ap (λ x. s' ++ a' ++ b' ++ c' ++ x) ed
    ∙ (append_assoc (s' ++ a' ++ b') c' d' ∙ ap (λ x. x ++ (c' ++ d')) (append_assoc s' a' b'))))))

module _ (script : Script) (phase : Phase) (cause : ℕ) (out inward : Way) (log : Log) (k : KeepBoth script phase out inward log) where
  abbrev dropped_all : History
  dropped_all = dropped_lines cause out (past Outward log.history) ++ dropped_lines cause inward (past Inward log.history)

  abbrev marked_all : History
  marked_all = unmarked_lines cause out ++ unmarked_lines cause inward

  abbrev posted_all : History
  posted_all = posted_lines out ++ posted_lines inward

  pub unplug_lines : order_lines Order.Unplug cause phase (past Outward log.history) (past Inward log.history)
      ≡ ((dropped_lines cause out (past Outward log.history) ++ dropped_lines cause inward (past Inward log.history)) ++ (unmarked_lines cause out ++ unmarked_lines cause inward)) ++ (posted_lines out ++ posted_lines inward)
  unplug_lines = grouped _ _ _ _ _ _ _ _ _ _ (stop_lines script phase cause out inward log k) (out_marks script phase cause out inward log k) (in_marks script phase cause out inward log k)
      (ap (λ l. recalled_each l (posted (past Outward log.history))) (sym k.out_lane) ∙ recalls_are out (past Outward log.history) k.out_keeps.stands)
      (suspend_room script phase out inward log k)

  -- the three parts have room
  pub drop_room : HasRoom log (order_lines Order.Unplug cause phase (past Outward log.history) (past Inward log.history)) → HasRoom log (dropped_lines cause out (past Outward log.history) ++ dropped_lines cause inward (past Inward log.history))
  drop_room r = room_front log dropped_all marked_all (room_front log (dropped_all ++ marked_all) posted_all (subst (HasRoom log) unplug_lines r))

  same_marks : (out' inward' : Way) → IsDropped out out' → IsDropped inward inward' → marked_all ≡ unmarked_lines cause out' ++ unmarked_lines cause inward'
  same_marks out' inward' d d' =
      ap (λ xs. xs ++ unmarked_lines cause inward) (sym (ap (λ l. marked_each l cause (unmarked_in out'.bus)) d.lane_is ∙ ap (λ b. marked_each out.lane cause (unmarked_in b)) d.bus_is))
      ∙ ap (λ xs. unmarked_lines cause out' ++ xs) (sym (ap (λ l. marked_each l cause (unmarked_in inward'.bus)) d'.lane_is ∙ ap (λ b. marked_each inward.lane cause (unmarked_in b)) d'.bus_is))

  same_posts : (out' inward' : Way) → IsDropped out out' → IsDropped inward inward' → posted_all ≡ posted_lines out' ++ posted_lines inward'
  same_posts out' inward' d d' =
      ap (λ xs. xs ++ posted_lines inward) (sym (ap (λ l. recalled_each l (length out'.bus.posted)) d.lane_is ∙ ap (λ b. recalled_each out.lane (length b.posted)) d.bus_is))
      ∙ ap (λ xs. posted_lines out' ++ xs) (sym (ap (λ l. recalled_each l (length inward'.bus.posted)) d'.lane_is ∙ ap (λ b. recalled_each inward.lane (length b.posted)) d'.bus_is))

  module _ (out1 inward1 : Way) (log1 : Log) (d : DoBoth IsDropped (dropped_lines cause out (past Outward log.history) ++ dropped_lines cause inward (past Inward log.history)) out out1 inward inward1 log log1) where
    pub mark_room : HasRoom log (order_lines Order.Unplug cause phase (past Outward log.history) (past Inward log.history)) → HasRoom log1 (unmarked_lines cause out1 ++ unmarked_lines cause inward1)
    mark_room r = subst (HasRoom log1) (same_marks out1 inward1 d.out_kept d.in_kept)
        (room_rest log log1 dropped_all marked_all (room_front log (dropped_all ++ marked_all) posted_all (subst (HasRoom log) unplug_lines r)) d.adds)

    module _ (out2 inward2 : Way) (log2 : Log) (m : DoBoth Stays (unmarked_lines cause out1 ++ unmarked_lines cause inward1) out1 out2 inward1 inward2 log1 log2) where
      two_added : Adds log log2 (dropped_all ++ marked_all)
      two_added = adds_more log log1 log2 dropped_all marked_all d.adds (subst (Adds log1 log2) (sym (same_marks out1 inward1 d.out_kept d.in_kept)) m.adds)

      last_lines : posted_all ≡ posted_lines out2 ++ posted_lines inward2
      last_lines = same_posts out1 inward1 d.out_kept d.in_kept ∙ sym (posted_same cause out1 out2 inward1 inward2 log1 log2 d.both m)

      pub recall_room : HasRoom log (order_lines Order.Unplug cause phase (past Outward log.history) (past Inward log.history)) → HasRoom log2 (posted_lines out2 ++ posted_lines inward2)
      recall_room r = subst (HasRoom log2) last_lines (room_rest log log2 (dropped_all ++ marked_all) posted_all (subst (HasRoom log) unplug_lines r) two_added)

      pub unplug_obeys : (out3 inward3 : Way) (log3 : Log) → DoBoth Stays (posted_lines out2 ++ posted_lines inward2) out2 out3 inward2 inward3 log2 log3 → Obeys script Order.Unplug cause phase out out3 inward inward3 log log3
      unplug_obeys out3 inward3 log3 r = record {
        adds = subst (Adds log log3) (sym unplug_lines) (adds_more log log2 log3 (dropped_all ++ marked_all) posted_all two_added (subst (Adds log2 log3) (sym last_lines) r.adds));
        keep = record {
          out_lane = r.both.out_lane;
          in_lane = r.both.in_lane;
          out_keeps = emptied script phase Phase.Leaving out out3 (past Outward log.history) (past Outward log3.history) k.out_keeps
              (r.out_kept.leaves.params_are ∙ (m.out_kept.leaves.params_are ∙ d.out_kept.params_are)) r.both.out_stands
              (r.out_kept.leaves.frames_are ∙ (m.out_kept.leaves.frames_are ∙ d.out_kept.none_built))
              (r.out_kept.leaves.agrees false (m.out_kept.leaves.agrees false (agrees_awake out1 d.out_kept.none_deferred)));
          in_keeps = emptied script phase Phase.Leaving inward inward3 (past Inward log.history) (past Inward log3.history) k.in_keeps
              (r.in_kept.leaves.params_are ∙ (m.in_kept.leaves.params_are ∙ d.in_kept.params_are)) r.both.in_stands
              (r.in_kept.leaves.frames_are ∙ (m.in_kept.leaves.frames_are ∙ d.in_kept.none_built))
              (r.in_kept.leaves.agrees false (m.in_kept.leaves.agrees false (agrees_awake inward1 d.in_kept.none_deferred)));
        };
        out_flight = r.out_kept.flight_is ∙ (m.out_kept.flight_is ∙ ap (λ b. b.flight) d.out_kept.bus_is);
        in_flight = r.in_kept.flight_is ∙ (m.in_kept.flight_is ∙ ap (λ b. b.flight) d.in_kept.bus_is);
      }
