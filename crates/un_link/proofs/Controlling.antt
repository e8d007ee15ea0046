-- A link after a control.
use Rattle.std.proofs.Common.{◌≡◌, ℕ, zero, suc, ◌+◌, ◌<◌, ◌≤◌, ◌^◌, Bool, false, ◌&&◌, ◌||◌, List, [], ◌∷◌, ◌++◌, length, map, reverse, Option, Some, None, slice_get, refl, sym, ap, ◌∙◌, subst, arith, append-nil, if◌then◌else◌}
use Rattle.std.proofs.lemmas.List.{length-map}
use Rattle.un_frame.specs.declared.params.Lane.{Lane}
use Rattle.un_frame.specs.declared.params.Lane.TheVariants.{Outward, Inward}
use Rattle.un_frame.specs.declared.kinds.Phase.{Phase}
use Rattle.un_endpoint.specs.declared.record.FlightRecord.{FlightRecord}
use Rattle.un_endpoint.specs.Bus.{flying_serial}
use Rattle.un_journal.specs.declared.lines.Line.{Line}
use Rattle.un_journal.specs.declared.actions.Answer.{Answer}
use Rattle.un_journal.specs.declared.controls.Control.{Control as Order}
use Rattle.un_journal.specs.declared.controls.Due.{Due}
use Rattle.un_journal.specs.Script.{Script}
use Rattle.un_journal.specs.History.{Entry, History, past, taken, consumed, flying, posted}
use Rattle.un_journal.specs.Log.{Log}
use Rattle.un_journal.specs.Lookup.{phase_of, phase_after, after_order, after_control, controls_done, is_stopping, is_leaving, queued, unmarked}
use Rattle.un_journal.specs.LaneSteps.{Outcome, Writes, Answers, lines_in, answer_in, bare}
use Rattle.un_journal.specs.Step.{control, control_head, control_now, control_forced, order_lines, marked_each, recalled_each, hinders, is_due, quiet}
use Rattle.un_journal.specs.Sound.{IsSound}
use Rattle.un_journal.specs.Fits.{Controls}
use Rattle.un_journal.proofs.ForLink.{onto, newest, onto_append, past_onto, phase_kept, controls_kept, onto_marked, onto_recalled, onto_stop, order_part, order_filter, order_still, stop_part}
use Rattle.un_lane.specs.Way.{Way, HasRoom, Adds}
use Rattle.un_lane.specs.Stands.{serial_of, flight_serial}
use Rattle.un_lane.proofs.Adding.{adds_more, room_rest}
use Rattle.un_lane.proofs.Lookups.{queued_is}
use Rattle.un_link.specs.Keeps.{Keeps}
use Rattle.un_link.specs.Link.{Link, Holds, Steps, lane_flights}
use Rattle.un_link.specs.Orders.{KeepBoth, Obeys}
use Rattle.un_link.proofs.Flying.{flight_kept}
use Rattle.un_script.proofs.CursorLemmas.{read_same}
use Rattle.un_link.proofs.Holding.{act_room, act_logged}
use Rattle.un_link.proofs.Offers.{pushed}
use Rattle.un_link.proofs.Unchanged.{always}

-- WHAT ANSWERS

-- a call that only answers leaves the link
pub same_steps : (link : Link) (outcome : Outcome) (answer : Answer) → outcome ≡ Answers answer → Steps link link outcome answer
same_steps link outcome answer e = subst (λ o. Steps link link o answer) (sym e) (record { script_is = refl; history_is = sym (append-nil link.log.history); answers = refl; flights_are = refl; unchanged = always answer (link ≡ link) refl })

pub not_due_is : (script : Script) (h : History) (due : Due) (force : Bool) → slice_get script.controls (controls_done (reverse h)) ≡ Some due → (is_stopping (phase_of script h) || is_leaving (phase_of script h)) ≡ false
    → is_due script h due ≡ false → (force && quiet script h) ≡ false → control script h force ≡ Answers (Answer.NotDue (taken (past due.lane h)) due.want)
not_due_is script h due force e p d q =
    ap (control_head script h force) e
    ∙ (ap (λ b. if b then Answers (Answer.Down (phase_of script h)) else (if is_due script h due then control_now script h due false else control_forced script h due (force && quiet script h))) p
    ∙ (ap (λ b. if b then control_now script h due false else control_forced script h due (force && quiet script h)) d ∙ ap (control_forced script h due) q))

pub not_forced : (a b : Bool) → a ≡ false → (a && b) ≡ false
not_forced a b e = ap (λ i. i && b) e

pub not_due_steps : (link : Link) (due : Due) (force : Bool) (have : ℕ) → Holds link → slice_get link.script.controls link.next_control ≡ Some due → (is_stopping link.phase || is_leaving link.phase) ≡ false
    → is_due link.script link.log.history due ≡ false → (force && quiet link.script link.log.history) ≡ false → have ≡ taken (past due.lane link.log.history)
    → Steps link link (control link.script link.log.history force) (Answer.NotDue have due.want)
not_due_steps link due force have k e p d q n =
    same_steps link (control link.script link.log.history force) (Answer.NotDue have due.want)
    (not_due_is link.script link.log.history due force (subst (λ i. slice_get link.script.controls i ≡ Some due) k.next_control_is e) (subst (λ i. (is_stopping i || is_leaving i) ≡ false) k.phase_is p) d q
    ∙ ap (λ i. Answers (Answer.NotDue i due.want)) (sym n))

-- WHAT HINDERS A SUSPEND

pub one_flight : (f : Option FlightRecord) (k : ℕ) → flying_serial f ≡ Some k → 1 ≡ length (flight_serial f)
one_flight None k e = cc
one_flight (Some f) k e = refl

pub no_flights : (f : Option FlightRecord) → flying_serial f ≡ None → 0 ≡ length (flight_serial f)
no_flights None e = refl
no_flights (Some f) e = cc

pub in_flight_is : (link : Link) (n out inward : ℕ) → Holds link → n ≡ length link.out.bus.queue → out ≡ length (flight_serial link.out.bus.flight) → inward ≡ length (flight_serial link.inward.bus.flight)
    → n + out + inward ≡ hinders Order.Suspend link.phase (past Outward link.log.history) (past Inward link.log.history)
in_flight_is link n out inward k en eo ei =
    let q : length (queued link.phase Outward (past Outward link.log.history)) ≡ length link.out.bus.queue =
    ap length (subst (λ i. queued link.phase i (past Outward link.log.history) ≡ map serial_of link.out.bus.queue) k.out_lane (queued_is link.phase link.out (past Outward link.log.history) k.out_keeps.stands k.out_keeps.agrees)) ∙ length-map link.out.bus.queue serial_of in
    let fo : length (flying (past Outward link.log.history)) ≡ length (flight_serial link.out.bus.flight) = ap length k.out_keeps.stands.queues.fly in
    let fi : length (flying (past Inward link.log.history)) ≡ length (flight_serial link.inward.bus.flight) = ap length k.in_keeps.stands.queues.fly in
    omega arith

-- WHAT AN ORDER LEAVES

order_reads : (order : Order) (l : Lane) (c : ℕ) (phase : Phase) (g : History) (s : ℕ) → consumed (onto (order_part order l c phase g) g) s ≡ consumed g s
order_reads Order.Suspend Outward c phase g s = refl
order_reads Order.Suspend Inward c phase g s = onto_recalled (λ i. consumed i s) Inward (λ i. refl) (posted g) g
order_reads Order.Resume l c phase g s = refl
order_reads Order.Up l c phase g s = refl
order_reads (Order.Unlink Outward) Outward c phase g s = onto_marked (λ i. consumed i s) Outward c (λ k i. refl) (unmarked phase Outward g) g
order_reads (Order.Unlink Outward) Inward c phase g s = refl
order_reads (Order.Unlink Inward) Outward c phase g s = refl
order_reads (Order.Unlink Inward) Inward c phase g s = onto_marked (λ i. consumed i s) Inward c (λ k i. refl) (unmarked phase Inward g) g
order_reads Order.Down l c phase g s = onto_stop (λ i. consumed i s) l c phase (λ k i. refl) (λ a b i. refl) g
order_reads Order.Unplug l c phase g s =
    ap (λ i. consumed i s) (onto_append (stop_part l c phase g ++ marked_each l c (unmarked phase l g)) (recalled_each l (posted g)) g ∙ ap (onto (recalled_each l (posted g))) (onto_append (stop_part l c phase g) (marked_each l c (unmarked phase l g)) g))
    ∙ (onto_recalled (λ i. consumed i s) l (λ i. refl) (posted g) (onto (marked_each l c (unmarked phase l g)) (onto (stop_part l c phase g) g))
    ∙ (onto_marked (λ i. consumed i s) l c (λ k i. refl) (unmarked phase l g) (onto (stop_part l c phase g) g)
    ∙ onto_stop (λ i. consumed i s) l c phase (λ k i. refl) (λ a b i. refl) g))

-- THE WHOLE CONTROL

now_step : (script : Script) (h : History) (due : Due) (forced : Bool) (phase : Phase) (cause : ℕ) → phase ≡ phase_of script h → cause ≡ controls_done (reverse h) → hinders due.control phase (past Outward h) (past Inward h) ≡ 0
    → control_now script h due forced ≡ Writes (bare (Line.Control cause forced) ∷ order_lines due.control cause phase (past Outward h) (past Inward h))
now_step script h due forced phase cause p c z =
    let z' : hinders due.control (phase_of script h) (past Outward h) (past Inward h) ≡ 0 = subst (λ i. hinders due.control i (past Outward h) (past Inward h) ≡ 0) p z in
    rw (p, c, z') refl

did_past : (lane : Lane) (h : History) (cause : ℕ) (forced : Bool) → past lane (h ++ bare (Line.Control cause forced) ∷ []) ≡ past lane h
did_past lane h cause forced = past_onto lane h (bare (Line.Control cause forced) ∷ [])

module _ (link : Link) (k : Holds link) (due : Due) (forced : Bool) (head : slice_get link.script.controls (controls_done (reverse link.log.history)) ≡ Some due)
    (fits : control link.script link.log.history forced ≡ control_now link.script link.log.history due forced)
    (free : hinders due.control link.phase (past Outward link.log.history) (past Inward link.log.history) ≡ 0) where
  abbrev did : Entry
  did = bare (Line.Control link.next_control forced)

  abbrev lines : History
  lines = order_lines due.control link.next_control link.phase (past Outward link.log.history) (past Inward link.log.history)

  now : control_now link.script link.log.history due forced ≡ Writes (bare (Line.Control link.next_control forced) ∷ order_lines due.control link.next_control link.phase (past Outward link.log.history) (past Inward link.log.history))
  now = now_step link.script link.log.history due forced link.phase link.next_control k.phase_is k.next_control_is free

  all_lines : lines_in (control link.script link.log.history forced) ≡ did ∷ lines
  all_lines = ap lines_in (fits ∙ now)

  all_room : HasRoom link.log (did ∷ lines)
  all_room = subst (HasRoom link.log) all_lines (act_room link.script link.log (Controls forced) k.logged)

  pub did_room : 0 < link.log.spare_lines
  did_room = let l : suc (length lines) ≤ link.log.spare_lines = all_room.lines_fit in omega arith

  module _ (log1 : Log) (history_is : log1.history ≡ link.log.history ++ bare (Line.Control link.next_control forced) ∷ []) (lines_left : log1.spare_lines + 1 ≡ link.log.spare_lines) (bytes_left : log1.spare_bytes + 0 ≡ link.log.spare_bytes) where
    did_added : Adds link.log log1 (did ∷ [])
    did_added = pushed link.log log1 (Line.Control link.next_control forced) history_is lines_left bytes_left

    same_past : (lane : Lane) → past lane log1.history ≡ past lane link.log.history
    same_past lane = ap (past lane) history_is ∙ did_past lane link.log.history link.next_control forced

    same_lines : order_lines due.control link.next_control link.phase (past Outward log1.history) (past Inward log1.history) ≡ lines
    same_lines = ap (λ g. order_lines due.control link.next_control link.phase g (past Inward log1.history)) (same_past Outward) ∙ ap (order_lines due.control link.next_control link.phase (past Outward link.log.history)) (same_past Inward)

    pub did_keep : KeepBoth link.script link.phase link.out link.inward log1
    did_keep = record {
      out_lane = k.out_lane;
      in_lane = k.in_lane;
      out_keeps = subst (Keeps link.script link.phase link.out) (sym (same_past Outward)) k.out_keeps;
      in_keeps = subst (Keeps link.script link.phase link.inward) (sym (same_past Inward)) k.in_keeps;
    }

    pub order_room : HasRoom log1 (order_lines due.control link.next_control link.phase (past Outward log1.history) (past Inward log1.history))
    order_room = subst (HasRoom log1) (sym same_lines) (room_rest link.log log1 (did ∷ []) lines all_room did_added)

    pub order_free : hinders due.control link.phase (past Outward log1.history) (past Inward log1.history) ≡ 0
    order_free = subst (λ g. hinders due.control link.phase g (past Inward log1.history) ≡ 0) (sym (same_past Outward)) (subst (λ g. hinders due.control link.phase (past Outward link.log.history) g ≡ 0) (sym (same_past Inward)) free)

    module _ (log2 : Log) (out' inward' : Way) (script' : Script) (same : script' ≡ link.script) (o : Obeys link.script due.control link.next_control link.phase link.out out' link.inward inward' log1 log2) where
      added : Adds link.log log2 (did ∷ lines)
      added = adds_more link.log log1 log2 (did ∷ []) lines did_added (subst (Adds log1 log2) same_lines o.adds)

      out_past : past Outward log2.history ≡ onto (order_part due.control Outward link.next_control link.phase (past Outward link.log.history)) (past Outward link.log.history)
      out_past = ap (past Outward) added.history_is ∙ (past_onto Outward link.log.history (did ∷ lines) ∙ ap (λ ls. onto ls (past Outward link.log.history)) (order_filter due.control Outward link.next_control link.phase (past Outward link.log.history) (past Inward link.log.history)))

      in_past : past Inward log2.history ≡ onto (order_part due.control Inward link.next_control link.phase (past Inward link.log.history)) (past Inward link.log.history)
      in_past = ap (past Inward) added.history_is ∙ (past_onto Inward link.log.history (did ∷ lines) ∙ ap (λ ls. onto ls (past Inward link.log.history)) (order_filter due.control Inward link.next_control link.phase (past Outward link.log.history) (past Inward link.log.history)))

      phase_next : after_order due.control link.phase ≡ phase_of link.script log2.history
      phase_next = sym (
          ap (phase_of link.script) o.adds.history_is
          ∙ (phase_kept link.script log1.history (order_lines due.control link.next_control link.phase (past Outward log1.history) (past Inward log1.history)) (order_still due.control link.next_control link.phase (past Outward log1.history) (past Inward log1.history))
          ∙ (ap (λ h. phase_after link.script.controls (reverse h)) history_is
          ∙ (ap (phase_after link.script.controls) (newest link.log.history did)
          ∙ (ap (λ d. after_control d (phase_of link.script link.log.history)) (ap (slice_get link.script.controls) k.next_control_is ∙ head)
          ∙ ap (after_order due.control) (sym k.phase_is))))))

      done_next : link.next_control + 1 ≡ controls_done (reverse log2.history)
      done_next = sym (
          ap (λ h. controls_done (reverse h)) o.adds.history_is
          ∙ (controls_kept log1.history (order_lines due.control link.next_control link.phase (past Outward log1.history) (past Inward log1.history)) (order_still due.control link.next_control link.phase (past Outward log1.history) (past Inward log1.history))
          ∙ (ap (λ h. controls_done (reverse h)) history_is
          ∙ (ap controls_done (newest link.log.history did) ∙ ap (λ n. n + 1) (sym k.next_control_is)))))

      pub order_holds : Holds (record link { script = script'; log = log2; out = out'; inward = inward'; phase = after_order due.control link.phase; next_control = link.next_control + 1 })
      order_holds = subst (λ (x : Script). Holds (record link { script = x; log = log2; out = out'; inward = inward'; phase = after_order due.control link.phase; next_control = link.next_control + 1 })) (sym same) (record {
        logged = act_logged link.script link.log log2 (Controls forced) k.logged (subst (Adds link.log log2) (sym all_lines) added);
        out_lane = o.keep.out_lane;
        in_lane = o.keep.in_lane;
        out_keeps = o.keep.out_keeps;
        in_keeps = o.keep.in_keeps;
        out_read_is = read_same link.out_read (past Outward link.log.history) (past Outward log2.history) k.out_read_is (λ s. ap (λ g. consumed g s) out_past ∙ order_reads due.control Outward link.next_control link.phase (past Outward link.log.history) s);
        in_read_is = read_same link.in_read (past Inward link.log.history) (past Inward log2.history) k.in_read_is (λ s. ap (λ g. consumed g s) in_past ∙ order_reads due.control Inward link.next_control link.phase (past Inward link.log.history) s);
        phase_is = phase_next;
        next_control_is = done_next;
      })

      pub order_steps : Steps link (record link { script = script'; log = log2; out = out'; inward = inward'; phase = after_order due.control link.phase; next_control = link.next_control + 1 }) (control_now link.script link.log.history due forced) Answer.Did
      order_steps = record {
        script_is = same;
        history_is = added.history_is ∙ ap (λ ls. link.log.history ++ ls) (sym (ap lines_in now));
        answers = sym (ap answer_in now);
        flights_are =
            ap (λ g. lane_flights Outward g out'.bus.flight ++ lane_flights Inward (past Inward log2.history) inward'.bus.flight) out_past
            ∙ (ap (λ g. lane_flights Outward (onto (order_part due.control Outward link.next_control link.phase (past Outward link.log.history)) (past Outward link.log.history)) out'.bus.flight ++ lane_flights Inward g inward'.bus.flight) in_past
            ∙ (ap (λ fs. fs ++ lane_flights Inward (onto (order_part due.control Inward link.next_control link.phase (past Inward link.log.history)) (past Inward link.log.history)) inward'.bus.flight)
            (flight_kept Outward link.out (order_part due.control Outward link.next_control link.phase (past Outward link.log.history)) (past Outward link.log.history) out'.bus.flight k.out_keeps.stands o.out_flight (subst IsSound out_past o.keep.out_keeps.stands.sound))
            ∙ ap (λ fs. lane_flights Outward (past Outward link.log.history) link.out.bus.flight ++ fs)
            (flight_kept Inward link.inward (order_part due.control Inward link.next_control link.phase (past Inward link.log.history)) (past Inward link.log.history) inward'.bus.flight k.in_keeps.stands o.in_flight (subst IsSound in_past o.keep.in_keeps.stands.sound))));
        unchanged = tt;
      }

-- a control of the script has a number of 32 bits, and so has the next one
pub index_small : (cs : List Due) (n : ℕ) (due : Due) → slice_get cs n ≡ Some due → length cs ≤ 256 → n + 1 < 2 ^ 32
index_small cs n due e few = let b : n < length cs = go cs n e in omega arith
  where
    go : (xs : List Due) (i : ℕ) → slice_get xs i ≡ Some due → i < length xs
    go [] i q = cc
    go (x ∷ xs) zero q = omega arith
    go (x ∷ xs) (suc i) q = let r : i < length xs = go xs i q in omega arith
