-- The lines of every outcome are a step that fits.
use Rattle.std.proofs.Common.{◌≡◌, ℕ, ◌-◌, ◌<◌, Bool, true, false, not, ◌&&◌, ◌||◌, ◌==◌, List, [], ◌∷◌, Option, Some, None, ◌⊎◌, inl, inr, refl, sym, ap, subst, arith, if◌then◌else◌, nat_lt, nat_le, slice_get, reverse}
use Rattle.std.proofs.lemmas.Bool.{false≢true, eqb-true, eqb-false, leb-true, leb-false, ltb-true, ltb-false, not-false}
use Rattle.un_frame.specs.declared.params.Lane.{Lane}
use Rattle.un_frame.specs.declared.params.Lane.TheVariants.{Outward, Inward}
use Rattle.un_frame.specs.declared.kinds.Phase.{Phase}
use Rattle.un_frame.specs.declared.kinds.Phase.TheVariants.{Up, Asleep, Stopping, Leaving, Down, Away}
use Rattle.un_frame.specs.declared.kinds.FaultKind.{FaultKind}
use Rattle.un_frame.specs.declared.kinds.Planned.{Planned}
use Rattle.un_frame.specs.declared.kinds.Planned.TheVariants.{Clean, Proto, Halt}
use Rattle.un_frame.specs.declared.kinds.Verdict.{Verdict}
use Rattle.un_frame.specs.declared.kinds.Verdict.TheVariants.{Take, Short, Long, Filtered}
use Rattle.un_frame.specs.Verdict.{verdict_of}
use Rattle.un_journal.specs.declared.actions.Answer.{Answer}
use Rattle.un_journal.specs.declared.controls.Due.{Due}
use Rattle.un_frame.specs.Attempts.{ArrivesAfter, RetriesAfter, FailsAfter}
use Rattle.un_journal.specs.Script.{Script, Frame, planned}
use Rattle.un_journal.specs.History.{History, past, taken, cover, built, flies, flying, posted, first, made, mark, attempts, ended, returned, halted, arrived, current, left_of}
use Rattle.un_journal.specs.Lookup.{phase_of, works, is_awake, is_asleep, is_stopping, is_leaving, pending, tx_home, rx_home, offer_needs_home, tick_needs_home, feed_head, queued, unmarked, controls_done, span_after_took}
use Rattle.un_journal.specs.LaneSteps.{Outcome, Writes, Answers, take_with, take_first, take_head, land_marked, land_planned, tx_done, rx_done_at, open_first, deliver_current, deliver_number, unlink_first, lines_in}
use Rattle.un_journal.specs.Step.{judge, offer_head, tick, land_from, refill, unlink, clear_halt, settle, all_home, control_head, control_now, made_entry, control_forced, hinders, is_due, quiet, Work, Offer, Tick, Land, TxDone, RxDone, Deliver, Refill, Unlink, ClearHalt, Settle}
use Rattle.un_journal.specs.Fits.{Act, Works, Controls, Fits, takes, refuses, waits_once, closes, begins_flight, cuts_queued, lands, tries_again, fails, cuts_flight, comes_home, opens, gives, posts_one, marks, recalls_one, clears, settles, orders, orders_forced, act_outcome, after_took}
use Rattle.un_journal.proofs.Lists.Passing.{those_first}

pub writes_same : (xs ys : History) → Writes xs ≡ Writes ys → xs ≡ ys
writes_same xs ys e = ap lines_in e

never_writes : (a : Answer) (xs : History) → Answers a ≡ Writes xs → ⊥
never_writes a xs e = cc

-- the row below, where this row answers
pass : (b : Bool) (a : Answer) (o : Outcome) (xs : History) → (if b then Answers a else o) ≡ Writes xs → (b ≡ false) × (o ≡ Writes xs)
pass true a o xs e = absurd (never_writes a xs e)
pass false a o xs e = (refl, e)

-- the last row
stop : (b : Bool) (a : Answer) (o : Outcome) (xs : History) → (if b then o else Answers a) ≡ Writes xs → (b ≡ true) × (o ≡ Writes xs)
stop true a o xs e = (refl, e)
stop false a o xs e = absurd (never_writes a xs e)

fork : (b : Bool) (ys : History) (o : Outcome) (xs : History) → (if b then Writes ys else o) ≡ Writes xs → ((b ≡ true) × (ys ≡ xs)) ⊎ ((b ≡ false) × (o ≡ Writes xs))
fork true ys o xs e = inl (refl, writes_same ys xs e)
fork false ys o xs e = inr (refl, e)

some_from : (n : ℕ) → (n == 0) ≡ false → 0 < n
some_from n e = let ne : n ≡ 0 → ⊥ = eqb-false n 0 e in omega arith

home_from : (b : Bool) (n : ℕ) → (b && (n == 0)) ≡ false → b ≡ true → 0 < n
home_from true n e t = some_from n e
home_from false n e t = absurd (false≢true t)

awake_from : (phase : Phase) → is_asleep phase ≡ false → not (works phase) ≡ false → is_awake phase ≡ true
awake_from Up a w = refl
awake_from Asleep a w = absurd (false≢true (sym a))
awake_from Stopping a w = absurd (false≢true (sym w))
awake_from Leaving a w = absurd (false≢true (sym w))
awake_from Down a w = absurd (false≢true (sym w))
awake_from Away a w = absurd (false≢true (sym w))

-- OFFER

judged : (script : Script) (h : History) (lane : Lane) (sender : ℕ) (frame : Frame) (xs : History) (v : Verdict) → works (phase_of script h) ≡ true → feed_head script lane (past lane h) sender ≡ Some frame
    → verdict_of script.params lane frame ≡ v → judge script lane sender (past lane h) v ≡ Writes xs → Fits script h (Works (Offer lane sender)) xs
judged script h lane sender frame xs Take w e v o =
    let r = pass (offer_needs_home script.params lane (past lane h) (span_after_took script lane (after_took lane sender (past lane h))) && (tx_home script.params lane (past lane h) == 0)) _ _ xs o in
    subst (Fits script h (Works (Offer lane sender))) (writes_same _ xs r.1) (takes lane sender frame w e v (home_from _ _ r.0))
judged script h lane sender frame xs Short w e v o = subst (Fits script h (Works (Offer lane sender))) (writes_same _ xs o) (refuses lane sender frame Short w e v (λ q. cc))
judged script h lane sender frame xs Long w e v o = subst (Fits script h (Works (Offer lane sender))) (writes_same _ xs o) (refuses lane sender frame Long w e v (λ q. cc))
judged script h lane sender frame xs Filtered w e v o = subst (Fits script h (Works (Offer lane sender))) (writes_same _ xs o) (refuses lane sender frame Filtered w e v (λ q. cc))

offered : (script : Script) (h : History) (lane : Lane) (sender : ℕ) (xs : History) (head : Option Frame) → feed_head script lane (past lane h) sender ≡ head
    → offer_head script (phase_of script h) lane sender (past lane h) head ≡ Writes xs → Fits script h (Works (Offer lane sender)) xs
offered script h lane sender xs None e o = absurd (never_writes _ xs o)
offered script h lane sender xs (Some frame) e o =
    let r = stop (works (phase_of script h)) _ _ xs o in judged script h lane sender frame xs (verdict_of script.params lane frame) r.0 e refl r.1

-- TICK

close : (script : Script) (h : History) (lane : Lane) (xs ys : History) → (built (past lane h) == 0) ≡ false → nat_lt 0 (pending script.params lane (past lane h)) ≡ false
    → (tick_needs_home script.params lane (past lane h) && (tx_home script.params lane (past lane h) == 0)) ≡ false → made_entry script lane (past lane h) (cover (past lane h), taken (past lane h)) ∷ [] ≡ xs → Fits script h (Works (Tick lane)) xs
close script h lane xs ys b p s e = subst (Fits script h (Works (Tick lane))) e (closes lane (some_from _ b) (let low = ltb-false 0 _ p in omega (arith, low)) (home_from _ _ s))

ticked : (script : Script) (h : History) (lane : Lane) (xs : History) → tick script lane (past lane h) ≡ Writes xs → Fits script h (Works (Tick lane)) xs
ticked script h lane xs o =
    let r = pass (built (past lane h) == 0) _ _ xs o in
    elim (fork (nat_lt 0 (pending script.params lane (past lane h))) _ _ xs r.1) [
      | inl q ↦ subst (Fits script h (Works (Tick lane))) q.1 (waits_once lane (ltb-true 0 _ q.0))
      | inr q ↦ let s = pass (tick_needs_home script.params lane (past lane h) && (tx_home script.params lane (past lane h) == 0)) _ _ xs q.1 in
          close script h lane xs xs r.0 q.0 s.0 (writes_same _ xs s.1)
    ]

-- TAKE AND LAND

taken_head : (script : Script) (h : History) (lane : Lane) (xs : History) (k : ℕ) (m : Option ℕ) → flying (past lane h) ≡ [] → first (queued (phase_of script h) lane (past lane h)) ≡ Some k → mark (past lane h) k ≡ m
    → take_head (is_asleep (phase_of script h)) lane (past lane h) k m ≡ Writes xs → Fits script h (Works (Work.Take lane)) xs
taken_head script h lane xs k (Some c) none q m o = subst (Fits script h (Works (Work.Take lane))) (writes_same _ xs o) (cuts_queued lane k c none q m)
taken_head script h lane xs k None none q m o =
    let r = pass (is_asleep (phase_of script h)) _ _ xs o in
    let s = pass (halted (past lane h)) _ _ xs r.1 in
    let t = pass (posted (past lane h) == 0) _ _ xs s.1 in
    subst (Fits script h (Works (Work.Take lane))) (writes_same _ xs t.1) (begins_flight lane k r.0 none q m s.0 (some_from _ t.0))

taken_first : (script : Script) (h : History) (lane : Lane) (xs : History) (ks : List ℕ) → flying (past lane h) ≡ [] → queued (phase_of script h) lane (past lane h) ≡ ks
    → take_first (is_asleep (phase_of script h)) lane (past lane h) ks ≡ Writes xs → Fits script h (Works (Work.Take lane)) xs
taken_first script h lane xs [] none q o = absurd (never_writes _ xs o)
taken_first script h lane xs (k ∷ ks) none q o = taken_head script h lane xs k (mark (past lane h) k) none (ap first q) refl o

taken_from : (script : Script) (h : History) (lane : Lane) (xs : History) (ks : List ℕ) → flying (past lane h) ≡ ks
    → take_with (is_asleep (phase_of script h)) lane (past lane h) (queued (phase_of script h) lane (past lane h)) ks ≡ Writes xs → Fits script h (Works (Work.Take lane)) xs
taken_from script h lane xs [] e o = taken_first script h lane xs (queued (phase_of script h) lane (past lane h)) e refl o
taken_from script h lane xs (k ∷ ks) e o = absurd (never_writes _ xs o)

landed_plan : (script : Script) (h : History) (lane : Lane) (xs : History) (k : ℕ) (p : Planned) → flies (past lane h) k ≡ true → mark (past lane h) k ≡ None → planned script lane k ≡ p
    → land_planned lane k (attempts (past lane h) k) p ≡ Writes xs → Fits script h (Works (Land lane)) xs
landed_plan script h lane xs k Clean f m p o =
    subst (Fits script h (Works (Land lane))) (writes_same _ xs o) (lands lane k f m (subst (λ i. ArrivesAfter i (attempts (past lane h) k)) (sym p) tt))
landed_plan script h lane xs k (Proto times) f m p o =
    elim (fork (nat_le times (attempts (past lane h) k)) _ _ xs o) [
      | inl q ↦ subst (Fits script h (Works (Land lane))) q.1
          (lands lane k f m (subst (λ i. ArrivesAfter i (attempts (past lane h) k)) (sym p) (leb-true times (attempts (past lane h) k) q.0)))
      | inr q ↦ elim (fork (nat_lt (attempts (past lane h) k) 3) _ _ xs q.1) [
        | inl t ↦ subst (Fits script h (Works (Land lane))) t.1
            (tries_again lane k f m (subst (λ i. RetriesAfter i (attempts (past lane h) k)) (sym p) (leb-false times (attempts (past lane h) k) q.0, ltb-true (attempts (past lane h) k) 3 t.0)))
        | inr t ↦ let u = stop (attempts (past lane h) k == 3) _ _ xs t.1 in subst (Fits script h (Works (Land lane))) (writes_same _ xs u.1)
            (fails lane k FaultKind.Proto f m (subst (λ i. FailsAfter i (attempts (past lane h) k) FaultKind.Proto) (sym p) (leb-false times (attempts (past lane h) k) q.0, eqb-true (attempts (past lane h) k) 3 u.0, refl)))
      ]
    ]
landed_plan script h lane xs k Halt f m p o =
    subst (Fits script h (Works (Land lane))) (writes_same _ xs o) (fails lane k FaultKind.Halt f m (subst (λ i. FailsAfter i (attempts (past lane h) k) FaultKind.Halt) (sym p) refl))

landed_mark : (script : Script) (h : History) (lane : Lane) (xs : History) (k : ℕ) (m : Option ℕ) → flies (past lane h) k ≡ true → mark (past lane h) k ≡ m
    → land_marked lane (planned script lane k) k (attempts (past lane h) k) m ≡ Writes xs → Fits script h (Works (Land lane)) xs
landed_mark script h lane xs k (Some c) f m o = subst (Fits script h (Works (Land lane))) (writes_same _ xs o) (cuts_flight lane k c f m)
landed_mark script h lane xs k None f m o = landed_plan script h lane xs k (planned script lane k) f m refl o

landed_from : (script : Script) (h : History) (lane : Lane) (xs : History) (ks : List ℕ) → flying (past lane h) ≡ ks → land_from script lane (past lane h) ks ≡ Writes xs → Fits script h (Works (Land lane)) xs
landed_from script h lane xs [] e o = absurd (never_writes _ xs o)
landed_from script h lane xs (k ∷ ks) e o =
    landed_mark script h lane xs k (mark (past lane h) k) (those_first (flies (past lane h)) (made (past lane h)) k (ap first e)).passes refl o

-- THE REST

homeward : (script : Script) (h : History) (lane : Lane) (xs : History) → tx_done lane (past lane h) ≡ Writes xs → Fits script h (Works (TxDone lane)) xs
homeward script h lane xs o =
    let r = stop (ended (past lane h) (returned (past lane h))) _ _ xs o in subst (Fits script h (Works (TxDone lane))) (writes_same _ xs r.1) (comes_home lane r.0)

opened_first : (script : Script) (h : History) (lane : Lane) (xs : History) (ks : List ℕ) → current (past lane h) ≡ None → arrived (past lane h) ≡ ks → open_first lane ks ≡ Writes xs → Fits script h (Works (RxDone lane)) xs
opened_first script h lane xs [] c e o = absurd (never_writes _ xs o)
opened_first script h lane xs (k ∷ ks) c e o = subst (Fits script h (Works (RxDone lane))) (writes_same _ xs o) (opens lane k c (ap first e))

opened_at : (script : Script) (h : History) (lane : Lane) (xs : History) (c : Option ℕ) → current (past lane h) ≡ c → rx_done_at lane (past lane h) c ≡ Writes xs → Fits script h (Works (RxDone lane)) xs
opened_at script h lane xs (Some k) e o = absurd (never_writes _ xs o)
opened_at script h lane xs None e o = opened_first script h lane xs (arrived (past lane h)) e refl o

gave_first : (script : Script) (h : History) (lane : Lane) (xs : History) (k : ℕ) (ns : List ℕ) → current (past lane h) ≡ Some k → left_of (past lane h) k ≡ ns → deliver_number script.params lane (past lane h) k ns ≡ Writes xs → Fits script h (Works (Deliver lane)) xs
gave_first script h lane xs k [] c e o = absurd (never_writes _ xs o)
gave_first script h lane xs k (n ∷ ns) c e o = subst (Fits script h (Works (Deliver lane))) (writes_same _ xs o) (gives lane k n c (ap first e))

gave_at : (script : Script) (h : History) (lane : Lane) (xs : History) (c : Option ℕ) → current (past lane h) ≡ c → deliver_current script.params lane (past lane h) c ≡ Writes xs → Fits script h (Works (Deliver lane)) xs
gave_at script h lane xs None e o = absurd (never_writes _ xs o)
gave_at script h lane xs (Some k) e o = gave_first script h lane xs k (left_of (past lane h) k) e refl o

refilled : (script : Script) (h : History) (lane : Lane) (xs : History) → refill script (phase_of script h) lane (past lane h) ≡ Writes xs → Fits script h (Works (Refill lane)) xs
refilled script h lane xs o =
    let r = pass (is_asleep (phase_of script h)) _ _ xs o in
    let s = pass (not (works (phase_of script h))) _ _ xs r.1 in
    let t = pass (rx_home script.params lane (past lane h) == 0) _ _ xs s.1 in
    subst (Fits script h (Works (Refill lane))) (writes_same _ xs t.1) (posts_one lane (awake_from (phase_of script h) r.0 s.0) (some_from _ t.0))

unlinked_first : (script : Script) (h : History) (lane : Lane) (xs : History) (ks : List ℕ) → is_stopping (phase_of script h) ≡ true → unmarked (phase_of script h) lane (past lane h) ≡ ks
    → unlink_first lane (controls_done (reverse h) - 1) (past lane h) ks ≡ Writes xs → Fits script h (Works (Unlink lane)) xs
unlinked_first script h lane xs (k ∷ ks) s e o = subst (Fits script h (Works (Unlink lane))) (writes_same _ xs o) (marks lane k s (ap first e))
unlinked_first script h lane xs [] s e o =
    let t = pass (posted (past lane h) == 0) _ _ xs o in subst (Fits script h (Works (Unlink lane))) (writes_same _ xs t.1) (recalls_one lane s e (some_from _ t.0))

unlinked : (script : Script) (h : History) (lane : Lane) (xs : History) → unlink (phase_of script h) lane (controls_done (reverse h) - 1) (past lane h) ≡ Writes xs → Fits script h (Works (Unlink lane)) xs
unlinked script h lane xs o = let r = stop (is_stopping (phase_of script h)) _ _ xs o in unlinked_first script h lane xs (unmarked (phase_of script h) lane (past lane h)) r.0 refl r.1

cleared : (script : Script) (h : History) (lane : Lane) (xs : History) → clear_halt (phase_of script h) lane (past lane h) ≡ Writes xs → Fits script h (Works (ClearHalt lane)) xs
cleared script h lane xs o =
    let r = pass (is_asleep (phase_of script h)) _ _ xs o in
    let s = pass (not (works (phase_of script h))) _ _ xs r.1 in
    let t = stop (halted (past lane h)) _ _ xs s.1 in
    subst (Fits script h (Works (ClearHalt lane))) (writes_same _ xs t.1) (clears lane (awake_from (phase_of script h) r.0 s.0) t.0)

settled : (script : Script) (h xs : History) → settle script h ≡ Writes xs → Fits script h (Works Settle) xs
settled script h xs o =
    let r = pass (not (is_stopping (phase_of script h) || is_leaving (phase_of script h))) _ _ xs o in
    let s = stop (all_home script h) _ _ xs r.1 in
    subst (Fits script h (Works Settle)) (writes_same _ xs s.1) (settles (not-false _ r.0) s.0)

-- CONTROLS

forced_now : (script : Script) (h xs : History) (force : Bool) (due : Due) (b : Bool) → force && quiet script h ≡ b → slice_get script.controls (controls_done (reverse h)) ≡ Some due
    → (is_stopping (phase_of script h) || is_leaving (phase_of script h)) ≡ false → is_due script h due ≡ false → control_forced script h due b ≡ Writes xs → Fits script h (Controls force) xs
forced_now script h xs force due false q e p d o = absurd (never_writes _ xs o)
forced_now script h xs true due true q e p d o =
    let r = pass (nat_lt 0 (hinders due.control (phase_of script h) (past Outward h) (past Inward h))) _ _ xs o in
    subst (Fits script h (Controls true)) (writes_same _ xs r.1) (orders_forced due e p d q (let low = ltb-false 0 (hinders due.control (phase_of script h) (past Outward h) (past Inward h)) r.0 in omega (arith, low)))
forced_now script h xs false due true q e p d o = absurd (false≢true q)

due_now : (script : Script) (h xs : History) (force : Bool) (due : Due) (d : Bool) → is_due script h due ≡ d → slice_get script.controls (controls_done (reverse h)) ≡ Some due
    → (is_stopping (phase_of script h) || is_leaving (phase_of script h)) ≡ false → (if d then control_now script h due false else control_forced script h due (force && quiet script h)) ≡ Writes xs → Fits script h (Controls force) xs
due_now script h xs force due true d e p o =
    let r = pass (nat_lt 0 (hinders due.control (phase_of script h) (past Outward h) (past Inward h))) _ _ xs o in
    subst (Fits script h (Controls force)) (writes_same _ xs r.1) (orders force due e p d (let low = ltb-false 0 (hinders due.control (phase_of script h) (past Outward h) (past Inward h)) r.0 in omega (arith, low)))
due_now script h xs force due false d e p o = forced_now script h xs force due (force && quiet script h) refl e p d o

ordered : (script : Script) (h xs : History) (force : Bool) (head : Option Due) → slice_get script.controls (controls_done (reverse h)) ≡ head → control_head script h force head ≡ Writes xs → Fits script h (Controls force) xs
ordered script h xs force None e o = absurd (never_writes _ xs o)
ordered script h xs force (Some due) e o =
    let r = pass (is_stopping (phase_of script h) || is_leaving (phase_of script h)) _ _ xs o in
    due_now script h xs force due (is_due script h due) refl e r.0 r.1

pub outcome_fits : (script : Script) (h xs : History) (act : Act) → act_outcome script h act ≡ Writes xs → Fits script h act xs
outcome_fits script h xs (Works (Offer lane sender)) o = offered script h lane sender xs (feed_head script lane (past lane h) sender) refl o
outcome_fits script h xs (Works (Tick lane)) o = ticked script h lane xs o
outcome_fits script h xs (Works (Work.Take lane)) o = taken_from script h lane xs (flying (past lane h)) refl o
outcome_fits script h xs (Works (Land lane)) o = landed_from script h lane xs (flying (past lane h)) refl o
outcome_fits script h xs (Works (TxDone lane)) o = homeward script h lane xs o
outcome_fits script h xs (Works (RxDone lane)) o = opened_at script h lane xs (current (past lane h)) refl o
outcome_fits script h xs (Works (Deliver lane)) o = gave_at script h lane xs (current (past lane h)) refl o
outcome_fits script h xs (Works (Refill lane)) o = refilled script h lane xs o
outcome_fits script h xs (Works (Unlink lane)) o = unlinked script h lane xs o
outcome_fits script h xs (Works (ClearHalt lane)) o = cleared script h lane xs o
outcome_fits script h xs (Works Settle) o = settled script h xs o
outcome_fits script h xs (Controls force) o = ordered script h xs force (slice_get script.controls (controls_done (reverse h))) refl o
