-- A script stays ready with each part that is added.
use Rattle.std.proofs.Common.{◌≡◌, ℕ, ◌+◌, ◌<◌, ◌≤◌, Bool, true, false, ◌==◌, if◌then◌else◌, filter, List, [], ◌∷◌, ◌++◌, IsTrue, refl, subst, arith, length, length-append}
use Rattle.std.proofs.lemmas.List.Elements.{All-nil, All-push, filter-append}
use Rattle.std.proofs.lemmas.Bool.{eqb-true, and_parts}
use Rattle.std.specs.Prelude.{All}
use Rattle.std.specs.List.{AllByRecursion}
use Rattle.un_facts.proofs.Lists.{all_more}
use Rattle.un_frame.specs.declared.kinds.Planned.TheVariants.{Clean}
use Rattle.un_frame.specs.declared.params.Lane.{Lane}
use Rattle.un_frame.specs.declared.params.Lane.TheVariants.{Outward, Inward}
use Rattle.un_frame.specs.declared.params.Params.{Params}
use Rattle.un_frame.proofs.LaneLemmas.{same_lane-is}
use Rattle.un_frame.specs.Lanes.{same_lane}
use Rattle.un_frame.specs.Params.{AreInRange}
use Rattle.un_journal.specs.declared.controls.Due.{Due}
use Rattle.un_journal.specs.declared.controls.PlannedFault.{PlannedFault}
use Rattle.un_journal.specs.Script.{Script, Frame, Feeds, planned, planned_in, frames_in_all, frame_count}
use Rattle.un_script.specs.Table.{is_want, is_planned_serial, MOST_FRAMES, MOST_CONTROLS, MOST_FAULTS}
use Rattle.un_script.specs.Parts.{no_frames, HasBytes, FeedsHaveBytes, empty_script, frame_added, with_frame, may_come, state_from}
use Rattle.un_script.specs.Plan.{PlansFault}
use Rattle.un_script.proofs.Plans.{not_clean}
use Rattle.un_script.specs.Ready.{IsReady, WaitsInRange, SerialInRange, is_planned_for, faults_for}

nobody_ready : FeedsHaveBytes no_frames
nobody_ready = let none : All HasBytes [] = All-nil HasBytes in record { first = none; second = none; third = none; fourth = none }

pub empty_ready : (params : Params) → AreInRange params → IsReady (empty_script params)
unfolding state_from
empty_ready params h = record { in_range = h; outward = nobody_ready; inward = nobody_ready; few = omega arith; controls = omega arith; wants = All-nil WaitsInRange; orderly = refl; faults = omega arith; serials = All-nil SerialInRange; planned = tt; once = λ lane serial. omega arith }

pub params_ready : (script : Script) (params : Params) → IsReady script → AreInRange params → IsReady (record script { params = params })
params_ready script params h range = record { in_range = range; outward = h.outward; inward = h.inward; few = h.few; controls = h.controls; wants = h.wants; orderly = h.orderly; faults = h.faults; serials = h.serials; planned = h.planned; once = h.once }

abbrev added_by : Bool → Bool → Bool → Frame → Feeds → Feeds
added_by is_first is_second is_third frame feeds =
    if is_first then record feeds { first = feeds.first ++ frame ∷ [] }
    else (if is_second then record feeds { second = feeds.second ++ frame ∷ [] }
    else (if is_third then record feeds { third = feeds.third ++ frame ∷ [] }
    else record feeds { fourth = feeds.fourth ++ frame ∷ [] }))

feeds_by : (a b c : Bool) (frame : Frame) (feeds : Feeds) → FeedsHaveBytes feeds → HasBytes frame → FeedsHaveBytes (added_by a b c frame feeds)
feeds_by true b c frame feeds h some = record { first = All-push HasBytes feeds.first frame h.first some; second = h.second; third = h.third; fourth = h.fourth }
feeds_by false true c frame feeds h some = record { first = h.first; second = All-push HasBytes feeds.second frame h.second some; third = h.third; fourth = h.fourth }
feeds_by false false true frame feeds h some = record { first = h.first; second = h.second; third = All-push HasBytes feeds.third frame h.third some; fourth = h.fourth }
feeds_by false false false frame feeds h some = record { first = h.first; second = h.second; third = h.third; fourth = All-push HasBytes feeds.fourth frame h.fourth some }

feeds_ready : (feeds : Feeds) (sender : ℕ) (frame : Frame) → FeedsHaveBytes feeds → HasBytes frame → FeedsHaveBytes (frame_added sender frame feeds)
feeds_ready feeds sender frame h some = feeds_by (sender == 0) (sender == 1) (sender == 2) frame feeds h some

count_by : (a b c : Bool) (frame : Frame) (feeds : Feeds) → frames_in_all (added_by a b c frame feeds) ≡ frames_in_all feeds + 1
count_by true b c frame feeds = omega (arith, length-append feeds.first (frame ∷ []))
count_by false true c frame feeds = omega (arith, length-append feeds.second (frame ∷ []))
count_by false false true frame feeds = omega (arith, length-append feeds.third (frame ∷ []))
count_by false false false frame feeds = omega (arith, length-append feeds.fourth (frame ∷ []))

pub one_more : (sender : ℕ) (frame : Frame) (feeds : Feeds) → frames_in_all (frame_added sender frame feeds) ≡ frames_in_all feeds + 1
one_more sender frame feeds = count_by (sender == 0) (sender == 1) (sender == 2) frame feeds

pub frame_ready : (lane : Lane) (sender : ℕ) (frame : Frame) (script : Script) → IsReady script → HasBytes frame → frame_count script < MOST_FRAMES → IsReady (with_frame lane sender frame script)
frame_ready Outward sender frame script h some room = record { in_range = h.in_range; outward = feeds_ready script.outward sender frame h.outward some; inward = h.inward; few = omega (arith, one_more sender frame script.outward, room); controls = h.controls; wants = h.wants; orderly = h.orderly; faults = h.faults; serials = h.serials; planned = h.planned; once = h.once }
frame_ready Inward sender frame script h some room = record { in_range = h.in_range; outward = h.outward; inward = feeds_ready script.inward sender frame h.inward some; few = omega (arith, one_more sender frame script.inward, room); controls = h.controls; wants = h.wants; orderly = h.orderly; faults = h.faults; serials = h.serials; planned = h.planned; once = h.once }

pub control_ready : (script : Script) (due : Due) → IsReady script → IsTrue (is_want due.want) → length script.controls < MOST_CONTROLS → IsTrue (may_come script.controls due) → IsReady (record script { controls = script.controls ++ due ∷ [] })
control_ready script due h want room order = record { in_range = h.in_range; outward = h.outward; inward = h.inward; few = h.few; controls = omega (arith, length-append script.controls (due ∷ []), room); wants = All-push WaitsInRange script.controls due h.wants want; orderly = order; faults = h.faults; serials = h.serials; planned = h.planned; once = h.once }

-- a transfer for which nothing is planned has no fault
none_for : (faults : List PlannedFault) (lane : Lane) (serial : ℕ) → AllByRecursion PlansFault faults → planned_in faults lane serial ≡ Clean → faults_for faults lane serial ≡ 0
none_for [] lane serial all e = refl
none_for (f ∷ fs) lane serial all e = go (is_planned_for lane serial f) e (none_for fs lane serial all.1)
  where
    go : (b : Bool) → (if b then f.planned else planned_in fs lane serial) ≡ Clean → (planned_in fs lane serial ≡ Clean → faults_for fs lane serial ≡ 0)
        → length (if b then (f ∷ filter (is_planned_for lane serial) fs) else filter (is_planned_for lane serial) fs) ≡ 0
    go true found rec = absurd (not_clean f.planned all.0 found)
    go false rest rec = rec rest

-- so one more leaves it with one, and every other with what it had
once_more : (faults : List PlannedFault) (fault : PlannedFault) → AllByRecursion PlansFault faults → planned_in faults fault.lane fault.serial ≡ Clean → ((lane : Lane) (serial : ℕ) → faults_for faults lane serial ≤ 1)
    → (lane : Lane) (serial : ℕ) → faults_for (faults ++ fault ∷ []) lane serial ≤ 1
once_more faults fault all free once lane serial = rw (filter-append (is_planned_for lane serial) faults (fault ∷ []), length-append) (go (is_planned_for lane serial fault) refl)
  where
    none_here : is_planned_for lane serial fault ≡ true → faults_for faults lane serial ≡ 0
    none_here e =
        let parts = and_parts (same_lane fault.lane lane) (fault.serial == serial) e in
        none_for faults lane serial all (subst (λ l. planned_in faults l serial ≡ Clean) (same_lane-is fault.lane lane parts.0) (subst (λ k. planned_in faults fault.lane k ≡ Clean) (eqb-true fault.serial serial parts.1) free))

    go : (b : Bool) → is_planned_for lane serial fault ≡ b → faults_for faults lane serial + length (if b then fault ∷ [] else []) ≤ 1
    go true e = let z : faults_for faults lane serial ≡ 0 = none_here e in omega arith
    go false e = let w : faults_for faults lane serial ≤ 1 = once lane serial in omega arith

pub fault_ready : (script : Script) (fault : PlannedFault) → IsReady script → IsTrue (is_planned_serial fault.serial) → PlansFault fault → length script.faults < MOST_FAULTS → planned script fault.lane fault.serial ≡ Clean
    → IsReady (record script { faults = script.faults ++ fault ∷ [] })
fault_ready script fault h serial is_one room free = record {
  in_range = h.in_range;
  outward = h.outward;
  inward = h.inward;
  few = h.few;
  controls = h.controls;
  wants = h.wants;
  orderly = h.orderly;
  faults = omega (arith, length-append script.faults (fault ∷ []), room);
  serials = All-push SerialInRange script.faults fault h.serials serial;
  planned = all_more PlansFault script.faults fault h.planned is_one;
  once = once_more script.faults fault h.planned free h.once;
}
