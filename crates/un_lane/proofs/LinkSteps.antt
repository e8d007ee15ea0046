-- What the steps of a link do in a lane, by what the lane's path has; and how a path agrees with the phase that comes next.
use Rattle.std.proofs.Common.{◌≡◌, ℕ, zero, suc, ◌+◌, ◌-◌, ◌≤◌, Bool, true, false, List, [], ◌∷◌, ◌++◌, length, map, drop, Option, Some, None, unwrap_or, refl, sym, ap, ◌∙◌, arith, drop_of_length-le, reverse}
use Rattle.std.proofs.lemmas.Bool.{false≢true}
use Rattle.un_frame.specs.declared.params.Lane.{Lane}
use Rattle.un_frame.specs.declared.params.Lane.TheVariants.{Outward, Inward}
use Rattle.un_frame.specs.declared.kinds.Phase.{Phase}
use Rattle.un_frame.specs.declared.kinds.Phase.TheVariants.{Up, Asleep, Stopping, Leaving, Down, Away}
use Rattle.un_endpoint.specs.declared.record.FlightRecord.{FlightRecord}
use Rattle.un_endpoint.specs.EndOutcomes.{with_frame}
use Rattle.un_journal.specs.declared.lines.Line.{Line}
use Rattle.un_journal.specs.Script.{Script, Frame, planned}
use Rattle.un_journal.specs.History.{History, past, taken, cover, flying, posted}
use Rattle.un_journal.specs.Lookup.{phase_of, controls_done, feed_head, datagrams, built_frames, deferred, unmarked, is_asleep, is_stopping}
use Rattle.un_journal.specs.LaneSteps.{Writes, bare, take_queued, take_with, land_fault, land_with, unlink_first}
use Rattle.un_journal.specs.Step.{take_flight, land_flight, land_from, unlink, marked_each, cut_each, recalled_each}
use Rattle.un_journal.proofs.ForLane.{count_datagrams, lane_still}
use Rattle.un_lane.specs.Way.{Way}
use Rattle.un_lane.specs.Phases.{Agrees, IsDropped, defers}
use Rattle.un_lane.specs.Controls.{unmarked_in, unmarked_lines, deferred_lines, posted_lines, resumed}
use Rattle.un_lane.specs.Stands.{Stands, serial_of, flight_serial}
use Rattle.un_lane.specs.Still.{is_lane_still}
use Rattle.un_lane.proofs.Lookups.{deferred_is, queued_is, unmarked_is}

-- WHAT THE STEPS DO

drop_more : (n : ℕ) (xs : List Frame) (x : Frame) → n ≤ length xs → drop n (xs ++ x ∷ []) ≡ drop n xs ++ x ∷ []
drop_more zero xs x h = refl
drop_more (suc n) [] x h = absurd (omega arith)
drop_more (suc n) (y ∷ xs) x h = drop_more n xs x (omega arith)

-- the built frames with one that is taken
pub frames_took : (script : Script) (way : Way) (g : History) (sender : ℕ) (frame : Frame) → Stands way g → way.tx.builder.frames ≡ built_frames script way.lane g → feed_head script way.lane g sender ≡ Some frame
    → built_frames script way.lane (bare (Line.Took way.lane sender) ∷ g) ≡ with_frame way.tx frame
frames_took script way g sender frame w f e =
    let c : cover g + length way.tx.builder.frames ≡ taken g = w.building.covered in
    let n : length (datagrams script way.lane g) ≡ taken g = count_datagrams script way.lane g in
    ap (λ h. drop (cover g) (datagrams script way.lane g ++ unwrap_or h [] ∷ [])) e
    ∙ (drop_more (cover g) (datagrams script way.lane g) frame (omega arith) ∙ ap (λ fs. fs ++ frame ∷ []) (sym f))

pub take_is : (phase : Phase) (way : Way) (g : History) → Stands way g → Agrees (is_asleep phase) way → take_flight phase way.lane g ≡ take_queued (is_asleep phase) way.lane g (map serial_of way.bus.queue)
take_is phase way g w a = ap (λ q. take_queued (is_asleep phase) way.lane g q) (queued_is phase way g w a)

-- a flight is taken where none is out
pub take_alone : (asleep : Bool) (way : Way) (g lines : History) (queue : List ℕ) → Stands way g → take_queued asleep way.lane g queue ≡ Writes lines → way.bus.flight ≡ None
take_alone asleep way g lines queue w e = go way.bus.flight refl
  where
    go : (f : Option FlightRecord) → way.bus.flight ≡ f → way.bus.flight ≡ None
    go None s = s
    go (Some f) s = absurd (let x = sym (ap (take_with asleep way.lane g queue) (w.queues.fly ∙ ap flight_serial s)) ∙ e in cc)

-- the fault is the planned one of the flight
pub land_is : (script : Script) (way : Way) (g : History) (f : FlightRecord) → Stands way g → way.bus.flight ≡ Some f → land_flight script way.lane g ≡ land_fault way.lane (planned script way.lane f.serial) g
land_is script way g f w e =
    let flies : flying g ≡ f.serial ∷ [] = w.queues.fly ∙ ap flight_serial e in
    ap (land_from script way.lane g) flies ∙ sym (ap (land_with way.lane (planned script way.lane f.serial) g) flies)

pub unlink_is : (phase : Phase) (way : Way) (g : History) (cause : ℕ) → Stands way g → Agrees (is_asleep phase) way → is_stopping phase ≡ true → unlink phase way.lane cause g ≡ unlink_first way.lane cause g (unmarked_in way.bus)
unlink_is Stopping way g cause w a e = ap (unlink_first way.lane cause g) (unmarked_is Stopping way g w a)
unlink_is Up way g cause w a e = absurd (false≢true e)
unlink_is Asleep way g cause w a e = absurd (false≢true e)
unlink_is Leaving way g cause w a e = absurd (false≢true e)
unlink_is Down way g cause w a e = absurd (false≢true e)
unlink_is Away way g cause w a e = absurd (false≢true e)

-- the lane's lines of a control
pub marks_are : (phase : Phase) (way : Way) (g : History) (cause : ℕ) → Stands way g → Agrees (is_asleep phase) way → marked_each way.lane cause (unmarked phase way.lane g) ≡ unmarked_lines cause way
marks_are phase way g cause w a = ap (marked_each way.lane cause) (unmarked_is phase way g w a)

pub cuts_are : (phase : Phase) (way : Way) (g : History) (cause : ℕ) → Stands way g → Agrees (is_asleep phase) way → cut_each way.lane cause (deferred phase way.lane g) ≡ deferred_lines cause way
cuts_are phase way g cause w a = ap (cut_each way.lane cause) (deferred_is phase way g w a)

pub posted_is : (way : Way) (g : History) → Stands way g → posted g ≡ length way.bus.posted
posted_is way g w = let s = w.queues.posted in omega (arith, s)

pub recalls_are : (way : Way) (g : History) → Stands way g → recalled_each way.lane (posted g) ≡ posted_lines way
recalls_are way g w = ap (recalled_each way.lane) (posted_is way g w)

-- whether the lane of a link is still
pub lane_still_is : (script : Script) (h : History) (way : Way) → way.tx.params ≡ script.params
    → lane_still script h way.lane ≡ is_lane_still way.tx.params (phase_of script h) way.lane (built_frames script way.lane (past way.lane h)) (controls_done (reverse h) - 1) (past way.lane h)
lane_still_is script h way e = ap (λ p. is_lane_still p (phase_of script h) way.lane (built_frames script way.lane (past way.lane h)) (controls_done (reverse h) - 1) (past way.lane h)) (sym e)

-- THE NEXT PHASE

pub defers_awake : (lane : Lane) → defers lane false ≡ false
defers_awake Outward = refl
defers_awake Inward = refl

-- an inward path agrees with every phase
pub agrees_inward : (asleep asleep' : Bool) (way : Way) → way.lane ≡ Inward → Agrees asleep way → Agrees asleep' way
agrees_inward asleep asleep' way e a = record {
  none_queued = λ t. absurd (false≢true (sym (ap (λ l. defers l asleep') e) ∙ t));
  none_deferred = λ t. a.none_deferred (ap (λ l. defers l asleep) e);
}

-- a link falls asleep where nothing is queued and nothing flies
pub agrees_asleep : (way : Way) → way.bus.queue ≡ [] → way.bus.flight ≡ None → Agrees false way → Agrees true way
agrees_asleep way q f a = record { none_queued = λ e. (q, f); none_deferred = λ e. a.none_deferred (defers_awake way.lane) }

-- and is awake where nothing is deferred
pub agrees_awake : (way : Way) → way.tx.deferred ≡ [] → Agrees false way
agrees_awake way d = record { none_queued = λ e. absurd (false≢true (sym (defers_awake way.lane) ∙ e)); none_deferred = λ e. d }

pub agrees_resumed : (way : Way) → Agrees false (resumed way)
agrees_resumed way = agrees_awake (resumed way) refl

pub agrees_dropped : (old new : Way) → IsDropped old new → Agrees false new
agrees_dropped old new d = agrees_awake new d.none_deferred

-- no frame is built after dropping
pub frames_dropped : (script : Script) (old new : Way) (g : History) → Stands new g → IsDropped old new → new.tx.builder.frames ≡ built_frames script new.lane g
frames_dropped script old new g w d =
    let n : length (datagrams script new.lane g) ≡ taken g = count_datagrams script new.lane g in
    let c : cover g + length new.tx.builder.frames ≡ taken g = w.building.covered in
    let z : length new.tx.builder.frames ≡ 0 = ap length d.none_built in
    d.none_built ∙ sym (drop_of_length-le (datagrams script new.lane g) (omega arith))
