-- Whether a lane is still, by what its path has.
use Rattle.std.proofs.Common.{◌≡◌, ℕ, zero, suc, ◌+◌, ◌-◌, ◌<◌, ◌≤◌, Bool, true, false, not, ◌&&◌, ◌||◌, ◌==◌, nat_lt, List, [], ◌∷◌, length, map, drop, Option, Some, None, is_some, refl, sym, ap, ◌∙◌, subst, arith, length-append, length-drop, if◌then◌else◌}
use Rattle.std.proofs.lemmas.Bool.Decides.{nat_tests}
use Rattle.std.proofs.lemmas.List.{length-map}
use Rattle.std.specs.List.{list_all}
use Rattle.un_facts.specs.Lists.{is_empty}
use Rattle.un_facts.specs.Numbers.{one_if}
use Rattle.un_frame.specs.declared.params.Lane.{Lane}
use Rattle.un_frame.specs.declared.kinds.Phase.{Phase}
use Rattle.un_frame.specs.declared.kinds.Phase.TheVariants.{Up, Asleep, Stopping, Leaving, Down, Away}
use Rattle.un_frame.specs.Cut.{closed_span}
use Rattle.un_req.specs.Request.{Buffer}
use Rattle.un_endpoint.specs.declared.record.FlightRecord.{FlightRecord}
use Rattle.un_endpoint.specs.Bus.{Bus, unmarked_count}
use Rattle.un_endpoint.specs.Ends.{Opened as Current}
use Rattle.un_endpoint.specs.EndOutcomes.{with_frame, closing, frame_needs_home, is_busy, can_tick, tick_needs, CanOffer}
use Rattle.un_journal.specs.History.{History, taken, cover, flying, arrived, ended, returned, halted, mark, posted}
use Rattle.un_journal.specs.Lookup.{offer_needs_home, pending, queued, is_asleep}
use Rattle.un_journal.specs.LaneSteps.{Writes, Answers, accept, tick_built, take_with, take_first, take_head, tx_done, rx_done, rx_done_at, open_first, deliver_next, deliver_current, deliver_number, post, unlink_first, clear_set}
use Rattle.un_journal.specs.Step.{is_still, take_flight, unlink, clear_halt}
use Rattle.un_journal.specs.declared.actions.Answer.{Answer}
use Rattle.un_lane.specs.Way.{Way}
use Rattle.un_lane.specs.Phases.{Agrees}
use Rattle.un_lane.specs.Controls.{unmarked_flight, unmarked_in}
use Rattle.un_lane.specs.Still.{is_none, is_lane_still, lane_outcomes, refill_in, takes_nothing, posts_nothing, stays}
use Rattle.un_lane.specs.Stands.{Stands, AreMarked, opened_serial, serial_of, flight_serial}
use Rattle.un_lane.proofs.Building.{tick_is}
use Rattle.un_lane.proofs.Giving.{clear_is, due, post_is}
use Rattle.un_lane.proofs.LinkSteps.{posted_is}
use Rattle.un_lane.proofs.Lookups.{queued_is, unmarked_is}
use Rattle.un_lane.proofs.Opening.{first_done, none_done}
use Rattle.un_lane.proofs.Offering.{closing_is, home_is, needs_is}

still_if : (b : Bool) (a : Answer) (h : History) → is_still (if b then Answers a else Writes h) ≡ b
still_if true a h = refl
still_if false a h = refl

none_home : {X : Type 0} (xs : List X) → (length xs == 0) ≡ is_empty xs
none_home [] = refl
none_home (x ∷ xs) = let e : length (x ∷ xs) ≡ suc (length xs) = refl in grind (arith, nat_tests, e)

-- an offer writes lines but where building is busy
pub accept_still : (way : Way) (g : History) (sender : ℕ) (frame : List ℕ) → Stands way g
    → is_still (accept way.tx.params way.lane sender (with_frame way.tx frame) g) ≡ is_busy way.tx frame way.accepted
accept_still way g sender frame w =
    still_if _ Answer.Busy _
    ∙ (ap (λ n. offer_needs_home way.tx.params way.lane g (closed_span way.tx.params way.lane (with_frame way.tx frame) (cover g) (taken g + 1 - 1)) && (n == 0)) (home_is way g w)
    ∙ (ap (λ b. b && (length way.tx.home == 0)) (needs_is way.tx.params way.lane g way.tx.builder.claim _ w.building.claimed
    ∙ (ap (λ c. frame_needs_home way.lane way.tx.builder.claim c) (sym (closing_is way g frame w)) ∙ ap (λ l. frame_needs_home l way.tx.builder.claim (closing way.tx frame way.accepted)) (sym w.placed.side)))
    ∙ ap (λ b. frame_needs_home way.tx.lane way.tx.builder.claim (closing way.tx frame way.accepted) && b) (none_home way.tx.home)))

twice : (b : Bool) → not (not b) ≡ b
twice true = refl
twice false = refl

pub can_offer_is : (way : Way) (g : History) (sender : ℕ) (frame : List ℕ) (size : ℕ) (answer : Bool) → Stands way g → CanOffer way.tx size answer → length frame ≡ size → size ≤ way.tx.params.segment
    → is_still (accept way.tx.params way.lane sender (with_frame way.tx frame) g) ≡ not answer
can_offer_is way g sender frame size answer w can e most =
    accept_still way g sender frame w ∙ (sym (twice (is_busy way.tx frame way.accepted)) ∙ ap not (sym (can frame way.accepted e most next)))
  where
    next : 0 < length way.tx.builder.frames → way.accepted ≡ way.tx.builder.from + length way.tx.builder.frames
    next h =
        let begins : way.tx.builder.from ≡ cover g = w.building.from_is h in
        let covered : cover g + length way.tx.builder.frames ≡ taken g = w.building.covered in
        let accepted : taken g ≡ way.accepted = w.building.accepted_is in
        omega arith

-- THE LANE'S WORK BUT AN OFFER

count_none : (n : ℕ) (xs : List Buffer) → n ≡ length xs → (n == 0) ≡ is_none xs
count_none n [] e = rw e refl
count_none n (x ∷ xs) e = let s : n ≡ suc (length xs) = e in grind (arith, nat_tests, s)

-- a tick

tick_if : (b p q : Bool) (a a' : Answer) (h h' : History) → is_still (if b then Answers a else (if p then Writes h else (if q then Answers a' else Writes h'))) ≡ (b || (not p && q))
tick_if true p q a a' h h' = refl
tick_if false true q a a' h h' = refl
tick_if false false true a a' h h' = refl
tick_if false false false a a' h h' = refl

tick_flip : (n : ℕ) (p q : Bool) → ((n == 0) || (not p && q)) ≡ not (nat_lt 0 n && (p || not q))
tick_flip zero p q = refl
tick_flip (suc n) p q = rw (no n, yes n) (go p q)
  where
    no : (m : ℕ) → (suc m == 0) ≡ false
    no m = grind (arith, nat_tests)

    yes : (m : ℕ) → nat_lt 0 (suc m) ≡ true
    yes m = grind (arith, nat_tests)

    go : (p q : Bool) → (false || (not p && q)) ≡ not (true && (p || not q))
    go true q = refl
    go false true = refl
    go false false = refl

tick_still : (way : Way) (g : History) (frames : List (List ℕ)) → Stands way g → is_still (tick_built way.tx.params way.lane frames g) ≡ not (can_tick way.tx)
tick_still way g frames w =
    ap is_still (tick_is way g frames w)
    ∙ (tick_if (length way.tx.builder.frames == 0) (nat_lt 0 way.tx.builder.pending) (tick_needs way.lane way.tx.builder.claim && (length way.tx.home == 0)) _ _ _ _
    ∙ (ap (λ l. (length way.tx.builder.frames == 0) || (not (nat_lt 0 way.tx.builder.pending) && (tick_needs l way.tx.builder.claim && (length way.tx.home == 0)))) (sym w.placed.side)
    ∙ (ap (λ b. (length way.tx.builder.frames == 0) || (not (nat_lt 0 way.tx.builder.pending) && (tick_needs way.tx.lane way.tx.builder.claim && b))) (none_home way.tx.home)
    ∙ tick_flip (length way.tx.builder.frames) (nat_lt 0 way.tx.builder.pending) (tick_needs way.tx.lane way.tx.builder.claim && is_empty way.tx.home))))

-- a take, where nothing flies

head_if : (a h p : Bool) (x y z : Answer) (ls : History) → is_still (if a then Answers x else (if h then Answers y else (if p then Answers z else Writes ls))) ≡ (a || (h || p))
head_if true h p x y z ls = refl
head_if false true p x y z ls = refl
head_if false false true x y z ls = refl
head_if false false false x y z ls = refl

first_still : (asleep : Bool) (lane : Lane) (g : History) (queue : List Buffer) (marks : List ℕ) (halts : Bool) (lent : List Buffer) → AreMarked (mark g) (map serial_of queue) marks → halted g ≡ halts → posted g ≡ length lent
    → is_still (take_first asleep lane g (map serial_of queue)) ≡ (is_none queue || (not (nat_lt 0 (length queue) && nat_lt 0 (length marks)) && (asleep || (halts || is_none lent))))
first_still asleep lane g [] marks halts lent a h p = refl
first_still asleep lane g (x ∷ xs) [] halts lent a h p =
    ap (λ m. is_still (take_head asleep lane g x.serial m)) a.0
    ∙ (head_if asleep (halted g) (posted g == 0) _ _ _ _
    ∙ (ap (λ b. asleep || (b || (posted g == 0))) h ∙ (ap (λ b. asleep || (halts || b)) (count_none (posted g) lent p) ∙ sym (ap (λ b. not b && (asleep || (halts || is_none lent))) (and_no (nat_lt 0 (length (x ∷ xs)))))))
    )
  where
    and_no : (b : Bool) → (b && nat_lt 0 0) ≡ false
    and_no true = refl
    and_no false = refl
first_still asleep lane g (x ∷ xs) (c ∷ cs) halts lent a h p =
    ap (λ m. is_still (take_head asleep lane g x.serial m)) a.0
    ∙ sym (ap (λ b. not b && (asleep || (halts || is_none lent))) (both (length xs) (length cs)))
  where
    both : (m n : ℕ) → (nat_lt 0 (suc m) && nat_lt 0 (suc n)) ≡ true
    both m n = grind (arith, nat_tests)

take_still : (phase : Phase) (way : Way) (g : History) → Stands way g → Agrees (is_asleep phase) way → way.bus.flight ≡ None → is_still (take_flight phase way.lane g) ≡ takes_nothing (is_asleep phase) way.bus
take_still phase way g w a none =
    ap (λ ks. is_still (take_with (is_asleep phase) way.lane g (queued phase way.lane g) ks)) (w.queues.fly ∙ ap flight_serial none)
    ∙ (ap (λ q. is_still (take_first (is_asleep phase) way.lane g q)) (queued_is phase way g w a)
    ∙ first_still (is_asleep phase) way.lane g way.bus.queue way.bus.marks way.bus.halted way.bus.posted w.queues.marked w.queues.halts (posted_is way g w))

-- the done list and the receiving end

done_still : (way : Way) (g : History) → Stands way g → is_still (tx_done way.lane g) ≡ is_none way.tx.done
done_still way g w = still_not (ended g (returned g)) _ _ ∙ go way.tx.done refl
  where
    still_not : (b : Bool) (h : History) (x : Answer) → is_still (if b then Writes h else Answers x) ≡ not b
    still_not true h x = refl
    still_not false h x = refl

    go : (xs : List Buffer) → way.tx.done ≡ xs → not (ended g (returned g)) ≡ is_none way.tx.done
    go [] e = ap not (none_done g w.sound (w.ends.done_is ∙ ap (map serial_of) e)) ∙ ap is_none (sym e)
    go (x ∷ xs) e =
        let f = first_done g x.serial (map serial_of xs) w.sound (w.ends.done_is ∙ ap (map serial_of) e) in
        ap not (subst (λ i. ended g i ≡ true) f.0 f.1) ∙ ap is_none (sym e)

arrived_still : (way : Way) (g : History) → Stands way g → is_still (rx_done way.lane g) ≡ (is_some way.rx.current || is_none way.rx.arrived)
arrived_still way g w = ap (λ c. is_still (rx_done_at way.lane g c)) w.ends.current_is ∙ go way.rx.current
  where
    opens : (xs : List Buffer) (ks : List ℕ) → ks ≡ map serial_of xs → is_still (open_first way.lane ks) ≡ is_none xs
    opens [] ks e = ap (λ is. is_still (open_first way.lane is)) e
    opens (x ∷ xs) ks e = ap (λ is. is_still (open_first way.lane is)) e

    go : (c : Option Current) → is_still (rx_done_at way.lane g (opened_serial c)) ≡ (is_some c || is_none way.rx.arrived)
    go None = opens way.rx.arrived (arrived g) w.ends.arrived_is
    go (Some o) = refl

current_still : (way : Way) (g : History) → Stands way g → is_still (deliver_next way.tx.params way.lane g) ≡ not (is_some way.rx.current)
current_still way g w = go way.rx.current refl
  where
    go : (c : Option Current) → way.rx.current ≡ c → is_still (deliver_next way.tx.params way.lane g) ≡ not (is_some way.rx.current)
    go None e = ap (λ k. is_still (deliver_current way.tx.params way.lane g k)) (w.ends.current_is ∙ ap opened_serial e) ∙ ap (λ c. not (is_some c)) (sym e)
    go (Some o) e =
        let d = due way g o w e in
        ap (λ k. is_still (deliver_current way.tx.params way.lane g k)) d.is_current
        ∙ (ap (λ ns. is_still (deliver_number way.tx.params way.lane g o.request.serial ns)) d.left ∙ ap (λ c. not (is_some c)) (sym e))

-- requests, stops and the halt, by the phase

post_still : (way : Way) (g : History) → Stands way g → is_still (post way.tx.params way.lane g) ≡ (length way.rx.home == 0)
post_still way g w = ap is_still (post_is way g w) ∙ still_if (length way.rx.home == 0) _ _

clear_still : (way : Way) (g : History) → Stands way g → is_still (clear_set way.lane g) ≡ not way.bus.halted
clear_still way g w = ap is_still (clear_is way g way.bus.halted w refl) ∙ still_not way.bus.halted _ _
  where
    still_not : (b : Bool) (h : History) (x : Answer) → is_still (if b then Writes h else Answers x) ≡ not b
    still_not true h x = refl
    still_not false h x = refl

stop_still : (lane : Lane) (c : ℕ) (g : History) (ks : List ℕ) (n : ℕ) (lent : List Buffer) → n ≡ length ks → posted g ≡ length lent → is_still (unlink_first lane c g ks) ≡ ((n == 0) && is_none lent)
stop_still lane c g [] n lent e p = still_if (posted g == 0) _ _ ∙ (count_none (posted g) lent p ∙ ap (λ b. b && is_none lent) (sym (ap (λ m. m == 0) e)))
stop_still lane c g (k ∷ ks) n lent e p = ap (λ b. b && is_none lent) (sym (let s : n ≡ suc (length ks) = e in not_none n s))
  where
    not_none : (m : ℕ) → m ≡ suc (length ks) → (m == 0) ≡ false
    not_none m s = grind (arith, nat_tests, s)

unmarked_counted : (bus : Bus) → unmarked_count bus ≡ length (unmarked_in bus)
unmarked_counted bus =
    let l : length (map serial_of bus.queue) ≡ length bus.queue = length-map bus.queue serial_of in
    let d : length (drop (length bus.marks) (map serial_of bus.queue)) ≡ length (map serial_of bus.queue) - length bus.marks = length-drop (length bus.marks) (map serial_of bus.queue) in
    let a : length (unmarked_in bus) ≡ length (unmarked_flight bus.flight bus.flight_mark) + length (drop (length bus.marks) (map serial_of bus.queue)) = length-append (unmarked_flight bus.flight bus.flight_mark) (drop (length bus.marks) (map serial_of bus.queue)) in
    let f : length (unmarked_flight bus.flight bus.flight_mark) ≡ one_if (is_some bus.flight && not (is_some bus.flight_mark)) = flight bus.flight bus.flight_mark in
    omega arith
  where
    flight : (f : Option FlightRecord) (m : Option ℕ) → length (unmarked_flight f m) ≡ one_if (is_some f && not (is_some m))
    flight None m = refl
    flight (Some f) None = refl
    flight (Some f) (Some c) = refl

posts_still : (phase : Phase) (way : Way) (c : ℕ) (g : History) → Stands way g → Agrees (is_asleep phase) way
    → (is_still (refill_in way.tx.params phase way.lane g) && (is_still (unlink phase way.lane c g) && (is_still (clear_halt phase way.lane g) && true))) ≡ posts_nothing phase way
posts_still Up way c g w a = ap (λ b. b && (true && (is_still (clear_set way.lane g) && true))) (post_still way g w) ∙ (ap (λ b. (length way.rx.home == 0) && (true && (b && true))) (clear_still way g w) ∙ ap (λ b. (length way.rx.home == 0) && b) (and_true (not way.bus.halted)))
  where
    and_true : (b : Bool) → (b && true) ≡ b
    and_true true = refl
    and_true false = refl
posts_still Stopping way c g w a =
    ap (λ ks. is_still (unlink_first way.lane c g ks) && true) (unmarked_is Stopping way g w a)
    ∙ (ap (λ b. b && true) (stop_still way.lane c g (unmarked_in way.bus) (unmarked_count way.bus) way.bus.posted (unmarked_counted way.bus) (posted_is way g w))
    ∙ and_true ((unmarked_count way.bus == 0) && is_none way.bus.posted))
  where
    and_true : (b : Bool) → (b && true) ≡ b
    and_true true = refl
    and_true false = refl
posts_still Asleep way c g w a = refl
posts_still Leaving way c g w a = refl
posts_still Down way c g w a = refl
posts_still Away way c g w a = refl

-- all of it

joined : (t k d a c p : Bool) → ((t && (d && (a && not c))) && (k && p)) ≡ (t && (k && (d && ((c || a) && (not c && p)))))
joined false k d a c p = refl
joined true false d a c p = both (d && (a && not c))
  where
    both : (b : Bool) → (b && false) ≡ false
    both true = refl
    both false = refl
joined true true false a c p = refl
joined true true true a true p = both a
  where
    both : (b : Bool) → ((b && false) && p) ≡ false
    both true = refl
    both false = refl
joined true true true true false p = refl
joined true true true false false p = refl

pub still_is : (phase : Phase) (way : Way) (frames : List (List ℕ)) (c : ℕ) (g : History) → Stands way g → Agrees (is_asleep phase) way → stays phase way ≡ is_lane_still way.tx.params phase way.lane frames c g
still_is phase way frames c g w a = go way.bus.flight refl
  where
    go : (f : Option FlightRecord) → way.bus.flight ≡ f → stays phase way ≡ is_lane_still way.tx.params phase way.lane frames c g
    go (Some f) e =
        let flies : flying g ≡ f.serial ∷ [] = w.queues.fly ∙ ap flight_serial e in
        rw (e, flies) refl
    go None e =
        let none : flying g ≡ [] = w.queues.fly ∙ ap flight_serial e in
        let take = take_still phase way g w a e in
        ap (λ x. (not (is_some x) && (not (can_tick way.tx) && (is_none way.tx.done && (is_none way.rx.arrived && not (is_some way.rx.current))))) && (takes_nothing (is_asleep phase) way.bus && posts_nothing phase way)) e
        ∙ (joined (not (can_tick way.tx)) (takes_nothing (is_asleep phase) way.bus) (is_none way.tx.done) (is_none way.rx.arrived) (is_some way.rx.current) (posts_nothing phase way)
        ∙ (values _ _ _ _ _ _ _ _ _ _ _ _ (sym (tick_still way g frames w)) (sym take) (sym (done_still way g w)) (sym (arrived_still way g w)) (sym (current_still way g w)) (sym (posts_still phase way c g w a))
        ∙ ap (λ ks. is_empty ks && list_all is_still (lane_outcomes way.tx.params phase way.lane frames c g)) (sym none)))
      where
        values : (t t' k k' d d' a a' n n' p p' : Bool) → t ≡ t' → k ≡ k' → d ≡ d' → a ≡ a' → n ≡ n' → p ≡ p' → (t && (k && (d && (a && (n && p))))) ≡ (t' && (k' && (d' && (a' && (n' && p')))))
        values t t' k k' d d' a a' n n' p p' e1 e2 e3 e4 e5 e6 = rw (e1, e2, e3, e4, e5, e6) refl
