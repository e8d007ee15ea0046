-- The loop of the drain.
use Rattle.std.proofs.Common.{◌≡◌, ℕ, zero, suc, ◌+◌, ◌-◌, ◌<◌, ◌≤◌, Bool, true, false, List, [], ◌∷◌, ◌++◌, length, take, slice_get, Option, Some, None, nat_le, nat_lt, refl, sym, ap, ◌∙◌, subst, arith, append-nil}
use Rattle.std.proofs.lemmas.Bool.Decides.{nat_tests}
use Rattle.un_frame.specs.declared.params.Lane.{Lane}
use Rattle.un_frame.specs.declared.params.Lane.TheVariants.{Outward, Inward}
use Rattle.un_endpoint.specs.declared.record.FlightRecord.{FlightRecord}
use Rattle.un_journal.specs.declared.actions.Action.{Action}
use Rattle.un_journal.specs.declared.machine.FlightKey.{FlightKey}
use Rattle.un_journal.specs.Script.{Script}
use Rattle.un_journal.specs.History.{History, past, made, flies, flying, given}
use Rattle.un_journal.specs.Step.{step_of}
use Rattle.un_journal.specs.Done.{NoneFlies, IsFinished}
use Rattle.un_journal.specs.Unplug.{AwaitsUnplug, IsPrefix, IsSettledAway}
use Rattle.un_journal.specs.Drain.{run, round, drain, same_length, line_bound}
use Rattle.un_journal.specs.Fits.{IsDone}
use Rattle.un_journal.proofs.ForLink.{status_of, is_aloft, fresh, those_none, drain_extends, run_extends, no_longer, step_idle, drain_after_round, drain_after_control, drain_at_end}
use Rattle.un_journal.proofs.Theorems.{legal_bound, drain_done, done_finished, cut_off, given_prefix, have_pools}
use Rattle.un_frame.specs.Params.{AreInRange}
use Rattle.un_lane.specs.Way.{Way}
use Rattle.un_lane.specs.Stands.{Stands, flight_serial}
use Rattle.un_link.specs.Link.{Link, Holds, flights_of, lane_flights}
use Rattle.un_link.specs.Drain.{DrainsOn, IsDrained}

-- A ROUND

take_more : (n : ℕ) (xs : List Action) (x : Action) → slice_get xs n ≡ Some x → take (n + 1) xs ≡ take n xs ++ x ∷ []
take_more n [] x e = absurd (cc)
take_more zero (y ∷ ys) x e = let same : y ≡ x = cc in ap (λ i. i ∷ []) same
take_more (suc n) (y ∷ ys) x e = ap (λ m. take m (y ∷ ys)) (more n) ∙ ap (λ i. y ∷ i) (take_more n ys x e)
  where
    more : (n : ℕ) → suc n + 1 ≡ suc (n + 1)
    more n = omega arith

run_last : (script : Script) (h : History) (xs : List Action) (x : Action) → run script h (xs ++ x ∷ []) ≡ run script h xs ++ step_of script (run script h xs) x
run_last script h [] x = refl
run_last script h (y ∷ ys) x = run_last script (h ++ step_of script h y) ys x

-- one action more
pub run_more : (script : Script) (h now after : History) (actions : List Action) (n : ℕ) (x : Action) → slice_get actions n ≡ Some x → now ≡ run script h (take n actions) → after ≡ now ++ step_of script now x → after ≡ run script h (take (n + 1) actions)
run_more script h now after actions n x at e a =
    a ∙ (ap (λ i. i ++ step_of script i x) e ∙ (sym (run_last script h (take n actions) x) ∙ ap (run script h) (sym (take_more n actions x at))))

-- ONE TURN OF THE LOOP

longer_false : (h h' : History) → length h < length h' → same_length h h' ≡ false
longer_false h h' low = grind (arith, nat_tests)

round_same : (script : Script) (h : History) → length (run script h round) ≤ length h → run script h round ≡ h
round_same script h low =
    let w = run_extends script h round in
    let short : length (h ++ w.more) ≤ length h = subst (λ i. length i ≤ length h) w.is_more low in
    w.is_more ∙ (ap (λ i. h ++ i) (step_idle h w.more short) ∙ append-nil h)

-- a round that wrote lines
pub round_drains : (old new : Link) → Holds old → Holds new → new.script ≡ old.script → flights_of new ≡ flights_of old → new.log.history ≡ run old.script old.log.history round → length old.log.history < length new.log.history → DrainsOn old new true
round_drains old new k k' s f h low = record {
  script_is = s;
  legal = k'.logged.legal;
  flights_are = f;
  drained = (low, ap (λ i. drain i new.log.history) s ∙ (ap (drain old.script) h ∙ drain_after_round old.script old.log.history k.logged.legal (longer_false old.log.history (run old.script old.log.history round) (subst (λ i. length old.log.history < length i) h low))));
}

-- a round that wrote none, and then a forced control
pub control_drains : (old mid new : Link) (b : Bool) → Holds old → Holds new → mid.script ≡ old.script → new.script ≡ mid.script → flights_of mid ≡ flights_of old → flights_of new ≡ flights_of mid
    → mid.log.history ≡ run old.script old.log.history round → length mid.log.history ≤ length old.log.history
    → new.log.history ≡ mid.log.history ++ step_of mid.script mid.log.history (Action.Control true) → nat_lt (length old.log.history) (length new.log.history) ≡ b → DrainsOn old new b
control_drains old mid new b k k' s s' f f' h low h' e = record { script_is = s' ∙ s; legal = k'.logged.legal; flights_are = f' ∙ f; drained = go b e }
  where
    short : length (run old.script old.log.history round) ≤ length old.log.history
    short = subst (λ i. length i ≤ length old.log.history) h low

    still : mid.log.history ≡ old.log.history
    still = h ∙ round_same old.script old.log.history short

    after : new.log.history ≡ old.log.history ++ step_of old.script old.log.history (Action.Control true)
    after = h' ∙ (ap (λ i. i ++ step_of mid.script i (Action.Control true)) still ∙ ap (λ i. old.log.history ++ step_of i old.log.history (Action.Control true)) s)

    none : same_length old.log.history (run old.script old.log.history round) ≡ true
    none = no_longer old.log.history (run old.script old.log.history round) short

    lt_yes : (n m : ℕ) → nat_lt n m ≡ true → n < m
    lt_yes n m e = grind (arith, nat_tests)

    lt_no : (n m : ℕ) → nat_lt n m ≡ false → m ≤ n
    lt_no n m e = grind (arith, nat_tests)

    go : (b : Bool) → nat_lt (length old.log.history) (length new.log.history) ≡ b → IsDrained old new b
    go true e =
        let more = lt_yes (length old.log.history) (length new.log.history) e in (
          more,
          ap (λ i. drain i new.log.history) (s' ∙ s) ∙ (ap (drain old.script) after ∙ drain_after_control old.script old.log.history k.logged.legal none
              (longer_false old.log.history (old.log.history ++ step_of old.script old.log.history (Action.Control true)) (subst (λ i. length old.log.history < length i) after more))),
        )
    go false e =
        let less = subst (λ i. length i ≤ length old.log.history) after (lt_no (length old.log.history) (length new.log.history) e) in (
          after ∙ (ap (λ i. old.log.history ++ i) (step_idle old.log.history (step_of old.script old.log.history (Action.Control true)) less) ∙ append-nil old.log.history),
          drain_at_end old.script old.log.history none (no_longer old.log.history (old.log.history ++ step_of old.script old.log.history (Action.Control true)) less),
        )

-- THE LOOP

-- each turn has fewer lines to write
pub fewer_left : (old new : Link) (b : Bool) → DrainsOn old new b → b ≡ true → line_bound new.script - length new.log.history < line_bound old.script - length old.log.history
fewer_left old new b d e =
    let t : IsDrained old new true = subst (IsDrained old new) e d.drained in
    let more : length old.log.history < length new.log.history = t.0 in
    let most : length new.log.history ≤ line_bound new.script = legal_bound new.script new.log.history d.legal in
    let same : line_bound new.script ≡ line_bound old.script = ap line_bound d.script_is in
    omega arith

-- NO FLIGHT IS OUT

none_aloft : (way : Way) (g : History) → Stands way g → way.bus.flight ≡ None → (k : ℕ) → flies g k ≡ false
none_aloft way g w e k = go (nat_le (made g) k) refl
  where
    none : flying g ≡ []
    none = w.queues.fly ∙ ap flight_serial e

    go : (b : Bool) → nat_le (made g) k ≡ b → flies g k ≡ false
    go true q = let low : made g ≤ k = grind (arith, nat_tests) in (status_of g w.sound k).flies_is ∙ ap is_aloft (fresh g w.sound k low)
    go false q = let low : k < made g = grind (arith, nat_tests) in those_none (flies g) (made g) none k low

none_of : (lane : Lane) (g : History) (o : Option FlightRecord) → lane_flights lane g o ≡ [] → o ≡ None
none_of lane g None e = refl
none_of lane g (Some f) e = absurd (cc)

no_front : (xs ys : List FlightKey) → xs ++ ys ≡ [] → xs ≡ []
no_front [] ys e = refl
no_front (x ∷ xs) ys e = absurd (cc)

no_back : (xs ys : List FlightKey) → xs ++ ys ≡ [] → ys ≡ []
no_back [] ys e = e
no_back (x ∷ xs) ys e = absurd (cc)

pub none_flies : (link : Link) → Holds link → flights_of link ≡ [] → NoneFlies link.log.history
none_flies link k e = go
  where
    out : List FlightKey
    out = lane_flights Outward (past Outward link.log.history) link.out.bus.flight

    inward : List FlightKey
    inward = lane_flights Inward (past Inward link.log.history) link.inward.bus.flight

    go : (lane : Lane) (j : ℕ) → flies (past lane link.log.history) j ≡ false
    go Outward j = none_aloft link.out (past Outward link.log.history) k.out_keeps.stands (none_of Outward (past Outward link.log.history) link.out.bus.flight (no_front out inward e)) j
    go Inward j = none_aloft link.inward (past Inward link.log.history) k.in_keeps.stands (none_of Inward (past Inward link.log.history) link.inward.bus.flight (no_back out inward e)) j

-- the end of the loop
pub drained_done : (start new : Link) → Holds start → flights_of start ≡ [] → new.script ≡ start.script → new.log.history ≡ drain start.script start.log.history → IsDone new.script new.log.history
drained_done start new k f s h =
    subst (λ i. IsDone i new.log.history) (sym s) (subst (IsDone start.script) (sym h) (drain_done start.script start.log.history k.logged.legal (none_flies start k f)))

-- what it means
pub drained_finished : (start new : Link) → Holds start → flights_of start ≡ [] → new.script ≡ start.script → new.log.history ≡ drain start.script start.log.history → IsFinished new.script new.log.history
drained_finished start new k f s h =
    done_finished new.script new.log.history (have_pools new.script.params (subst (λ (i : Script). AreInRange i.params) (sym s) k.logged.in_range)) (drained_done start new k f s h)

-- an unplug that was the last control is settled
pub drained_cut : (start new : Link) → Holds start → new.script ≡ start.script → new.log.history ≡ drain start.script start.log.history → AwaitsUnplug start.script start.log.history → IsSettledAway new.script new.log.history
drained_cut start new k s h w =
    subst (λ i. IsSettledAway i new.log.history) (sym s)
    (subst (IsSettledAway start.script) (sym h) (cut_off start.script start.log.history (have_pools start.script.params k.logged.in_range) k.logged.legal w))

-- what was given stays
pub drained_kept : (start new : Link) → new.log.history ≡ drain start.script start.log.history → (lane : Lane) → IsPrefix (given (past lane start.log.history)) (given (past lane new.log.history))
drained_kept start new h lane =
    subst (λ i. IsPrefix (given (past lane start.log.history)) (given (past lane i))) (sym h)
    (given_prefix start.log.history (drain start.script start.log.history) lane (drain_extends _ start.script start.log.history))

pub drained_history : (start loop new : Link) (b : Bool) → DrainsOn loop new b → b ≡ false → drain loop.script loop.log.history ≡ drain start.script start.log.history → new.log.history ≡ drain start.script start.log.history
drained_history start loop new b d e same =
    let t : IsDrained loop new false = subst (IsDrained loop new) e d.drained in
    t.0 ∙ (sym t.1 ∙ same)
