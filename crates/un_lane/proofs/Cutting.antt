-- A path that has given up its first deferred transfer stands for the lane with one line more.
use Rattle.std.proofs.Common.{◌≡◌, ℕ, suc, ◌+◌, ◌≤◌, Bool, true, false, ◌||◌, eqb, List, [], ◌∷◌, ◌++◌, length, map, None, option_to_list, inr, refl, sym, ap, ◌∙◌, subst, arith}
use Rattle.std.specs.List.{AllByRecursion}
use Rattle.std.proofs.lemmas.List.{length_push}
use Rattle.un_facts.proofs.Numbers.{one_here}
use Rattle.un_facts.specs.Lists.{copies}
use Rattle.un_facts.specs.Numbers.{one_if}
use Rattle.un_frame.specs.declared.params.Lane.{Lane}
use Rattle.un_frame.specs.declared.params.Lane.TheVariants.{Inward}
use Rattle.un_req.specs.Request.{Buffer, number_of}
use Rattle.un_endpoint.specs.Bus.{Bus}
use Rattle.un_endpoint.specs.Ends.{Transmitter, Receiver, IsAwayTx}
use Rattle.un_endpoint.specs.EndOutcomes.{IsNextDeferred}
use Rattle.un_journal.specs.declared.lines.Line.TheVariants.{Cut}
use Rattle.un_journal.specs.History.{History, attempts, made, waiting, flying, ended, landed, failed, was_cut, mark, halted, posts, recalls, flights, first, span, made_bytes, ends}
use Rattle.un_journal.specs.Sound.{IsNext}
use Rattle.un_journal.proofs.ForLane.{next_from, in_order, next_is}
use Rattle.un_lane.specs.Way.{Way}
use Rattle.un_lane.specs.Stands.{Stands, ArePlaced, AreQueued, AreMarked, IsTx, IsText, serial_of, flight_serial, flight_tx}
use Rattle.un_lane.proofs.Counting.{copies_more, map_last}
use Rattle.un_lane.proofs.Finishing.{finish_plus}
use Rattle.un_lane.proofs.Placing.{tx_moved}
use Rattle.un_lane.proofs.Serials.{apart, same_number}
use Rattle.un_lane.proofs.Taking.{cut_waiting, cut_flying}

-- where something is deferred nothing is queued and nothing flies
pub grounded_is : (way : Way) (g : History) (x : Buffer) (xs : List Buffer) → Stands way g → way.tx.deferred ≡ x ∷ xs → (way.bus.queue ≡ []) × (way.bus.flight ≡ None)
grounded_is way g x xs w e = w.queues.grounded (let l : length way.tx.deferred ≡ suc (length xs) = ap length e in omega arith)

deferred_waits : (way : Way) (g : History) (x : Buffer) (xs : List Buffer) → Stands way g → way.tx.deferred ≡ x ∷ xs → waiting g ≡ x.serial ∷ (map serial_of xs ++ map serial_of way.bus.queue)
deferred_waits way g x xs w e = w.queues.wait ∙ ap (λ ds. map serial_of ds ++ map serial_of way.bus.queue) e

next_deferred_is : (way : Way) (g : History) (x : Buffer) (xs : List Buffer) → Stands way g → way.tx.deferred ≡ x ∷ xs → IsNext g x.serial
next_deferred_is way g x xs w e =
    next_from g x.serial w.sound (w.queues.fly ∙ ap flight_serial (grounded_is way g x xs w e).1) (ap first (deferred_waits way g x xs w e))

-- the request is in none of the end's places once it is taken
pub deferred_away : (lane : Lane) (t : Transmitter) (r : Receiver) (bus : Bus) (x : Buffer) (xs : List Buffer) → ArePlaced lane t r bus → t.deferred ≡ x ∷ xs → IsAwayTx (record t { deferred = xs }) x
deferred_away lane t r bus x xs p q =
    let are = subst (AllByRecursion (IsTx t.size t.capacity)) q p.deferred_are in
    record {
      known = are.0.known;
      sized = are.0.sized;
      away =
          let e : copies x.number (map number_of t.deferred) ≡ one_if (eqb x.number x.number) + copies x.number (map number_of xs) = ap (λ ys. copies x.number (map number_of ys)) q in
          let s : one_if (eqb x.number x.number) ≡ 1 = one_here x.number in
          let w : copies x.number t.home + copies x.number (option_to_list t.builder.claim) + copies x.number (map number_of t.deferred) + copies x.number (map number_of t.done) + (copies x.number (map number_of bus.queue) + copies x.number (flight_tx bus.flight)) ≤ 1 = p.tx_once x.number in omega arith;
    }

cut_placed : (lane : Lane) (t : Transmitter) (r : Receiver) (bus : Bus) (x : Buffer) (xs : List Buffer) → ArePlaced lane t r bus → t.deferred ≡ x ∷ xs
    → ArePlaced lane (record t { deferred = xs; done = t.done ++ x ∷ [] }) r bus
cut_placed lane t r bus x xs p q =
    let are = subst (AllByRecursion (IsTx t.size t.capacity)) q p.deferred_are in
    let none : lane ≡ Inward → xs ≡ [] = λ i. absurd (let l : suc (length xs) ≡ 0 = ap length (sym q ∙ p.no_deferred i) in omega arith) in
    assumption (
      p,
      tx_moved p (record t { deferred = xs; done = t.done ++ x ∷ [] }) bus refl
          (λ n.
          let e : copies n (map number_of t.deferred) ≡ one_if (eqb n x.number) + copies n (map number_of xs) = ap (λ ys. copies n (map number_of ys)) q in
          let d : copies n (map number_of (t.done ++ x ∷ [])) ≡ copies n (map number_of t.done) + one_if (eqb n x.number) = copies_more n t.done x in omega arith)
          (let e : length t.deferred ≡ suc (length xs) = ap length q in
          let d : length (t.done ++ x ∷ []) ≡ length t.done + 1 = length_push t.done x in omega arith),
      are.1,
    )

cut_queues : (way : Way) (g : History) (x : Buffer) (xs : List Buffer) (c : ℕ) → Stands way g → way.tx.deferred ≡ x ∷ xs → IsNext g x.serial
    → AreQueued xs way.bus (waiting ((Cut way.lane x.serial c, []) ∷ g)) (flying ((Cut way.lane x.serial c, []) ∷ g)) (mark g) (halted g) (posts g) (recalls g) (flights g) (made g)
cut_queues way g x xs c w e next =
    let ground = grounded_is way g x xs w e in
    let none : AreMarked (mark g) (x.serial ∷ map serial_of xs) [] = subst (λ ds. AreMarked (mark g) (map serial_of ds) []) e w.queues.unmarked in
    record {
      wait = cut_waiting way.lane x.serial c g next (map serial_of xs ++ map serial_of way.bus.queue) (deferred_waits way g x xs w e);
      fly = cut_flying way.lane x.serial c g next ∙ ap flight_serial (sym ground.1);
      marked = w.queues.marked;
      unmarked = none.1;
      unmade = w.queues.unmade;
      flight_marked = w.queues.flight_marked;
      halts = w.queues.halts;
      posted = w.queues.posted;
      grounded = λ h. ground;
    }

pub cut_stands : (way : Way) (g : History) (t : Transmitter) (x : Buffer) (c : ℕ) → Stands way g → IsNextDeferred way.tx t x
    → Stands (record way { tx = record t { done = t.done ++ x ∷ [] } }) ((Cut way.lane x.serial c, []) ∷ g)
cut_stands way g t x c w d =
    let next = next_deferred_is way g x t.deferred w d.left in
    let last : x.serial ≡ ends g = next_is g w.sound (in_order g w.sound) x.serial next in
    let texts = subst (AllByRecursion (IsText (span g) (made_bytes g))) d.left w.texts.deferred_texts in
    let untried = subst (AllByRecursion (λ r. attempts g r.serial ≡ 0)) d.left w.tries.deferred_untried in
    let stands : Stands (record way { tx = record way.tx { deferred = t.deferred; done = way.tx.done ++ x ∷ [] } }) ((Cut way.lane x.serial c, []) ∷ g) = record {
      sound = (inr next, w.sound);
      placed = cut_placed way.lane way.tx way.rx way.bus x t.deferred w.placed d.left;
      building = w.building;
      queues = cut_queues way g x t.deferred c w d.left next;
      tries = record { tried = w.tries.tried; deferred_untried = untried.1; unmade_untried = w.tries.unmade_untried };
      ends = record {
        done_is = finish_plus g w.sound x.serial last next.is_made (ended ((Cut way.lane x.serial c, []) ∷ g))
            (rw (same_number x.serial) (or_true (landed g x.serial || failed g x.serial))) (λ j ne. rw (apart x.serial j ne) refl)
            ∙ (ap (λ ks. ks ++ x.serial ∷ []) w.ends.done_is ∙ sym (map_last serial_of way.tx.done x));
        arrived_is = w.ends.arrived_is;
        current_is = w.ends.current_is;
        left_is = w.ends.left_is;
      };
      counts = rw (next.is_alone x.serial) w.counts;
      texts = assumption (w.texts, texts.1);
    } in
    subst (λ (u : Transmitter). Stands (record way { tx = record u { done = u.done ++ x ∷ [] } }) ((Cut way.lane x.serial c, []) ∷ g)) (sym d.rest) stands
  where
    or_true : (a : Bool) → (a || (true || was_cut g x.serial)) ≡ true
    or_true true = refl
    or_true false = refl
