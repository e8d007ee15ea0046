-- A path whose deferred transfers were queued stands for the lines that it stood for.
use Rattle.std.proofs.Common.{◌≡◌, ℕ, suc, ◌+◌, ◌<◌, ◌≤◌, eqb, List, [], ◌∷◌, ◌++◌, length, map, option_to_list, refl, sym, ap, ◌∙◌, subst, arith, append-nil, append_assoc, Bool, Option}
use Rattle.std.specs.List.{AllByRecursion}
use Rattle.std.proofs.lemmas.List.{length_push}
use Rattle.un_facts.proofs.Lists.{all_more}
use Rattle.un_facts.specs.Lists.{copies}
use Rattle.un_facts.specs.Numbers.{one_if}
use Rattle.un_frame.specs.declared.params.Lane.{Lane}
use Rattle.un_frame.specs.declared.params.Lane.TheVariants.{Inward}
use Rattle.un_req.specs.Request.{Buffer, number_of}
use Rattle.un_endpoint.specs.Bus.{Bus}
use Rattle.un_endpoint.specs.Ends.{Transmitter, Receiver}
use Rattle.un_journal.specs.History.{History}
use Rattle.un_lane.specs.Way.{Way}
use Rattle.un_lane.specs.Controls.{resumed, QueuesFirst}
use Rattle.un_lane.specs.Stands.{Stands, ArePlaced, AreQueued, AreMarked, IsTx, serial_of, flight_tx}
use Rattle.un_lane.proofs.Counting.{copies_more}
use Rattle.un_lane.proofs.Placing.{tx_moved}
use Rattle.un_lane.proofs.Trying.{resumed_tries}

pub queue_placed : (lane : Lane) (t : Transmitter) (r : Receiver) (bus : Bus) (x : Buffer) (xs : List Buffer) → ArePlaced lane t r bus → t.deferred ≡ x ∷ xs
    → ArePlaced lane (record t { deferred = xs }) r (record bus { queue = bus.queue ++ x ∷ [] })
queue_placed lane t r bus x xs p q =
    let are = subst (AllByRecursion (IsTx t.size t.capacity)) q p.deferred_are in
    let none : lane ≡ Inward → xs ≡ [] = λ i. absurd (let l : suc (length xs) ≡ 0 = ap length (sym q ∙ p.no_deferred i) in omega arith) in
    assumption (
      p,
      tx_moved p (record t { deferred = xs }) (record bus { queue = bus.queue ++ x ∷ [] }) refl
          (λ n.
          let e : copies n (map number_of t.deferred) ≡ one_if (eqb n x.number) + copies n (map number_of xs) = ap (λ ys. copies n (map number_of ys)) q in
          let d : copies n (map number_of (bus.queue ++ x ∷ [])) ≡ copies n (map number_of bus.queue) + one_if (eqb n x.number) = copies_more n bus.queue x in omega arith)
          (let e : length t.deferred ≡ suc (length xs) = ap length q in
          let d : length (bus.queue ++ x ∷ []) ≡ length bus.queue + 1 = length_push bus.queue x in omega arith),
      are.1,
      all_more (IsTx t.size t.capacity) bus.queue x p.queued_are are.0,
    )

-- the queue has room for a deferred transfer, which isn't too long
pub queue_can : (lane : Lane) (t : Transmitter) (r : Receiver) (bus : Bus) (x : Buffer) (xs : List Buffer) → ArePlaced lane t r bus → t.deferred ≡ x ∷ xs
    → (length bus.queue < bus.tx_room) × (length x.bytes ≤ bus.largest)
queue_can lane t r bus x xs p q =
    let are = subst (AllByRecursion (IsTx t.size t.capacity)) q p.deferred_are in
    let e : length t.deferred ≡ suc (length xs) = ap length q in
    let w : length t.home + length (option_to_list t.builder.claim) + length t.deferred + length t.done + length bus.queue + length (flight_tx bus.flight) ≡ t.size = p.tx_all in
    let room : bus.tx_room ≡ t.size = p.tx_room_is in
    let largest : bus.largest ≡ t.capacity = p.largest_is in
    let short : length x.bytes ≤ t.capacity = are.0.short in
    (omega arith, omega arith)

pub first_placed : (old new : Way) → ArePlaced old.lane old.tx old.rx old.bus → QueuesFirst old new → ArePlaced new.lane new.tx new.rx new.bus
first_placed old new p q =
    subst (λ (w : Way). ArePlaced w.lane w.tx w.rx w.bus) (sym q.rest) (queue_placed old.lane old.tx old.rx old.bus q.request new.tx.deferred p q.left)

pub first_same : (old new : Way) → QueuesFirst old new → resumed new ≡ resumed old
first_same old new q =
    ap resumed q.rest ∙ ap (λ (xs : List Buffer). record old { tx = record old.tx { deferred = [] }; bus = record old.bus { queue = xs } })
    (append_assoc old.bus.queue (q.request ∷ []) new.tx.deferred ∙ ap (λ xs. old.bus.queue ++ xs) (sym q.left))

pub last_same : (way : Way) → way.tx.deferred ≡ [] → resumed way ≡ way
last_same way e =
    ap (λ (xs : List Buffer). record way { tx = record way.tx { deferred = [] }; bus = record way.bus { queue = way.bus.queue ++ xs } }) e
    ∙ (ap (λ (xs : List Buffer). record way { tx = record way.tx { deferred = [] }; bus = record way.bus { queue = xs } }) (append-nil way.bus.queue)
    ∙ ap (λ (xs : List Buffer). record way { tx = record way.tx { deferred = xs } }) (sym e))

-- the same by the way's parts: a queue of deferred transfers alone
all_placed : (lane : Lane) (t : Transmitter) (r : Receiver) (bus : Bus) (xs : List Buffer) → ArePlaced lane (record t { deferred = xs }) r bus
    → ArePlaced lane (record t { deferred = [] }) r (record bus { queue = bus.queue ++ xs })
all_placed lane t r bus [] p = subst (λ (q : List Buffer). ArePlaced lane (record t { deferred = [] }) r (record bus { queue = q })) (sym (append-nil bus.queue)) p
all_placed lane t r bus (x ∷ xs) p =
    subst (λ (q : List Buffer). ArePlaced lane (record t { deferred = [] }) r (record bus { queue = q })) (append_assoc bus.queue (x ∷ []) xs)
    (all_placed lane t r (record bus { queue = bus.queue ++ x ∷ [] }) xs (queue_placed lane (record t { deferred = x ∷ xs }) r bus x xs p refl))

no_marks : (m : ℕ → Option ℕ) (cs : List ℕ) → AreMarked m [] cs → cs ≡ []
no_marks m cs a = a

resumed_queues : (deferred : List Buffer) (bus : Bus) (waiting' flying' : List ℕ) (m : ℕ → Option ℕ) (halted' : Bool) (p r f n : ℕ) → AreQueued deferred bus waiting' flying' m halted' p r f n
    → AreQueued [] (record bus { queue = bus.queue ++ deferred }) waiting' flying' m halted' p r f n
resumed_queues [] bus waiting' flying' m halted' p r f n w =
    subst (λ (q : List Buffer). AreQueued [] (record bus { queue = q }) waiting' flying' m halted' p r f n) (sym (append-nil bus.queue)) (assumption w)
resumed_queues (x ∷ xs) bus waiting' flying' m halted' p r f n w =
    let ground = w.grounded (omega arith) in
    let same : bus.queue ++ (x ∷ xs) ≡ x ∷ xs = ap (λ q. q ++ (x ∷ xs)) ground.0 in
    let none : bus.marks ≡ [] = subst (λ (q : List Buffer). AreMarked m (map serial_of q) bus.marks) ground.0 w.marked in
    subst (λ (q : List Buffer). AreQueued [] (record bus { queue = q }) waiting' flying' m halted' p r f n) (sym same) (record {
      wait = w.wait ∙ (ap (λ q. map serial_of (x ∷ xs) ++ map serial_of q) ground.0 ∙ append-nil (map serial_of (x ∷ xs)));
      fly = w.fly;
      marked = subst (AreMarked m (map serial_of (x ∷ xs))) (sym none) w.unmarked;
      unmarked = refl;
      unmade = w.unmade;
      flight_marked = w.flight_marked;
      halts = w.halts;
      posted = w.posted;
      grounded = λ h. absurd (omega arith);
    })

all_joined : (P : Buffer → Type 0) (xs ys : List Buffer) → AllByRecursion P xs → AllByRecursion P ys → AllByRecursion P (xs ++ ys)
all_joined P [] ys a b = b
all_joined P (x ∷ xs) ys a b = (a.0, all_joined P xs ys a.1 b)

pub resumed_stands : (way : Way) (g : History) → Stands way g → Stands (resumed way) g
resumed_stands way g w = record {
  sound = w.sound;
  placed = all_placed way.lane way.tx way.rx way.bus way.tx.deferred w.placed;
  building = w.building;
  queues = resumed_queues way.tx.deferred way.bus _ _ _ _ _ _ _ _ w.queues;
  tries = resumed_tries way.tx.deferred way.bus _ _ w.tries;
  ends = w.ends;
  counts = w.counts;
  texts = assumption (w.texts, all_joined _ way.bus.queue way.tx.deferred w.texts.queued_texts w.texts.deferred_texts);
}
