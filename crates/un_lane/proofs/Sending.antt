-- A path that has made a transfer and sent it stands for the lane with its made line.
use Rattle.std.proofs.Common.{◌≡◌, ℕ, ◌+◌, ◌-◌, ◌<◌, ◌≤◌, eqb, List, [], ◌∷◌, ◌++◌, length, map, None, option_to_list, refl, sym, ◌∙◌, arith}
use Rattle.std.proofs.lemmas.List.{length_push}
use Rattle.un_frame.specs.Lanes.{tx_size, rx_size}
use Rattle.un_facts.proofs.Lists.{all_more}
use Rattle.un_facts.proofs.Numbers.{one_here}
use Rattle.un_facts.specs.Lists.{copies}
use Rattle.un_facts.specs.Numbers.{one_if}
use Rattle.un_frame.specs.declared.params.Lane.{Lane}
use Rattle.un_frame.specs.declared.params.Lane.TheVariants.{Outward, Inward}
use Rattle.un_frame.specs.Parts.{ReadsAs}
use Rattle.un_req.specs.Request.{Buffer, number_of}
use Rattle.un_endpoint.specs.Bus.{Bus}
use Rattle.un_endpoint.specs.Ends.{Builder, Transmitter, Receiver, IsAwayTx}
use Rattle.un_journal.specs.declared.lines.Line.TheVariants.{Made}
use Rattle.un_journal.specs.Sound.{IsSound, IsNextSpan}
use Rattle.un_journal.specs.History.{History, made, returned, waiting, flying, mark, halted, attempts, posts, recalls, flights, failures, retries, flight_cuts, arrived, current, delivered, left_of, span, made_bytes}
use Rattle.un_lane.specs.Stands.{ArePlaced, AreQueued, AreAttempts, AreAtEnds, AreCounted, AreTexts, IsTx, finished, flight_tx}
use Rattle.un_lane.proofs.Counting.{copies_more}
use Rattle.un_lane.proofs.Making.{made_ends, made_queued, made_deferred, made_texts, new_text, delivered_same}
use Rattle.un_lane.proofs.Placing.{tx_moved}
use Rattle.un_lane.proofs.Trying.{queued_tries, deferred_tries}

-- what a path stands for, but for what is built
pub record StandsBut (lane : Lane) (t : Transmitter) (r : Receiver) (bus : Bus) (g : History) : Type 0 where
  pub sound : IsSound g
  pub placed : ArePlaced lane t r bus
  pub queues : AreQueued t.deferred bus (waiting g) (flying g) (mark g) (halted g) (posts g) (recalls g) (flights g) (made g)
  pub tries : AreAttempts t.deferred bus (attempts g) (made g)
  pub ends : AreAtEnds t.done r.arrived r.current (finished g) (arrived g) (current g) (left_of g)
  pub counts : AreCounted (tx_size t.params lane) (rx_size t.params lane) (length t.home) (length r.home) (length (option_to_list t.builder.claim)) (made g) (returned g) (posts g) (recalls g) (failures g) (retries g) (flight_cuts g) (length (delivered g))
  pub texts : AreTexts t.params.class t.deferred bus.queue r.arrived r.current bus.flight (span g) (made_bytes g)

-- a request that was used to make a transfer
pub record IsNew (old : Transmitter) (home' : List ℕ) (builder' : Builder) (g : History) (x : Buffer) : Type 0 where
  pub once : (m : ℕ) → copies m old.home + copies m (option_to_list old.builder.claim) ≡ copies m home' + copies m (option_to_list builder'.claim) + one_if (eqb m x.number)
  pub count : length old.home + length (option_to_list old.builder.claim) ≡ length home' + length (option_to_list builder'.claim) + 1
  pub known : x.number < old.size
  pub sized : x.capacity ≡ old.capacity
  pub short : length x.bytes ≤ old.capacity
  pub serial_is : x.serial ≡ made g
  pub next : IsNextSpan g x.from x.to
  pub reads : ReadsAs old.params.class x.bytes (x.to - x.from)

-- a claimed request belongs to the pool, as does one from home
pub new_away : (lane : Lane) (t : Transmitter) (r : Receiver) (bus : Bus) (home' : List ℕ) (builder' : Builder) (g : History) (x : Buffer) → ArePlaced lane t r bus → IsNew t home' builder' g x
    → IsAwayTx (record t { home = home'; builder = builder' }) x
new_away lane t r bus home' builder' g x p n = record {
  known = n.known;
  sized = n.sized;
  away =
      let e : copies x.number t.home + copies x.number (option_to_list t.builder.claim) ≡ copies x.number home' + copies x.number (option_to_list builder'.claim) + one_if (eqb x.number x.number) = n.once x.number in
      let o : one_if (eqb x.number x.number) ≡ 1 = one_here x.number in
      let w : copies x.number t.home + copies x.number (option_to_list t.builder.claim) + copies x.number (map number_of t.deferred) + copies x.number (map number_of t.done) + (copies x.number (map number_of bus.queue) + copies x.number (flight_tx bus.flight)) ≤ 1 = p.tx_once x.number in omega arith;
}

pub queue_room : (lane : Lane) (t : Transmitter) (r : Receiver) (bus : Bus) (home' : List ℕ) (builder' : Builder) (g : History) (x : Buffer) → ArePlaced lane t r bus → IsNew t home' builder' g x
    → (length bus.queue < bus.tx_room) × (length x.bytes ≤ bus.largest)
queue_room lane t r bus home' builder' g x p n =
    let e : length t.home + length (option_to_list t.builder.claim) ≡ length home' + length (option_to_list builder'.claim) + 1 = n.count in
    let a : length t.home + length (option_to_list t.builder.claim) + length t.deferred + length t.done + length bus.queue + length (flight_tx bus.flight) ≡ t.size = p.tx_all in
    let room : bus.tx_room ≡ t.size = p.tx_room_is in
    let largest : bus.largest ≡ t.capacity = p.largest_is in
    let short : length x.bytes ≤ t.capacity = n.short in
    (omega arith, omega arith)

queued_placed : (lane : Lane) (t : Transmitter) (r : Receiver) (bus : Bus) (home' : List ℕ) (builder' : Builder) (g : History) (x : Buffer) → ArePlaced lane t r bus → IsNew t home' builder' g x
    → ArePlaced lane (record t { home = home'; builder = builder' }) r (record bus { queue = bus.queue ++ x ∷ [] })
queued_placed lane t r bus home' builder' g x p n = assumption (
  p,
  tx_moved p (record t { home = home'; builder = builder' }) (record bus { queue = bus.queue ++ x ∷ [] }) refl
      (λ m.
      let e : copies m t.home + copies m (option_to_list t.builder.claim) ≡ copies m home' + copies m (option_to_list builder'.claim) + one_if (eqb m x.number) = n.once m in
      let q : copies m (map number_of (bus.queue ++ x ∷ [])) ≡ copies m (map number_of bus.queue) + one_if (eqb m x.number) = copies_more m bus.queue x in omega arith)
      (let e : length t.home + length (option_to_list t.builder.claim) ≡ length home' + length (option_to_list builder'.claim) + 1 = n.count in
      let q : length (bus.queue ++ x ∷ []) ≡ length bus.queue + 1 = length_push bus.queue x in omega arith),
  all_more (IsTx t.size t.capacity) bus.queue x p.queued_are (record { known = n.known; sized = n.sized; short = n.short }),
)

outward_only : Outward ≡ Inward → ⊥
outward_only e = cc

deferred_placed : (lane : Lane) (t : Transmitter) (r : Receiver) (bus : Bus) (home' : List ℕ) (builder' : Builder) (g : History) (x : Buffer) → ArePlaced lane t r bus → IsNew t home' builder' g x → lane ≡ Outward
    → ArePlaced lane (record t { home = home'; builder = builder'; deferred = t.deferred ++ x ∷ [] }) r bus
deferred_placed lane t r bus home' builder' g x p n out =
    let none : lane ≡ Inward → t.deferred ++ x ∷ [] ≡ [] = λ i. absurd (outward_only (sym out ∙ i)) in
    assumption (
      p,
      tx_moved p (record t { home = home'; builder = builder'; deferred = t.deferred ++ x ∷ [] }) bus refl
          (λ m.
          let e : copies m t.home + copies m (option_to_list t.builder.claim) ≡ copies m home' + copies m (option_to_list builder'.claim) + one_if (eqb m x.number) = n.once m in
          let q : copies m (map number_of (t.deferred ++ x ∷ [])) ≡ copies m (map number_of t.deferred) + one_if (eqb m x.number) = copies_more m t.deferred x in omega arith)
          (let e : length t.home + length (option_to_list t.builder.claim) ≡ length home' + length (option_to_list builder'.claim) + 1 = n.count in
          let q : length (t.deferred ++ x ∷ []) ≡ length t.deferred + 1 = length_push t.deferred x in omega arith),
      all_more (IsTx t.size t.capacity) t.deferred x p.deferred_are (record { known = n.known; sized = n.sized; short = n.short }),
    )

abbrev line : Lane → History → Buffer → History
line lane g x = (Made lane (made g) x.from x.to, x.bytes) ∷ g

counts_after : (lane : Lane) (t : Transmitter) (r : Receiver) (bus : Bus) (home' : List ℕ) (builder' : Builder) (g : History) (x : Buffer) → StandsBut lane t r bus g → IsNew t home' builder' g x
    → AreCounted (tx_size t.params lane) (rx_size t.params lane) (length home') (length r.home) (length (option_to_list builder'.claim)) (made g + 1) (returned g) (posts g) (recalls g) (failures g) (retries g) (flight_cuts g) (length (delivered ((Made lane (made g) x.from x.to, x.bytes) ∷ g)))
counts_after lane t r bus home' builder' g x w n = rw (delivered_same lane x.from x.to x.bytes g w.sound) (record {
  tx = let e : length t.home + length (option_to_list t.builder.claim) ≡ length home' + length (option_to_list builder'.claim) + 1 = n.count in let s = w.counts.tx in omega (arith, s);
  rx = w.counts.rx;
})

-- queued
pub queue_stands : (lane : Lane) (t : Transmitter) (r : Receiver) (bus : Bus) (home' : List ℕ) (builder' : Builder) (g : History) (x : Buffer) → StandsBut lane t r bus g → IsNew t home' builder' g x → t.deferred ≡ []
    → StandsBut lane (record t { home = home'; builder = builder' }) r (record bus { queue = bus.queue ++ x ∷ [] }) ((Made lane (made g) x.from x.to, x.bytes) ∷ g)
queue_stands lane t r bus home' builder' g x w n none =
    let texts = made_texts lane x.from x.to x.bytes g w.sound t.params.class t.deferred bus.queue r.arrived r.current bus.flight n.next.is_some n.reads w.texts in
    record {
      sound = ((refl, n.next), w.sound);
      placed = queued_placed lane t r bus home' builder' g x w.placed n;
      queues = made_queued lane x.from x.to x.bytes g w.sound t.deferred bus x n.serial_is none w.queues;
      tries = queued_tries t.deferred bus x (attempts g) (made g) n.serial_is w.tries;
      ends = made_ends lane x.from x.to x.bytes g w.sound t.done r.arrived r.current w.ends;
      counts = counts_after lane t r bus home' builder' g x w n;
      texts = assumption (texts, all_more _ bus.queue x texts.queued_texts (new_text lane x.from x.to x.bytes g w.sound x n.serial_is refl refl refl));
    }

-- deferred
pub defer_stands : (lane : Lane) (t : Transmitter) (r : Receiver) (bus : Bus) (home' : List ℕ) (builder' : Builder) (g : History) (x : Buffer) → StandsBut lane t r bus g → IsNew t home' builder' g x → bus.queue ≡ [] → bus.flight ≡ None → lane ≡ Outward
    → StandsBut lane (record t { home = home'; builder = builder'; deferred = t.deferred ++ x ∷ [] }) r bus ((Made lane (made g) x.from x.to, x.bytes) ∷ g)
defer_stands lane t r bus home' builder' g x w n none no_flight out =
    let texts = made_texts lane x.from x.to x.bytes g w.sound t.params.class t.deferred bus.queue r.arrived r.current bus.flight n.next.is_some n.reads w.texts in
    record {
      sound = ((refl, n.next), w.sound);
      placed = deferred_placed lane t r bus home' builder' g x w.placed n out;
      queues = made_deferred lane x.from x.to x.bytes g w.sound t.deferred bus x n.serial_is none no_flight w.queues;
      tries = deferred_tries t.deferred bus x (attempts g) (made g) n.serial_is w.tries;
      ends = made_ends lane x.from x.to x.bytes g w.sound t.done r.arrived r.current w.ends;
      counts = counts_after lane t r bus home' builder' g x w n;
      texts = assumption (texts, all_more _ t.deferred x texts.deferred_texts (new_text lane x.from x.to x.bytes g w.sound x n.serial_is refl refl refl));
    }
