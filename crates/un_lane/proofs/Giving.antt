-- A path that has given a datagram, posted a request or cleared the halt stands for the lane with one line more.
use Rattle.std.proofs.Common.{◌≡◌, ℕ, suc, ◌+◌, ◌-◌, ◌<◌, ◌≤◌, Bool, true, false, not, ◌&&◌, ◌==◌, eqb, List, [], ◌∷◌, ◌++◌, length, map, Some, None, refl, sym, ap, ◌∙◌, subst, arith, if◌then◌else◌}
use Rattle.std.proofs.lemmas.Bool.{false≢true}
use Rattle.std.proofs.lemmas.List.{length_push}
use Rattle.un_facts.proofs.Copies.{copies_last}
use Rattle.un_facts.proofs.Lists.{all_more}
use Rattle.un_facts.specs.Lists.{copies, is_empty}
use Rattle.un_facts.specs.Numbers.{one_if}
use Rattle.un_frame.specs.declared.params.Lane.{Lane}
use Rattle.un_frame.specs.Parts.{datagram_of}
use Rattle.un_req.specs.Request.{Buffer, number_of}
use Rattle.un_endpoint.specs.Bus.{Bus}
use Rattle.un_endpoint.specs.EndOutcomes.{IsLent, Steps, LeavesHome}
use Rattle.un_endpoint.specs.Ends.{Transmitter, Receiver, Opened as Current, opened_number}
use Rattle.un_journal.specs.declared.lines.Line.{Line}
use Rattle.un_journal.specs.declared.lines.Line.TheVariants.{Gave, Posted, Cleared}
use Rattle.un_journal.specs.declared.actions.Answer.{Answer}
use Rattle.un_journal.specs.LaneSteps.{Writes, Answers, bare, clear_set, deliver_next, post}
use Rattle.un_journal.specs.Lookup.{rx_home}
use Rattle.un_journal.specs.History.{History, posts, recalls, flights, made, opened, current, serial_of as owner_of, first, span, made_bytes, left_of, row_from}
use Rattle.un_journal.specs.Sound.{IsNextNumber}
use Rattle.un_journal.proofs.ForLane.{those_first, owns_span, next_number_from, left_here, delivered_more, current_none, current_stays}
use Rattle.un_lane.specs.Way.{Way}
use Rattle.un_lane.specs.Stands.{Stands, ArePlaced, IsRx, IsText, IsLeft, CurrentIs, opened_serial}
use Rattle.un_lane.proofs.Contents.{datagram_least}
use Rattle.un_lane.proofs.Counting.{copies_more, not_zero}
use Rattle.un_lane.proofs.Placing.{rx_moved}

-- what is left of the current request
row_step : (n to' : ℕ) → n < to' → row_from n (to' - n) ≡ n ∷ row_from (n + 1) (to' - (n + 1))
row_step n to' h = ap (row_from n) (let e : to' - n ≡ suc (to' - (n + 1)) = omega arith in e)

pub record IsDue (way : Way) (g : History) (o : Current) : Type 0 where
  pub is_current : current g ≡ Some o.request.serial
  pub left : left_of g o.request.serial ≡ o.next ∷ row_from (o.next + 1) (o.request.to - (o.next + 1))
  pub within : o.next < o.request.to
  pub text : IsText (span g) (made_bytes g) o.request
  pub after : o.request.from ≤ o.next

pub due : (way : Way) (g : History) (o : Current) → Stands way g → way.rx.current ≡ Some o → IsDue way g o
due way g o w e =
    let left = subst (CurrentIs (IsLeft (left_of g))) e w.ends.left_is in
    let text = subst (CurrentIs (λ c. IsText (span g) (made_bytes g) c.request × (c.request.from ≤ c.next))) e w.texts.current_text in
    record {
      is_current = w.ends.current_is ∙ ap opened_serial e;
      left = left.numbers ∙ row_step o.next o.request.to left.some;
      within = left.some;
      text = text.0;
      after = text.1;
    }

pub deliver_writes : (way : Way) (g : History) (n : ℕ) (bytes : List ℕ) → Stands way g → IsLent way.rx n bytes
    → deliver_next way.tx.params way.lane g ≡ Writes ((Line.Gave way.lane n, bytes) ∷ [])
deliver_writes way g n bytes w lent =
    let d = due way g lent.opened w lent.is_current in
    rw (d.is_current, d.left, d.text.span_is, d.text.bytes_are)
    (ap (λ (p : ℕ × List ℕ). Writes ((Line.Gave way.lane p.0, p.1) ∷ []))
    (let e : (lent.opened.next, datagram_of way.tx.params.class lent.opened.request.bytes (lent.opened.next - lent.opened.request.from)) ≡ (n, bytes) =
    rw (lent.number_is, lent.bytes_are, w.placed.one_params) refl in e))

-- a part that is lent has bytes
pub lent_some : (way : Way) (g : History) (n : ℕ) (bytes : List ℕ) → Stands way g → IsLent way.rx n bytes → 0 < length bytes
lent_some way g n bytes w lent =
    let d = due way g lent.opened w lent.is_current in
    let from : lent.opened.request.from ≤ lent.opened.next = d.after in
    let to' : lent.opened.next < lent.opened.request.to = d.within in
    let least : 14 ≤ length (datagram_of way.tx.params.class (made_bytes g lent.opened.request.serial) (lent.opened.next - lent.opened.request.from)) =
    datagram_least way.tx.params.class (made_bytes g lent.opened.request.serial) (lent.opened.request.to - lent.opened.request.from) (lent.opened.next - lent.opened.request.from)
    (w.texts.whole lent.opened.request.serial lent.opened.request.from lent.opened.request.to d.text.span_is) (omega arith) in
    let same : length bytes ≡ length (datagram_of way.tx.params.class (made_bytes g lent.opened.request.serial) (lent.opened.next - lent.opened.request.from)) =
    ap length (lent.bytes_are ∙ (ap (λ p. datagram_of p.class lent.opened.request.bytes (lent.opened.next - lent.opened.request.from)) w.placed.one_params
    ∙ ap (λ b. datagram_of way.tx.params.class b (lent.opened.next - lent.opened.request.from)) (sym d.text.bytes_are))) in
    omega arith

-- the current request goes home
finish_placed : (lane : Lane) (t : Transmitter) (r : Receiver) (bus : Bus) (o : Current) → ArePlaced lane t r bus → r.current ≡ Some o
    → ArePlaced lane t (record r { current = None; home = r.home ++ o.request.number ∷ [] }) bus
finish_placed lane t r bus o p e = assumption (
  p,
  rx_moved p (record r { current = None; home = r.home ++ o.request.number ∷ [] }) bus refl
      (λ n.
      let h : copies n (r.home ++ o.request.number ∷ []) ≡ copies n r.home + one_if (eqb n o.request.number) = copies_last n r.home o.request.number in
      let c : copies n (opened_number r.current) ≡ one_if (eqb n o.request.number) + 0 = ap (λ x. copies n (opened_number x)) e in omega arith)
      (let h : length (r.home ++ o.request.number ∷ []) ≡ length r.home + 1 = length_push r.home o.request.number in
      let c : length (opened_number r.current) ≡ 1 = ap (λ x. length (opened_number x)) e in omega arith),
)

step_placed : (lane : Lane) (t : Transmitter) (r : Receiver) (bus : Bus) (o : Current) → ArePlaced lane t r bus → r.current ≡ Some o
    → ArePlaced lane t (record r { current = Some (record o { next = o.next + 1 }) }) bus
step_placed lane t r bus o p e = assumption (
  p,
  rx_moved p (record r { current = Some (record o { next = o.next + 1 }) }) bus refl
      (λ n. let c : copies n (opened_number r.current) ≡ one_if (eqb n o.request.number) + 0 = ap (λ x. copies n (opened_number x)) e in omega arith)
      (let c : length (opened_number r.current) ≡ 1 = ap (λ x. length (opened_number x)) e in omega arith),
)

some_same : (a b : Current) → Some a ≡ Some b → a ≡ b
some_same a b e = cc

module _ (way : Way) (g : History) (o : Current) (bytes : List ℕ) (w : Stands way g) (e : way.rx.current ≡ Some o) where
  d : IsDue way g o
  d = due way g o w e

  next : IsNextNumber g o.next
  next = next_number_from g o.request.serial o.next w.sound d.is_current (ap first d.left)

  mine : owner_of g o.next ≡ Some o.request.serial
  mine = (owns_span g w.sound o.request.serial (o.request.from, o.request.to) d.text.span_is).owns o.next d.after d.within

  was_opened : opened g o.request.serial ≡ true
  was_opened =
      let f = those_first (λ j. opened g j && not (is_empty (left_of g j))) (made g) o.request.serial d.is_current in
      left_true (opened g o.request.serial) (not (is_empty (left_of g o.request.serial))) f.passes
    where
      left_true : (a b : Bool) → (a && b) ≡ true → a ≡ true
      left_true true b e = refl
      left_true false b e = absurd (false≢true e)

  rest : List ℕ
  rest = row_from (o.next + 1) (o.request.to - (o.next + 1))

  left_now : left_of ((Gave way.lane o.next, bytes) ∷ g) o.request.serial ≡ row_from (o.next + 1) (o.request.to - (o.next + 1))
  left_now = left_here way.lane o.next o.request.serial bytes g w.sound mine (row_from (o.next + 1) (o.request.to - (o.next + 1))) d.left

  pub step_stands : o.next + 1 < o.request.to → Stands (record way { rx = record way.rx { current = Some (record o { next = o.next + 1 }) } }) ((Gave way.lane o.next, bytes) ∷ g)
  step_stands h =
      let row : row_from (o.next + 1) (o.request.to - (o.next + 1)) ≡ (o.next + 1) ∷ row_from (o.next + 1 + 1) (o.request.to - (o.next + 1 + 1)) = row_step (o.next + 1) o.request.to h in
      let left : left_of g o.request.serial ≡ o.next ∷ (o.next + 1) ∷ row_from (o.next + 1 + 1) (o.request.to - (o.next + 1 + 1)) = d.left ∙ ap (λ xs. o.next ∷ xs) row in
      record {
        sound = (next, w.sound);
        placed = step_placed way.lane way.tx way.rx way.bus o w.placed e;
        building = w.building;
        queues = w.queues;
        tries = assumption w.tries;
        ends = record {
          done_is = w.ends.done_is;
          arrived_is = w.ends.arrived_is;
          current_is = current_stays way.lane o.next o.request.serial bytes g w.sound mine (o.next + 1) (row_from (o.next + 1 + 1) (o.request.to - (o.next + 1 + 1))) was_opened next.is_left left;
          left_is = record { numbers = left_now; some = h };
        };
        counts = rw (delivered_more way.lane o.next o.request.serial bytes g w.sound mine ((o.next + 1) ∷ row_from (o.next + 1 + 1) (o.request.to - (o.next + 1 + 1))) was_opened left) (record {
          tx = w.counts.tx;
          rx = let s = w.counts.rx in omega (arith, s);
        });
        texts = record {
          deferred_texts = w.texts.deferred_texts;
          queued_texts = w.texts.queued_texts;
          arrived_texts = w.texts.arrived_texts;
          current_text = (d.text, let a : o.request.from ≤ o.next = d.after in omega arith);
          flight_span = w.texts.flight_span;
          some = w.texts.some;
          whole = w.texts.whole;
        };
      }

  pub finish_stands : o.next + 1 ≡ o.request.to → Stands (record way { rx = record way.rx { current = None; home = way.rx.home ++ o.request.number ∷ [] } }) ((Gave way.lane o.next, bytes) ∷ g)
  finish_stands h =
      let row : row_from (o.next + 1) (o.request.to - (o.next + 1)) ≡ [] = ap (row_from (o.next + 1)) (let z : o.request.to - (o.next + 1) ≡ 0 = omega arith in z) in
      let left : left_of g o.request.serial ≡ o.next ∷ [] = d.left ∙ ap (λ xs. o.next ∷ xs) row in
      record {
        sound = (next, w.sound);
        placed = finish_placed way.lane way.tx way.rx way.bus o w.placed e;
        building = w.building;
        queues = w.queues;
        tries = assumption w.tries;
        ends = record {
          done_is = w.ends.done_is;
          arrived_is = w.ends.arrived_is;
          current_is = current_none way.lane o.next o.request.serial bytes g w.sound mine was_opened next.is_left left;
          left_is = tt;
        };
        counts = rw (delivered_more way.lane o.next o.request.serial bytes g w.sound mine [] was_opened left) (record {
          tx = w.counts.tx;
          rx = let l : length (way.rx.home ++ o.request.number ∷ []) ≡ length way.rx.home + 1 = length_push way.rx.home o.request.number in
              let s = w.counts.rx in omega (arith, s);
        });
        texts = assumption w.texts;
      }

pub deliver_stands : (way : Way) (g : History) (n : ℕ) (bytes : List ℕ) (r : Receiver) (b : Bool) → Stands way g → IsLent way.rx n bytes → Steps way.rx r b
    → Stands (record way { rx = r }) ((Gave way.lane n, bytes) ∷ g)
deliver_stands way g n bytes r false w lent s =
    let same : lent.opened ≡ s.0 = some_same lent.opened s.0 (sym lent.is_current ∙ s.1.was) in
    rw (lent.number_is, same, s.1.rest) (step_stands way g s.0 bytes w s.1.was s.1.more)
deliver_stands way g n bytes r true w lent s =
    let same : lent.opened ≡ s.0 = some_same lent.opened s.0 (sym lent.is_current ∙ s.1.was) in
    rw (lent.number_is, same, s.1.rest) (finish_stands way g s.0 bytes w s.1.was s.1.last)

-- POSTING

post_placed : (lane : Lane) (t : Transmitter) (r : Receiver) (bus : Bus) (x : Buffer) (home' : List ℕ) → ArePlaced lane t r bus → r.home ≡ home' ++ x.number ∷ [] → x.number < r.size → x.capacity ≡ r.capacity
    → ArePlaced lane t (record r { home = home' }) (record bus { posted = bus.posted ++ x ∷ [] })
post_placed lane t r bus x home' p q known sized = assumption (
  p,
  rx_moved p (record r { home = home' }) (record bus { posted = bus.posted ++ x ∷ [] }) refl
      (λ n.
      let h : copies n r.home ≡ copies n home' + one_if (eqb n x.number) = ap (copies n) q ∙ copies_last n home' x.number in
      let o : copies n (map number_of (bus.posted ++ x ∷ [])) ≡ copies n (map number_of bus.posted) + one_if (eqb n x.number) = copies_more n bus.posted x in omega arith)
      (let h : length r.home ≡ length home' + 1 = ap length q ∙ length_push home' x.number in
      let o : length (bus.posted ++ x ∷ []) ≡ length bus.posted + 1 = length_push bus.posted x in omega arith),
  all_more (IsRx r.size r.capacity) bus.posted x p.posted_are (record { known = known; sized = sized }),
)

pub post_is : (way : Way) (g : History) → Stands way g → post way.tx.params way.lane g ≡ (if length way.rx.home == 0 then Answers Answer.Nothing else Writes (bare (Posted way.lane) ∷ []))
post_is way g w =
    let home : rx_home way.tx.params way.lane g ≡ length way.rx.home = let s = w.counts.rx in omega (arith, s) in
    ap (λ n. if n == 0 then Answers Answer.Nothing else Writes (bare (Posted way.lane) ∷ [])) home

pub post_writes : (way : Way) (g : History) (r : Receiver) (x : Buffer) → Stands way g → LeavesHome way.rx r x → post way.tx.params way.lane g ≡ Writes (bare (Posted way.lane) ∷ [])
post_writes way g r x w l =
    let more : length way.rx.home ≡ length r.home + 1 = ap length l.left ∙ length_push r.home x.number in
    post_is way g w ∙ ap (λ b. if b then Answers Answer.Nothing else Writes (bare (Posted way.lane) ∷ [])) (not_zero (length way.rx.home) (omega arith))

pub post_stands : (way : Way) (g : History) (r : Receiver) (bus' : Bus) (x : Buffer) → Stands way g → LeavesHome way.rx r x → bus' ≡ record way.bus { posted = way.bus.posted ++ x ∷ [] }
    → Stands (record way { rx = r; bus = bus' }) ((Posted way.lane, []) ∷ g)
post_stands way g r bus' x w l b =
    let posted : recalls g + flights g + length (way.bus.posted ++ x ∷ []) ≡ posts g + 1 = let o : length (way.bus.posted ++ x ∷ []) ≡ length way.bus.posted + 1 = length_push way.bus.posted x in let s = w.queues.posted in omega (arith, s) in
    let stands : Stands (record way { rx = record way.rx { home = r.home }; bus = record way.bus { posted = way.bus.posted ++ x ∷ [] } }) ((Posted way.lane, []) ∷ g) = record {
      sound = (tt, w.sound);
      placed = post_placed way.lane way.tx way.rx way.bus x r.home w.placed l.left l.known (ap (λ y. y.capacity) l.empty);
      building = w.building;
      queues = assumption (w.queues, posted);
      tries = assumption w.tries;
      ends = w.ends;
      counts = record {
        tx = w.counts.tx;
        rx = let h : length way.rx.home ≡ length r.home + 1 = ap length l.left ∙ length_push r.home x.number in let s = w.counts.rx in omega (arith, s);
      };
      texts = w.texts;
    } in
    rw b (subst (λ y. Stands (record way { rx = y; bus = record way.bus { posted = way.bus.posted ++ x ∷ [] } }) ((Posted way.lane, []) ∷ g)) (sym l.rest) stands)

-- CLEARING

pub clear_is : (way : Way) (g : History) (b : Bool) → Stands way g → way.bus.halted ≡ b → clear_set way.lane g ≡ (if b then Writes (bare (Cleared way.lane) ∷ []) else Answers Answer.Nothing)
clear_is way g b w e = ap (λ b. if b then Writes (bare (Cleared way.lane) ∷ []) else Answers Answer.Nothing) (w.queues.halts ∙ e)

pub clear_stands : (way : Way) (g : History) → Stands way g → Stands (record way { bus = record way.bus { halted = false } }) ((Cleared way.lane, []) ∷ g)
clear_stands way g w = assumption
