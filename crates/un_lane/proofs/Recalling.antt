-- A path whose first posted request came home stands for the lane with one line more.
use Rattle.std.proofs.Common.{◌≡◌, ◌+◌, eqb, [], ◌∷◌, ◌++◌, length, refl, subst, arith}
use Rattle.std.proofs.lemmas.List.{length_push}
use Rattle.un_facts.proofs.Copies.{copies_last}
use Rattle.un_facts.specs.Lists.{copies}
use Rattle.un_facts.specs.Numbers.{one_if}
use Rattle.un_frame.specs.declared.params.Lane.{Lane}
use Rattle.un_req.specs.Request.{Buffer}
use Rattle.un_endpoint.specs.Bus.{Bus}
use Rattle.un_endpoint.specs.Ends.{Transmitter, Receiver}
use Rattle.un_journal.specs.declared.lines.Line.TheVariants.{Recalled}
use Rattle.un_journal.specs.History.{History, posts, recalls, flights}
use Rattle.un_lane.specs.Way.{Way}
use Rattle.un_lane.specs.Stands.{Stands, ArePlaced}
use Rattle.un_lane.proofs.Placing.{rx_moved}

recall_placed : (lane : Lane) (t : Transmitter) (r : Receiver) (bus : Bus) (x : Buffer) → ArePlaced lane t r (record bus { posted = x ∷ bus.posted })
    → ArePlaced lane t (record r { home = r.home ++ x.number ∷ [] }) bus
recall_placed lane t r bus x p = assumption (
  p,
  rx_moved p (record r { home = r.home ++ x.number ∷ [] }) bus refl
      (λ n. let h : copies n (r.home ++ x.number ∷ []) ≡ copies n r.home + one_if (eqb n x.number) = copies_last n r.home x.number in omega arith)
      (let h : length (r.home ++ x.number ∷ []) ≡ length r.home + 1 = length_push r.home x.number in omega arith),
  p.posted_are.1,
)

pub recall_stands : (way : Way) (g : History) (bus' : Bus) (x : Buffer) → Stands way g → way.bus ≡ record bus' { posted = x ∷ bus'.posted }
    → Stands (record way { rx = record way.rx { home = way.rx.home ++ x.number ∷ [] }; bus = bus' }) ((Recalled way.lane, []) ∷ g)
recall_stands way g bus' x w' e =
    let w : Stands (record way { bus = record bus' { posted = x ∷ bus'.posted } }) g = subst (λ (b : Bus). Stands (record way { bus = b }) g) e w' in
    let posted : recalls g + 1 + flights g + length bus'.posted ≡ posts g = let s = w.queues.posted in omega (arith, s) in
    record {
      sound = (tt, w.sound);
      placed = recall_placed way.lane way.tx way.rx bus' x w.placed;
      building = w.building;
      queues = assumption (w.queues, posted);
      tries = assumption w.tries;
      ends = w.ends;
      counts = record {
        tx = w.counts.tx;
        rx = let h : length (way.rx.home ++ x.number ∷ []) ≡ length way.rx.home + 1 = length_push way.rx.home x.number in let s = w.counts.rx in omega (arith, s);
      };
      texts = w.texts;
    }
