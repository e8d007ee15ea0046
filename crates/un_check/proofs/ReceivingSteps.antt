-- What each step of a receiving end would write, and that such a line is this end's next.
use Rattle.std.proofs.Common.{◌≡◌, ℕ, ◌+◌, ◌-◌, ◌<◌, Bool, true, false, ◌==◌, List, [], ◌∷◌, Option, Some, None, refl, sym, ap, ◌∙◌, subst, arith, if◌then◌else◌}
use Rattle.std.specs.Option.{option_map}
use Rattle.std.proofs.lemmas.Bool.Decides.{nat_tests}
use Rattle.std.proofs.lemmas.Option.{same_Some, none-some}
use Rattle.un_frame.specs.declared.params.Lane.{Lane}
use Rattle.un_frame.specs.declared.params.Params.{Params}
use Rattle.un_journal.specs.declared.lines.Line.{Line}
use Rattle.un_journal.specs.declared.lines.Line.TheVariants.{Posted, Opened, Gave}
use Rattle.un_journal.specs.declared.actions.Answer.{Answer}
use Rattle.un_journal.specs.History.{History, current, left_of, arrived, posts, recalls, flights, posted, first}
use Rattle.un_journal.specs.Lookup.{rx_home, rx_back}
use Rattle.un_journal.specs.LaneSteps.{Writes, Answers, bare, rx_done, open_first, deliver_next, post}
use Rattle.un_journal.specs.Sound.{IsSound, IsFirstArrived, IsNextNumber}
use Rattle.un_journal.proofs.ForLane.{arrived_from, next_number_from}
use Rattle.un_check.specs.Says.{Says}
use Rattle.un_check.specs.declared.reading.Reading.{Reading}
use Rattle.un_check.specs.Receiving.{Receiving, IsOf, IsLeft, ReadingIs, serial_in}
use Rattle.un_check.specs.ReceivingLines.{GoesOn, opens, rx_done_line, deliver_number, deliver_entry, next_in, post_line}
use Rattle.un_check.proofs.ReceivingLists.{row_some}

-- OPENING

opens_says : (lane : Lane) (ks : List ℕ) → Says (option_map bare (opens lane (first ks))) (open_first lane ks)
opens_says lane [] = refl
opens_says lane (k ∷ ks) = refl

rx_done_at_says : (lane : Lane) (g : History) (r : Receiving) (o : Option Reading) → current g ≡ serial_in o → arrived g ≡ r.landed → Says (option_map bare (rx_done_line lane r o)) (rx_done lane g)
rx_done_at_says lane g r None now arr = rw (now, arr) (opens_says lane r.landed)
rx_done_at_says lane g r (Some o) now arr = rw now refl

pub rx_done_says : (params : Params) (lane : Lane) (g : History) (r : Receiving) → IsOf params lane g r → Says (option_map bare (rx_done_line lane r r.reading)) (rx_done lane g)
rx_done_says params lane g r w = rx_done_at_says lane g r r.reading w.reading_is w.landed_is

opens_goes : (lane : Lane) (r : Receiving) (line : Line) (f : Option ℕ) → first r.landed ≡ f → r.reading ≡ None → opens lane f ≡ Some line → GoesOn line r
opens_goes lane r line None is none e = absurd (none-some line e)
opens_goes lane r line (Some k) is none e = subst (λ l. GoesOn l r) (same_Some (Opened lane k) line e) (is, none)

rx_done_at_goes : (lane : Lane) (r : Receiving) (line : Line) (o : Option Reading) → r.reading ≡ o → rx_done_line lane r o ≡ Some line → GoesOn line r
rx_done_at_goes lane r line None is e = opens_goes lane r line (first r.landed) refl is e
rx_done_at_goes lane r line (Some o) is e = absurd (none-some line e)

pub rx_done_goes : (lane : Lane) (r : Receiving) (line : Line) → rx_done_line lane r r.reading ≡ Some line → GoesOn line r
rx_done_goes lane r line e = rx_done_at_goes lane r line r.reading refl e

-- DELIVERING

deliver_at_says : (params : Params) (lane : Lane) (g : History) (o : Option Reading) → current g ≡ serial_in o → ReadingIs (IsLeft (left_of g)) o
    → Says (deliver_entry params lane g (deliver_number o)) (deliver_next params lane g)
deliver_at_says params lane g None now left = rw now refl
deliver_at_says params lane g (Some o) now left = rw (now, left.numbers, row_some o.next (o.to - o.next) (let many : o.next < o.to = left.some in omega arith)) refl

pub deliver_says : (params : Params) (lane : Lane) (g : History) (r : Receiving) → IsOf params lane g r → Says (deliver_entry params lane g (deliver_number r.reading)) (deliver_next params lane g)
deliver_says params lane g r w = deliver_at_says params lane g r.reading w.reading_is w.left_is

deliver_at_goes : (k n : ℕ) (o : Option Reading) → deliver_number o ≡ Some (k, n) → next_in o ≡ Some n
deliver_at_goes k n None e = absurd (none-some (k, n) e)
deliver_at_goes k n (Some o) e = ap (λ (d : ℕ × ℕ). Some d.1) (same_Some (o.serial, o.next) (k, n) e)

pub deliver_goes : (lane : Lane) (r : Receiving) (k n : ℕ) → deliver_number r.reading ≡ Some (k, n) → GoesOn (Gave lane n) r
deliver_goes lane r k n e = deliver_at_goes k n r.reading e

-- COUNTS

pub home_counts : (params : Params) (lane : Lane) (g : History) (r : Receiving) → IsOf params lane g r → rx_home params lane g ≡ r.home
home_counts params lane g r w = let e : r.home + posts g ≡ rx_back params lane g = w.home_is in omega arith

pub posted_counts : (params : Params) (lane : Lane) (g : History) (r : Receiving) → IsOf params lane g r → posted g ≡ r.posted
posted_counts params lane g r w = let e : recalls g + flights g + r.posted ≡ posts g = w.posted_is in omega arith

-- POSTING

post_at_says : (lane : Lane) (b : Bool) → Says (option_map bare (if b then None else Some (Posted lane))) (if b then Answers Answer.Nothing else Writes (bare (Posted lane) ∷ []))
post_at_says lane true = refl
post_at_says lane false = refl

pub post_says : (params : Params) (lane : Lane) (g : History) (r : Receiving) → IsOf params lane g r → Says (option_map bare (post_line lane r)) (post params lane g)
post_says params lane g r w =
    subst (λ n. Says (option_map bare (post_line lane r)) (if n == 0 then Answers Answer.Nothing else Writes (bare (Posted lane) ∷ [])))
    (sym (home_counts params lane g r w)) (post_at_says lane (r.home == 0))

post_at_goes : (lane : Lane) (r : Receiving) (line : Line) (b : Bool) → (r.home == 0) ≡ b → (if b then None else Some (Posted lane)) ≡ Some line → GoesOn line r
post_at_goes lane r line true is e = absurd (none-some line e)
post_at_goes lane r line false is e = subst (λ l. GoesOn l r) (same_Some (Posted lane) line e) (some_home r.home is)
  where
    some_home : (n : ℕ) → (n == 0) ≡ false → 0 < n
    some_home n e = grind (arith, nat_tests)

pub post_goes : (lane : Lane) (r : Receiving) (line : Line) → post_line lane r ≡ Some line → GoesOn line r
post_goes lane r line e = post_at_goes lane r line (r.home == 0) refl e

-- FOLLOWING

pub opened_follows : (params : Params) (lane l : Lane) (k : ℕ) (g : History) (r : Receiving) → IsSound g → IsOf params lane g r → GoesOn (Opened l k) r → IsFirstArrived g k
opened_follows params lane l k g r sound w goes = arrived_from g k sound (w.reading_is ∙ ap serial_in goes.1) (ap first w.landed_is ∙ goes.0)

given_follows : (g : History) (n : ℕ) (o : Option Reading) → IsSound g → current g ≡ serial_in o → ReadingIs (IsLeft (left_of g)) o → next_in o ≡ Some n → IsNextNumber g n
given_follows g n None sound now left goes = absurd (none-some n goes)
given_follows g n (Some o) sound now left goes =
    next_number_from g o.serial n sound now
    (ap first (left.numbers ∙ row_some o.next (o.to - o.next) (let many : o.next < o.to = left.some in omega arith)) ∙ goes)

pub gave_follows : (params : Params) (lane l : Lane) (n : ℕ) (g : History) (r : Receiving) → IsSound g → IsOf params lane g r → GoesOn (Gave l n) r → IsNextNumber g n
gave_follows params lane l n g r sound w goes = given_follows g n r.reading sound w.reading_is w.left_is goes
