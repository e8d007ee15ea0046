-- The laws of what a checker keeps of a lane's receiving end. Each is the contract of a public call in src/laws_receiving.rt. A lane's
-- lines are g, the newest first.
use Rattle.std.specs.Prelude.{◌≡◌, ℕ, ◌+◌, ◌≤◌, Bool, false, List, [], ◌∷◌, Some}
use Rattle.std.specs.Option.{option_map}
use Rattle.un_frame.specs.declared.params.Lane.{Lane}
use Rattle.un_frame.specs.declared.params.Params.{Params}
use Rattle.un_frame.specs.Lanes.{rx_size}
use Rattle.un_journal.specs.declared.lines.Line.{Line}
use Rattle.un_journal.specs.declared.lines.Line.TheVariants.{Opened, Gave}
use Rattle.un_journal.specs.History.{History, posted}
use Rattle.un_journal.specs.Lookup.{rx_home}
use Rattle.un_journal.specs.Sound.{IsSound, IsFirstArrived, IsNextNumber}
use Rattle.un_journal.specs.LaneSteps.{bare, rx_done, deliver_next, post}
use Rattle.un_check.specs.Says.{Says}
use Rattle.un_check.specs.Receiving.{Receiving, IsOf, InPool, nothing_received}
use Rattle.un_check.specs.ReceivingLines.{GoesOn, IsTold, IsOut, after, out_after, rx_done_line, deliver_number, deliver_entry, post_line}

-- WHAT IS KEPT

-- before the first line nothing was received
abbrev pub NothingIsKept : Type 0
NothingIsKept = (params : Params) (lane : Lane) → IsOf params lane [] (nothing_received params lane)

-- each line that may follow leaves what is kept of the lines with it
abbrev pub LineIsKept : Type 0
LineIsKept = (params : Params) (lane : Lane) (g : History) (r : Receiving) (is_out : Bool) (s : ℕ × ℕ) (line : Line) (bytes : List ℕ)
    → IsSound ((line, bytes) ∷ g) → IsTold is_out s line g → GoesOn line r → IsOf params lane g r
    → IsOf params lane ((line, bytes) ∷ g) (after is_out s line r)

-- an opened or a gave line that is this end's next may follow the lane's lines
abbrev pub OpenedFollows : Type 0
OpenedFollows = (params : Params) (lane l : Lane) (k : ℕ) (g : History) (r : Receiving)
    → IsSound g → IsOf params lane g r → GoesOn (Opened l k) r → IsFirstArrived g k

abbrev pub GaveFollows : Type 0
GaveFollows = (params : Params) (lane l : Lane) (n : ℕ) (g : History) (r : Receiving)
    → IsSound g → IsOf params lane g r → GoesOn (Gave l n) r → IsNextNumber g n

-- no request is lost or doubled by a line: at first all are at home, and no more than all are ever posted or at home
abbrev pub PoolIsKept : Type 0
PoolIsKept = (size : ℕ) (is_out : Bool) (s : ℕ × ℕ) (line : Line) (r : Receiving)
    → IsOut is_out line → GoesOn line r → InPool size is_out r → InPool size (out_after line is_out) (after is_out s line r)

abbrev pub PoolIsFull : Type 0
PoolIsFull = (params : Params) (lane : Lane) → InPool (rx_size params lane) false (nothing_received params lane)

abbrev pub PoolIsBound : Type 0
PoolIsBound = (size : ℕ) (is_out : Bool) (r : Receiving) → InPool size is_out r → r.posted + r.home ≤ size

-- the counts are those of the lines
abbrev pub HomeIsSaid : Type 0
HomeIsSaid = (params : Params) (lane : Lane) (g : History) (r : Receiving) → IsOf params lane g r → rx_home params lane g ≡ r.home

abbrev pub PostedIsSaid : Type 0
PostedIsSaid = (params : Params) (lane : Lane) (g : History) (r : Receiving) → IsOf params lane g r → posted g ≡ r.posted

-- WHAT THE STEPS WRITE

-- the done list of the receiving end: what is said is what the step writes, and may follow
abbrev pub RxDoneIsSaid : Type 0
RxDoneIsSaid = (params : Params) (lane : Lane) (g : History) (r : Receiving)
    → IsOf params lane g r → Says (option_map bare (rx_done_line lane r r.reading)) (rx_done lane g)

abbrev pub RxDoneGoesOn : Type 0
RxDoneGoesOn = (lane : Lane) (r : Receiving) (line : Line) → rx_done_line lane r r.reading ≡ Some line → GoesOn line r

-- a delivery
abbrev pub DeliveryIsSaid : Type 0
DeliveryIsSaid = (params : Params) (lane : Lane) (g : History) (r : Receiving)
    → IsOf params lane g r → Says (deliver_entry params lane g (deliver_number r.reading)) (deliver_next params lane g)

abbrev pub DeliveryGoesOn : Type 0
DeliveryGoesOn = (lane : Lane) (r : Receiving) (k n : ℕ) → deliver_number r.reading ≡ Some (k, n) → GoesOn (Gave lane n) r

-- a refill
abbrev pub PostIsSaid : Type 0
PostIsSaid = (params : Params) (lane : Lane) (g : History) (r : Receiving)
    → IsOf params lane g r → Says (option_map bare (post_line lane r)) (post params lane g)

abbrev pub PostGoesOn : Type 0
PostGoesOn = (lane : Lane) (r : Receiving) (line : Line) → post_line lane r ≡ Some line → GoesOn line r
