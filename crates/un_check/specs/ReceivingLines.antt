-- What one more line does to a lane's receiving end, and what each step would write, by what is kept of it.
use Rattle.std.specs.Prelude.{◌≡◌, ℕ, ◌+◌, ◌-◌, ◌<◌, Bool, true, false, ◌==◌, nat_lt, [], ◌∷◌, ◌++◌, drop, Option, Some, None, if◌then◌else◌}
use Rattle.un_frame.specs.declared.params.Lane.{Lane}
use Rattle.un_frame.specs.declared.params.Params.{Params}
use Rattle.un_journal.specs.declared.lines.Line.{Line}
use Rattle.un_journal.specs.declared.lines.Line.TheVariants.{Posted, Flying, Landed, Failed, Retried, Cut, Opened, Gave, Recalled}
use Rattle.un_journal.specs.History.{Entry, History, first, more_if, flies, span}
use Rattle.un_journal.specs.LaneSteps.{datagram_bytes}
use Rattle.un_check.specs.declared.reading.Reading.{Reading}
use Rattle.un_check.specs.Receiving.{Receiving}

-- the serial and the number of the next datagram, and the number alone
abbrev pub deliver_number : Option Reading → Option (ℕ × ℕ)
deliver_number None = None
deliver_number (Some reading) = Some (reading.serial, reading.next)

abbrev pub next_in : Option Reading → Option ℕ
next_in None = None
next_in (Some reading) = Some reading.next

-- What a line needs to be this end's next. That a transfer flies, which a landing, a failure and a retry need, isn't known here.
abbrev pub GoesOn : Line → Receiving → Type 0
GoesOn (Posted l) r = 0 < r.home
GoesOn (Recalled l) r = 0 < r.posted
GoesOn (Flying l k) r = 0 < r.posted
GoesOn (Opened l k) r = (first r.landed ≡ Some k) × (r.reading ≡ None)
GoesOn (Gave l n) r = next_in r.reading ≡ Some n
GoesOn line r = Unit {0}

-- What is told of a line's transfer, by the lane's lines g before it: whether it flies, where it is cut, and its span, where it is
-- opened.
abbrev pub IsTold : Bool → ℕ × ℕ → Line → History → Type 0
IsTold is_out s (Cut l k c) g = flies g k ≡ is_out
IsTold is_out s (Opened l k) g = span g k ≡ Some s
IsTold is_out s line g = Unit {0}

-- whether a transfer flies before a line that ends or begins a flight, a cut apart
abbrev pub IsOut : Bool → Line → Type 0
IsOut is_out (Flying l k) = is_out ≡ false
IsOut is_out (Landed l k) = is_out ≡ true
IsOut is_out (Failed l k kind) = is_out ≡ true
IsOut is_out (Retried l k n) = is_out ≡ true
IsOut is_out line = Unit {0}

-- and after it
abbrev pub out_after : Line → Bool → Bool
out_after (Flying l k) is_out = true
out_after (Landed l k) is_out = false
out_after (Failed l k kind) is_out = false
out_after (Retried l k n) is_out = false
out_after (Cut l k c) is_out = false
out_after line is_out = is_out

-- the reading after one more datagram: after the last the transfer is read whole
abbrev pub next_of : Reading → Option Reading
next_of r = if nat_lt (r.next + 1) r.to then Some (record r { next = r.next + 1 }) else None

-- a datagram is given, and the request comes home with the last
abbrev pub gives : Receiving → Option Reading → Receiving
gives r None = r
gives r (Some reading) =
    record r { reading = next_of reading; home = if nat_lt (reading.next + 1) reading.to then r.home else r.home + 1 }

-- The receiving end after a line. Is_out says whether a transfer flew before it: a cut then brings its request home. The span is
-- that of the transfer that an opened line names.
abbrev pub after : Bool → ℕ × ℕ → Line → Receiving → Receiving
after is_out s (Posted l) r = record r { posted = r.posted + 1; home = r.home - 1 }
after is_out s (Recalled l) r = record r { posted = r.posted - 1; home = r.home + 1 }
after is_out s (Flying l k) r = record r { posted = r.posted - 1 }
after is_out s (Landed l k) r = record r { landed = r.landed ++ k ∷ [] }
after is_out s (Failed l k kind) r = record r { home = r.home + 1 }
after is_out s (Retried l k n) r = record r { home = r.home + 1 }
after is_out s (Cut l k c) r = record r { home = more_if is_out r.home }
after is_out s (Opened l k) r = record r { landed = drop 1 r.landed; reading = Some (record { serial = k; next = s.0; to = s.1 }) }
after is_out s (Gave l n) r = gives r r.reading
after is_out s line r = r

-- WHAT EACH STEP WOULD WRITE

abbrev pub opens : Lane → Option ℕ → Option Line
opens lane None = None
opens lane (Some k) = Some (Opened lane k)

-- the next transfer is opened once none is read
abbrev pub rx_done_line : Lane → Receiving → Option Reading → Option Line
rx_done_line lane r (Some reading) = None
rx_done_line lane r None = opens lane (first r.landed)

-- the next datagram of a transfer, with the bytes that it has there
abbrev pub deliver_entry : Params → Lane → History → Option (ℕ × ℕ) → Option Entry
deliver_entry params lane g None = None
deliver_entry params lane g (Some d) = Some (Gave lane d.1, datagram_bytes params g d.0 d.1)

-- a refill, in a phase in which requests are posted
abbrev pub post_line : Lane → Receiving → Option Line
post_line lane r = if r.home == 0 then None else Some (Posted lane)
