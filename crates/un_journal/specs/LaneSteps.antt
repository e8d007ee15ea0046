-- A lane's part of the steps: what each writes, or the answer of one that writes nothing, from the lane's lines g, the newest
-- first. What a lane doesn't know is handed in: whether the link sleeps, the frames that are built, the queued transfers, the
-- planned fault.
use Rattle.std.specs.Prelude.{ℕ, ◌+◌, ◌-◌, Bool, ◌&&◌, ◌==◌, nat_lt, nat_le, List, [], ◌∷◌, take, Option, Some, None, if◌then◌else◌}
use Rattle.un_frame.specs.declared.params.Lane.{Lane}
use Rattle.un_frame.specs.declared.params.Params.{Params}
use Rattle.un_frame.specs.declared.kinds.FaultKind.{FaultKind}
use Rattle.un_frame.specs.declared.kinds.Planned.{Planned}
use Rattle.un_frame.specs.declared.kinds.Planned.TheVariants.{Clean, Proto, Halt}
use Rattle.un_frame.specs.Wire.{form}
use Rattle.un_frame.specs.Parts.{datagram_of}
use Rattle.un_frame.specs.Cut.{closed_span}
use Rattle.un_journal.specs.declared.lines.Line.{Line}
use Rattle.un_journal.specs.declared.actions.Answer.{Answer}
use Rattle.un_journal.specs.Script.{Frame}
use Rattle.un_journal.specs.History.{Entry, History, taken, made, cover, built, returned, posted, flying, arrived, current, left_of, ended, halted, mark, made_bytes, span, attempts}
use Rattle.un_journal.specs.Lookup.{tx_home, rx_home, offer_needs_home, tick_needs_home, pending}

-- what an action does after a history: it writes lines, or it writes none and answers
pub data Outcome : Type 0 where
  Writes : History → Outcome
  Answers : Answer → Outcome

abbrev pub lines_in : Outcome → History
lines_in (Writes lines) = lines
lines_in (Answers answer) = []

abbrev pub answer_in : Outcome → Answer
answer_in (Writes lines) = Answer.Did
answer_in (Answers answer) = answer

-- a line without bytes
abbrev pub bare : Line → Entry
bare line = (line, [])

-- BUILDING

-- the made line of the next transfer, with this span; the frames begin with the span's first
abbrev pub made_line : Params → Lane → List Frame → History → ℕ × ℕ → Entry
made_line params lane frames g s =
    (Line.Made lane (made g) s.0 s.1, form params (made g) (take (s.1 - s.0) frames))

abbrev pub made_lines : Params → Lane → List Frame → History → Option (ℕ × ℕ) → History
made_lines params lane frames g None = []
made_lines params lane frames g (Some s) = made_line params lane frames g s ∷ []

-- an offer whose frame is to be taken; the frames are the built ones and this one
abbrev pub accept : Params → Lane → ℕ → List Frame → History → Outcome
accept params lane sender frames g =
    let g' = bare (Line.Took lane sender) ∷ g in
    let closed = closed_span params lane frames (cover g') (taken g' - 1) in
    if offer_needs_home params lane g closed && tx_home params lane g == 0 then Answers Answer.Busy
    else Writes (bare (Line.Took lane sender) ∷ made_lines params lane frames g' closed)

-- a tick; the frames are the built ones
abbrev pub tick_built : Params → Lane → List Frame → History → Outcome
tick_built params lane frames g =
    if built g == 0 then Answers Answer.Nothing
    else (if nat_lt 0 (pending params lane g) then Writes (bare (Line.Waited lane) ∷ [])
    else (if tick_needs_home params lane g && tx_home params lane g == 0 then Answers Answer.NoRequest
    else Writes (made_line params lane frames g (cover g, taken g) ∷ [])))

-- TAKE AND LAND

-- the first queued transfer, with its mark
abbrev pub take_head : Bool → Lane → History → ℕ → Option ℕ → Outcome
take_head asleep lane g k (Some c) = Writes (bare (Line.Cut lane k c) ∷ [])
take_head asleep lane g k None =
    if asleep then Answers Answer.Asleep
    else (if halted g then Answers Answer.Halted
    else (if posted g == 0 then Answers Answer.NoBuffer
    else Writes (bare (Line.Flying lane k) ∷ [])))

abbrev pub take_first : Bool → Lane → History → List ℕ → Outcome
take_first asleep lane g [] = Answers Answer.Nothing
take_first asleep lane g (k ∷ ks) = take_head asleep lane g k (mark g k)

abbrev pub take_with : Bool → Lane → History → List ℕ → List ℕ → Outcome
take_with asleep lane g queue [] = take_first asleep lane g queue
take_with asleep lane g queue (k ∷ ks) = Answers (Answer.Flying k)

-- a take; the queue has the queued transfers
abbrev pub take_queued : Bool → Lane → History → List ℕ → Outcome
take_queued asleep lane g queue = take_with asleep lane g queue (flying g)

-- a flight lands by its plan, after r attempts that failed: a fault on the bus lets it be tried again three times
abbrev pub land_planned : Lane → ℕ → ℕ → Planned → Outcome
land_planned lane k r Clean = Writes (bare (Line.Landed lane k) ∷ [])
land_planned lane k r (Proto times) =
    if nat_le times r then Writes (bare (Line.Landed lane k) ∷ [])
    else (if nat_lt r 3 then Writes (bare (Line.Retried lane k (r + 1)) ∷ [])
    else (if r == 3 then Writes (bare (Line.Failed lane k FaultKind.Proto) ∷ [])
    else Answers Answer.Nothing))
land_planned lane k r Halt = Writes (bare (Line.Failed lane k FaultKind.Halt) ∷ [])

-- a marked flight is cut, and not tried again
abbrev pub land_marked : Lane → Planned → ℕ → ℕ → Option ℕ → Outcome
land_marked lane plan k r (Some c) = Writes (bare (Line.Cut lane k c) ∷ [])
land_marked lane plan k r None = land_planned lane k r plan

abbrev pub land_with : Lane → Planned → History → List ℕ → Outcome
land_with lane plan g [] = Answers Answer.Nothing
land_with lane plan g (k ∷ ks) = land_marked lane plan k (attempts g k) (mark g k)

-- a landing, with what is planned for the flight
abbrev pub land_fault : Lane → Planned → History → Outcome
land_fault lane plan g = land_with lane plan g (flying g)

-- THE DONE LIST AND THE RECEIVING END

abbrev pub tx_done : Lane → History → Outcome
tx_done lane g =
    if ended g (returned g) then Writes (bare (Line.TxHome lane (returned g)) ∷ []) else Answers Answer.Nothing

abbrev pub open_first : Lane → List ℕ → Outcome
open_first lane [] = Answers Answer.Nothing
open_first lane (k ∷ ks) = Writes (bare (Line.Opened lane k) ∷ [])

abbrev pub rx_done_at : Lane → History → Option ℕ → Outcome
rx_done_at lane g (Some k) = Answers Answer.Nothing
rx_done_at lane g None = open_first lane (arrived g)

abbrev pub rx_done : Lane → History → Outcome
rx_done lane g = rx_done_at lane g (current g)

abbrev pub span_start : Option (ℕ × ℕ) → ℕ
span_start None = 0
span_start (Some s) = s.0

-- the bytes of datagram n as transfer k carries it: the part at its place in the span
abbrev pub datagram_bytes : Params → History → ℕ → ℕ → List ℕ
datagram_bytes params g k n = datagram_of params.class (made_bytes g k) (n - span_start (span g k))

abbrev pub deliver_number : Params → Lane → History → ℕ → List ℕ → Outcome
deliver_number params lane g k [] = Answers Answer.Nothing
deliver_number params lane g k (n ∷ ns) = Writes ((Line.Gave lane n, datagram_bytes params g k n) ∷ [])

abbrev pub deliver_current : Params → Lane → History → Option ℕ → Outcome
deliver_current params lane g None = Answers Answer.Nothing
deliver_current params lane g (Some k) = deliver_number params lane g k (left_of g k)

-- the next datagram of the current transfer
abbrev pub deliver_next : Params → Lane → History → Outcome
deliver_next params lane g = deliver_current params lane g (current g)

-- a refill, in a phase in which requests are posted
abbrev pub post : Params → Lane → History → Outcome
post params lane g =
    if rx_home params lane g == 0 then Answers Answer.Nothing else Writes (bare (Line.Posted lane) ∷ [])

-- STOPS

-- one step of a stop: the oldest transfer that isn't marked, and where there is none a posted request
abbrev pub unlink_first : Lane → ℕ → History → List ℕ → Outcome
unlink_first lane cause g (k ∷ ks) = Writes (bare (Line.Marked lane k cause) ∷ [])
unlink_first lane cause g [] =
    if posted g == 0 then Answers Answer.Nothing else Writes (bare (Line.Recalled lane) ∷ [])

-- the halt, in a phase in which it may be cleared
abbrev pub clear_set : Lane → History → Outcome
clear_set lane g = if halted g then Writes (bare (Line.Cleared lane) ∷ []) else Answers Answer.Nothing
