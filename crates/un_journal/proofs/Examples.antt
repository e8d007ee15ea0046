-- Whole runs, computed from the definitions: what the drain and single calls write and answer.
use Rattle.std.specs.Prelude.{◌≡◌, refl, ℕ, ◌-◌, true, false, List, [], ◌∷◌, ◌++◌, map, take, replicate, ◌⊎◌, ◌==◌, if◌then◌else◌, length}
use Rattle.std.proofs.Common.{inl, inr}
use Rattle.un_frame.proofs.ExampleFrame.{header}
use Rattle.un_frame.specs.declared.params.Lane.TheVariants.{Outward, Inward}
use Rattle.un_frame.specs.declared.params.Class.{Class}
use Rattle.un_frame.specs.declared.params.Params.{Params}
use Rattle.un_frame.specs.declared.kinds.Verdict.{Verdict}
use Rattle.un_frame.specs.declared.kinds.FaultKind.{FaultKind}
use Rattle.un_frame.specs.declared.kinds.Planned.{Planned}
use Rattle.un_frame.specs.declared.kinds.Phase.{Phase}
use Rattle.un_frame.specs.Bytes.{number_at, number_bytes}
use Rattle.un_frame.specs.Ntb.{datagrams}
use Rattle.un_frame.specs.NtbCursor.{chain_datagrams}
use Rattle.un_frame.specs.NtbForm.{least_place, least_multiple, datagrams_end, datagram_places, datagram_bytes}
use Rattle.un_frame.specs.Parts.{places_as, datagram_of}
use Rattle.un_journal.specs.declared.controls.Control.{Control as Order}
use Rattle.un_journal.specs.declared.lines.Line.{Line}
use Rattle.un_journal.specs.declared.actions.Action.{Action}
use Rattle.un_journal.specs.declared.actions.Answer.{Answer}
use Rattle.un_journal.specs.Script.{Script, Feeds, Frame}
use Rattle.un_journal.specs.History.{History, Entry, past, taken, given}
use Rattle.un_journal.specs.Lookup.{phase_of, tx_home, rx_home}
use Rattle.un_journal.specs.LaneSteps.{bare, Outcome, lines_in, answer_in}
use Rattle.un_journal.specs.Step.{Work, work, outcome, answer_of}
use Rattle.un_journal.specs.Drain.{drain}

-- FRAMES, SCRIPTS, CALLS

-- a frame of so many bytes: an Ethernet header and zeros
abbrev frame_of : ℕ → Frame
frame_of n = take n (header ++ replicate (n - 14) 0)

-- parameters with these pools: of requests outward to transmit and to receive, and inward to transmit and to receive
abbrev params_of : Class → ℕ → ℕ → ℕ → ℕ → ℕ → Params
params_of class block t1 r1 t2 r2 = record {
  class = class;
  segment = 1514;
  packet = 512;
  filter = 14;
  block = block;
  datagrams = 32;
  divisor = 4;
  remainder = 0;
  alignment = 4;
  tx_out = t1;
  rx_out = r1;
  tx_in = t2;
  rx_in = r2;
}

-- the feeds of a lane where sender 0 alone has frames
abbrev feeds_with : List Frame → Feeds
feeds_with frames = record { first = frames; second = []; third = []; fourth = [] }

abbrev line_of : Entry → Line
line_of (line, bytes) = line

abbrev lines_of : History → List Line
lines_of h = map line_of h

abbrev refusals : List Line → List Verdict
refusals [] = []
refusals (Line.Refused l n why ∷ ls) = why ∷ refusals ls
refusals (l ∷ ls) = refusals ls

-- the lines from the first control on
abbrev from_did : List Line → List Line
from_did [] = []
from_did (Line.Control c f ∷ ls) = Line.Control c f ∷ ls
from_did (l ∷ ls) = from_did ls

-- the bytes of the made lines, and those of the gave lines
abbrev made_in : History → List (List ℕ)
made_in [] = []
made_in ((Line.Made l k a b, bytes) ∷ h) = bytes ∷ made_in h
made_in (e ∷ h) = made_in h

abbrev given_in : History → List (List ℕ)
given_in [] = []
given_in ((Line.Gave l n, bytes) ∷ h) = bytes ∷ given_in h
given_in (e ∷ h) = given_in h

-- calls one by one, and their answers; taking and landing a flight are calls of their own
record Calls : Type 0 where
  history : History
  answers : List Answer

abbrev does : Outcome → Calls → Calls
does o c = record { history = c.history ++ lines_in o; answers = c.answers ++ answer_in o ∷ [] }

abbrev calls : Script → Calls → List (Work ⊎ Action) → Calls
calls script c [] = c
calls script c (inl w ∷ rest) = calls script (does (work script c.history w) c) rest
calls script c (inr a ∷ rest) = calls script (does (outcome script c.history a) c) rest

abbrev no_calls : Calls
no_calls = record { history = []; answers = [] }

-- ONE FRAME

abbrev one_frame : Script
one_frame = record { params = params_of Class.Ecm 16384 1 1 1 1; outward = feeds_with (frame_of 60 ∷ []); inward = feeds_with []; controls = []; faults = [] }

one_frame_drain : drain one_frame []
    ≡ bare (Line.Posted Outward) ∷ bare (Line.Posted Inward) ∷ bare (Line.Took Outward 0) ∷ (Line.Made Outward 0 0 1, frame_of 60)
    ∷ bare (Line.Flying Outward 0) ∷ bare (Line.Landed Outward 0) ∷ bare (Line.TxHome Outward 0) ∷ bare (Line.Opened Outward 0)
    ∷ (Line.Gave Outward 0, frame_of 60) ∷ bare (Line.Posted Outward) ∷ []
unfolding datagram_of
one_frame_drain = refl

-- A SHORT AND A LONG FRAME

abbrev short_and_long : Script
short_and_long = record { params = params_of Class.Ecm 16384 8 8 8 8; outward = feeds_with (frame_of 13 ∷ frame_of 1514 ∷ frame_of 1515 ∷ []); inward = feeds_with []; controls = []; faults = [] }

short_and_long_taken : taken (past Outward (drain short_and_long [])) ≡ 1
short_and_long_taken = refl

short_and_long_given : given (past Outward (drain short_and_long [])) ≡ 0 ∷ []
short_and_long_given = refl

short_and_long_refused : refusals (lines_of (drain short_and_long [])) ≡ Verdict.Short ∷ Verdict.Long ∷ []
short_and_long_refused = refl

-- TWO FRAMES THAT DON'T FIT ONE BLOCK

abbrev two_blocks : Script
two_blocks = record { params = params_of Class.Ncm16 2048 2 1 1 1; outward = feeds_with (frame_of 1514 ∷ frame_of 1514 ∷ []); inward = feeds_with []; controls = []; faults = [] }

two_blocks_drain : lines_of (drain two_blocks [])
    ≡ Line.Posted Outward ∷ Line.Posted Inward ∷ Line.Took Outward 0 ∷ Line.Waited Outward ∷ Line.Took Outward 0
    ∷ Line.Made Outward 0 0 1 ∷ Line.Made Outward 1 1 2
    ∷ Line.Flying Outward 0 ∷ Line.Landed Outward 0 ∷ Line.TxHome Outward 0 ∷ Line.Opened Outward 0 ∷ Line.Gave Outward 0
    ∷ Line.Posted Outward
    ∷ Line.Flying Outward 1 ∷ Line.Landed Outward 1 ∷ Line.TxHome Outward 1 ∷ Line.Opened Outward 1 ∷ Line.Gave Outward 1
    ∷ Line.Posted Outward ∷ []
unfolding least_place least_multiple datagrams_end
two_blocks_drain = refl

two_blocks_made : map length (made_in (drain two_blocks [])) ≡ 1544 ∷ 1544 ∷ []
unfolding least_place least_multiple datagrams_end datagram_places datagram_bytes number_bytes number_at datagrams chain_datagrams datagram_of
two_blocks_made = refl

two_blocks_given : given_in (drain two_blocks []) ≡ frame_of 1514 ∷ frame_of 1514 ∷ []
unfolding least_place least_multiple datagrams_end datagram_places datagram_bytes number_bytes number_at datagrams chain_datagrams datagram_of
two_blocks_given = refl

-- the second block has sequence 1
two_blocks_second : map (λ bytes. number_at 2 bytes 6) (made_in (drain two_blocks [])) ≡ 0 ∷ 1 ∷ []
unfolding least_place least_multiple datagrams_end datagram_places datagram_bytes number_bytes number_at datagrams chain_datagrams datagram_of
two_blocks_second = refl

-- FIVE FRAMES IN ONE BLOCK

abbrev five_in_a_block : Script
five_in_a_block = record { params = params_of Class.Ncm16 16384 1 1 1 1; outward = feeds_with (frame_of 60 ∷ frame_of 60 ∷ frame_of 60 ∷ frame_of 60 ∷ frame_of 60 ∷ []); inward = feeds_with []; controls = []; faults = [] }

five_in_a_block_drain : lines_of (drain five_in_a_block [])
    ≡ Line.Posted Outward ∷ Line.Posted Inward
    ∷ Line.Took Outward 0 ∷ Line.Waited Outward ∷ Line.Took Outward 0 ∷ Line.Waited Outward ∷ Line.Took Outward 0 ∷ Line.Waited Outward
    ∷ Line.Took Outward 0 ∷ Line.Waited Outward ∷ Line.Took Outward 0 ∷ Line.Made Outward 0 0 5
    ∷ Line.Flying Outward 0 ∷ Line.Landed Outward 0 ∷ Line.TxHome Outward 0 ∷ Line.Opened Outward 0
    ∷ Line.Gave Outward 0 ∷ Line.Gave Outward 1 ∷ Line.Gave Outward 2 ∷ Line.Gave Outward 3 ∷ Line.Gave Outward 4
    ∷ Line.Posted Outward ∷ []
unfolding least_place least_multiple datagrams_end
five_in_a_block_drain = refl

five_in_a_block_made : map length (made_in (drain five_in_a_block [])) ≡ 348 ∷ []
unfolding least_place least_multiple datagrams_end datagram_places datagram_bytes number_bytes number_at datagrams chain_datagrams datagram_of
five_in_a_block_made = refl

five_in_a_block_places : map (λ bytes. map (λ p. p.at) (places_as Class.Ncm16 bytes)) (made_in (drain five_in_a_block []))
    ≡ (14 ∷ 74 ∷ 134 ∷ 194 ∷ 254 ∷ []) ∷ []
unfolding least_place least_multiple datagrams_end datagram_places datagram_bytes number_bytes number_at datagrams chain_datagrams datagram_of
five_in_a_block_places = refl

five_in_a_block_given : given_in (drain five_in_a_block []) ≡ replicate 5 (frame_of 60)
unfolding least_place least_multiple datagrams_end datagram_places datagram_bytes number_bytes number_at datagrams chain_datagrams datagram_of
five_in_a_block_given = refl

-- A SLEEP BETWEEN

abbrev sleep_between : Script
sleep_between = record {
  params = params_of Class.Ecm 16384 2 2 2 2;
  outward = feeds_with (frame_of 60 ∷ frame_of 60 ∷ frame_of 60 ∷ frame_of 60 ∷ frame_of 60 ∷ frame_of 60 ∷ []);
  inward = feeds_with [];
  controls = record { lane = Outward; want = 2; control = Order.Suspend } ∷ record { lane = Outward; want = 6; control = Order.Resume } ∷ [];
  faults = [];
}

-- the outward lines of making and flying
abbrev queueing : List Line → List Line
queueing [] = []
queueing (Line.Made Outward k a b ∷ ls) = Line.Made Outward k a b ∷ queueing ls
queueing (Line.Flying Outward k ∷ ls) = Line.Flying Outward k ∷ queueing ls
queueing (l ∷ ls) = queueing ls

sleep_between_middle : take 11 (from_did (lines_of (drain sleep_between [])))
    ≡ Line.Control 0 false ∷ Line.Recalled Inward ∷ Line.Recalled Inward ∷ Line.Took Outward 0 ∷ Line.Made Outward 2 2 3
    ∷ Line.Took Outward 0 ∷ Line.Made Outward 3 3 4 ∷ Line.Control 1 true ∷ Line.Posted Outward ∷ Line.Posted Inward
    ∷ Line.Flying Outward 2 ∷ []
sleep_between_middle = refl

-- deferred transfers fly before later ones
sleep_between_order : queueing (from_did (lines_of (drain sleep_between [])))
    ≡ Line.Made Outward 2 2 3 ∷ Line.Made Outward 3 3 4 ∷ Line.Flying Outward 2 ∷ Line.Made Outward 4 4 5 ∷ Line.Flying Outward 3
    ∷ Line.Made Outward 5 5 6 ∷ Line.Flying Outward 4 ∷ Line.Flying Outward 5 ∷ []
sleep_between_order = refl

-- the history before a control was done
abbrev before_control : ℕ → History → History
before_control c [] = []
before_control c ((Line.Control d f, bytes) ∷ h) = if d == c then [] else ((Line.Control d f, bytes) ∷ before_control c h)
before_control c (e ∷ h) = e ∷ before_control c h

-- both transmit requests are deferred
sleep_between_busy : answer_of sleep_between (before_control 1 (drain sleep_between [])) (Action.Offer Outward 0) ≡ Answer.Busy
sleep_between_busy = refl

sleep_between_given : given (past Outward (drain sleep_between [])) ≡ 0 ∷ 1 ∷ 2 ∷ 3 ∷ 4 ∷ 5 ∷ []
sleep_between_given = refl

sleep_between_taken : taken (past Outward (drain sleep_between [])) ≡ 6
sleep_between_taken = refl

-- A HALT

abbrev halted_once : Script
halted_once = record {
  params = params_of Class.Ecm 16384 1 1 1 1;
  outward = feeds_with (frame_of 60 ∷ frame_of 60 ∷ []);
  inward = feeds_with [];
  controls = [];
  faults = record { lane = Outward; serial = 0; planned = Planned.Halt } ∷ [];
}

halted_once_drain : drain halted_once []
    ≡ bare (Line.Posted Outward) ∷ bare (Line.Posted Inward) ∷ bare (Line.Took Outward 0) ∷ (Line.Made Outward 0 0 1, frame_of 60)
    ∷ bare (Line.Flying Outward 0) ∷ bare (Line.Failed Outward 0 FaultKind.Halt) ∷ bare (Line.TxHome Outward 0) ∷ bare (Line.Cleared Outward)
    ∷ bare (Line.Posted Outward) ∷ bare (Line.Took Outward 0) ∷ (Line.Made Outward 1 1 2, frame_of 60)
    ∷ bare (Line.Flying Outward 1) ∷ bare (Line.Landed Outward 1) ∷ bare (Line.TxHome Outward 1) ∷ bare (Line.Opened Outward 1)
    ∷ (Line.Gave Outward 1, frame_of 60) ∷ bare (Line.Posted Outward) ∷ []
unfolding datagram_of
halted_once_drain = refl

-- A FRAME THAT IS TRIED AGAIN

-- one frame, whose first attempts fail on the bus
abbrev faulty : ℕ → Script
faulty times = record {
  params = params_of Class.Ecm 16384 1 1 1 1;
  outward = feeds_with (frame_of 60 ∷ []);
  inward = feeds_with [];
  controls = [];
  faults = record { lane = Outward; serial = 0; planned = Planned.Proto times } ∷ [];
}

-- it arrives with the third attempt
faulty_twice_drain : drain (faulty 2) []
    ≡ bare (Line.Posted Outward) ∷ bare (Line.Posted Inward) ∷ bare (Line.Took Outward 0) ∷ (Line.Made Outward 0 0 1, frame_of 60)
    ∷ bare (Line.Flying Outward 0) ∷ bare (Line.Retried Outward 0 1) ∷ bare (Line.Posted Outward)
    ∷ bare (Line.Flying Outward 0) ∷ bare (Line.Retried Outward 0 2) ∷ bare (Line.Posted Outward)
    ∷ bare (Line.Flying Outward 0) ∷ bare (Line.Landed Outward 0) ∷ bare (Line.TxHome Outward 0) ∷ bare (Line.Opened Outward 0)
    ∷ (Line.Gave Outward 0, frame_of 60) ∷ bare (Line.Posted Outward) ∷ []
unfolding datagram_of
faulty_twice_drain = refl

-- the fourth attempt is the last
faulty_always_drain : drain (faulty 4) []
    ≡ bare (Line.Posted Outward) ∷ bare (Line.Posted Inward) ∷ bare (Line.Took Outward 0) ∷ (Line.Made Outward 0 0 1, frame_of 60)
    ∷ bare (Line.Flying Outward 0) ∷ bare (Line.Retried Outward 0 1) ∷ bare (Line.Posted Outward)
    ∷ bare (Line.Flying Outward 0) ∷ bare (Line.Retried Outward 0 2) ∷ bare (Line.Posted Outward)
    ∷ bare (Line.Flying Outward 0) ∷ bare (Line.Retried Outward 0 3) ∷ bare (Line.Posted Outward)
    ∷ bare (Line.Flying Outward 0) ∷ bare (Line.Failed Outward 0 FaultKind.Proto) ∷ bare (Line.TxHome Outward 0)
    ∷ bare (Line.Posted Outward) ∷ []
faulty_always_drain = refl

-- a transfer that waits to be tried again is cut by an unlink, and its receive request is home already
abbrev faulty_unlinked : Script
faulty_unlinked = record {
  params = params_of Class.Ecm 16384 1 1 1 1;
  outward = feeds_with (frame_of 60 ∷ []);
  inward = feeds_with [];
  controls = record { lane = Outward; want = 1; control = Order.Unlink Outward } ∷ [];
  faults = record { lane = Outward; serial = 0; planned = Planned.Proto 2 } ∷ [];
}

abbrev faulty_unlinked_calls : Calls
faulty_unlinked_calls = calls faulty_unlinked no_calls (
    inr (Action.Refill Outward) ∷ inr (Action.Offer Outward 0) ∷ inr (Action.Move Outward) ∷ inr (Action.Control false)
    ∷ inr (Action.Move Outward) ∷ inr (Action.TxDone Outward) ∷ [])

faulty_unlinked_answers : faulty_unlinked_calls.answers ≡ replicate 6 Answer.Did
faulty_unlinked_answers = refl

faulty_unlinked_lines : lines_of faulty_unlinked_calls.history
    ≡ Line.Posted Outward ∷ Line.Took Outward 0 ∷ Line.Made Outward 0 0 1 ∷ Line.Flying Outward 0 ∷ Line.Retried Outward 0 1
    ∷ Line.Control 0 false ∷ Line.Marked Outward 0 0 ∷ Line.Cut Outward 0 0 ∷ Line.TxHome Outward 0 ∷ []
faulty_unlinked_lines = refl

faulty_unlinked_homes : tx_home faulty_unlinked.params Outward (past Outward faulty_unlinked_calls.history) ∷ rx_home faulty_unlinked.params Outward (past Outward faulty_unlinked_calls.history) ∷ []
    ≡ 1 ∷ 1 ∷ []
faulty_unlinked_homes = refl

-- A STOP WITH A FLIGHT OUT

abbrev stopped_in_flight : Script
stopped_in_flight = record {
  params = params_of Class.Ecm 16384 1 1 1 1;
  outward = feeds_with (frame_of 60 ∷ frame_of 60 ∷ []);
  inward = feeds_with [];
  controls = record { lane = Outward; want = 1; control = Order.Down } ∷ record { lane = Outward; want = 1; control = Order.Up } ∷ [];
  faults = [];
}

abbrev stopped_in_flight_calls : Calls
stopped_in_flight_calls = calls stopped_in_flight no_calls (
    inr (Action.Refill Outward) ∷ inr (Action.Offer Outward 0) ∷ inl (Work.Take Outward) ∷ inl (Work.Take Outward)
    ∷ inr (Action.Control false) ∷ inr (Action.Unlink Outward) ∷ inr Action.Settle ∷ inr (Action.Offer Outward 0)
    ∷ inl (Work.Land Outward) ∷ inr (Action.TxDone Outward) ∷ inr Action.Settle ∷ inr (Action.Control false)
    ∷ inr (Action.Move Outward) ∷ inr (Action.Refill Outward) ∷ inr (Action.Offer Outward 0) ∷ inr (Action.Move Outward)
    ∷ inr (Action.TxDone Outward) ∷ inr (Action.RxDone Outward) ∷ inr (Action.Deliver Outward) ∷ [])

stopped_in_flight_answers : stopped_in_flight_calls.answers
    ≡ Answer.Did ∷ Answer.Did ∷ Answer.Did ∷ Answer.Flying 0 ∷ Answer.Did ∷ Answer.Did ∷ Answer.Away 2 ∷ Answer.Down Phase.Stopping
    ∷ Answer.Did ∷ Answer.Did ∷ Answer.Did ∷ Answer.Did ∷ Answer.Nothing ∷ Answer.Did ∷ Answer.Did ∷ Answer.Did ∷ Answer.Did ∷ Answer.Did ∷ Answer.Did ∷ []
stopped_in_flight_answers = refl

stopped_in_flight_lines : from_did (lines_of stopped_in_flight_calls.history)
    ≡ Line.Control 0 false ∷ Line.Marked Outward 0 0 ∷ Line.Cut Outward 0 0 ∷ Line.TxHome Outward 0 ∷ Line.Settled 1 1 1 1
    ∷ Line.Control 1 false ∷ Line.Posted Outward ∷ Line.Took Outward 0 ∷ Line.Made Outward 1 1 2 ∷ Line.Flying Outward 1 ∷ Line.Landed Outward 1
    ∷ Line.TxHome Outward 1 ∷ Line.Opened Outward 1 ∷ Line.Gave Outward 1 ∷ []
stopped_in_flight_lines = refl

stopped_in_flight_given : given_in stopped_in_flight_calls.history ≡ frame_of 60 ∷ []
unfolding datagram_of
stopped_in_flight_given = refl

-- AN UNPLUG WITH ALL KINDS OF WORK OUT

abbrev unplugged : Script
unplugged = record {
  params = params_of Class.Ncm16 2048 3 1 1 1;
  outward = feeds_with (frame_of 1514 ∷ frame_of 1514 ∷ frame_of 1514 ∷ []);
  inward = feeds_with (frame_of 60 ∷ []);
  controls = record { lane = Outward; want = 3; control = Order.Unplug } ∷ [];
  faults = [];
}

abbrev unplugged_calls : Calls
unplugged_calls = calls unplugged no_calls (
    inr (Action.Refill Outward) ∷ inr (Action.Offer Outward 0) ∷ inr (Action.Offer Outward 0) ∷ inr (Action.Move Outward)
    ∷ inr (Action.Offer Outward 0) ∷ inr (Action.Offer Inward 0) ∷ inr (Action.Control false) ∷ inr (Action.TxDone Outward)
    ∷ inr (Action.Move Outward) ∷ inr (Action.TxDone Outward) ∷ inr (Action.RxDone Outward) ∷ inr (Action.Deliver Outward)
    ∷ inr Action.Settle ∷ inr (Action.Control false) ∷ [])

unplugged_lines : from_did (lines_of unplugged_calls.history)
    ≡ Line.Control 0 false ∷ Line.Dropped Outward 2 3 0 ∷ Line.Dropped Inward 0 1 0 ∷ Line.Marked Outward 1 0 ∷ Line.TxHome Outward 0
    ∷ Line.Cut Outward 1 0 ∷ Line.TxHome Outward 1 ∷ Line.Opened Outward 0 ∷ Line.Gave Outward 0 ∷ Line.Settled 3 1 1 1 ∷ []
unfolding least_place least_multiple datagrams_end
unplugged_lines = refl

unplugged_given : given_in unplugged_calls.history ≡ frame_of 1514 ∷ []
unfolding least_place least_multiple datagrams_end datagram_places datagram_bytes number_bytes number_at datagrams chain_datagrams datagram_of
unplugged_given = refl

unplugged_answers : unplugged_calls.answers
    ≡ Answer.Did ∷ Answer.Did ∷ Answer.Did ∷ Answer.Did ∷ Answer.Did ∷ Answer.Did ∷ Answer.Did ∷ Answer.Did ∷ Answer.Did ∷ Answer.Did
    ∷ Answer.Did ∷ Answer.Did ∷ Answer.Did ∷ Answer.NoControl ∷ []
unfolding least_place least_multiple datagrams_end
unplugged_answers = refl

unplugged_away : phase_of unplugged unplugged_calls.history ≡ Phase.Away
unfolding least_place least_multiple datagrams_end
unplugged_away = refl

-- A CONTROL THAT ISN'T DUE, AND ONE THAT IS HINDERED

abbrev suspended : Script
suspended = record {
  params = params_of Class.Ecm 16384 1 1 1 1;
  outward = feeds_with (frame_of 60 ∷ []);
  inward = feeds_with [];
  controls = record { lane = Outward; want = 1; control = Order.Suspend } ∷ [];
  faults = [];
}

suspended_answers : (calls suspended no_calls (inr (Action.Control false) ∷ inr (Action.Offer Outward 0) ∷ inr (Action.Control false) ∷ [])).answers
    ≡ Answer.NotDue 0 1 ∷ Answer.Did ∷ Answer.InFlight 1 ∷ []
suspended_answers = refl
