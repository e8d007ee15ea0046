-- What a history says with its script: the phase, the feeds, the requests at home, the next block, the queues. The
-- rules on blocks follow the Linux drivers cdc_ncm, outward, and f_ncm, inward.
use Rattle.std.specs.Prelude.{ℕ, zero, suc, ◌+◌, ◌-◌, min, Bool, true, false, not, ◌&&◌, ◌||◌, nat_lt, List, [], ◌∷◌, ◌++◌, reverse, length, drop, Option, Some, None, unwrap_or, is_some, slice_get, if◌then◌else◌}
use Rattle.un_frame.specs.declared.params.TheConstants.{TIMER_TICKS}
use Rattle.un_frame.specs.declared.params.Lane.{Lane}
use Rattle.un_frame.specs.declared.params.Lane.TheVariants.{Outward, Inward}
use Rattle.un_frame.specs.declared.kinds.Phase.{Phase}
use Rattle.un_frame.specs.declared.kinds.Phase.TheVariants.{Up, Asleep, Stopping, Leaving}
use Rattle.un_frame.specs.declared.params.Params.{Params}
use Rattle.un_frame.specs.Lanes.{packs, tx_size, rx_size}
use Rattle.un_frame.specs.Cut.{closed_span}
use Rattle.un_journal.specs.declared.lines.Line.{Line}
use Rattle.un_journal.specs.declared.lines.Line.TheVariants.{Took, Settled}
use Rattle.un_journal.specs.declared.controls.Control.{Control as Order}
use Rattle.un_journal.specs.declared.controls.Due.{Due}
use Rattle.un_journal.specs.Script.{Script, Frame, frames_of}
use Rattle.un_journal.specs.History.{History, taken, consumed, made, cover, built, took_last, waited_after, returned, posts, recalls, failures, retries, flight_cuts, delivered, landed, waiting, those, flies, waits, mark, count_of}

-- PHASE

-- the phase that a control leaves, from the one before it
abbrev pub after_order : Order → Phase → Phase
after_order Order.Suspend phase = Phase.Asleep
after_order Order.Resume phase = Phase.Up
after_order Order.Up phase = Phase.Up
after_order Order.Down phase = Phase.Stopping
after_order Order.Unplug phase = Phase.Leaving
after_order (Order.Unlink lane) phase = phase

abbrev pub after_control : Option Due → Phase → Phase
after_control None phase = phase
after_control (Some due) phase = after_order due.control phase

-- a stop that is settled is over
abbrev pub after_settled : Phase → Phase
after_settled Stopping = Phase.Down
after_settled Leaving = Phase.Away
after_settled phase = phase

-- the phase after the lines of both lanes, the newest first
abbrev pub phase_after : List Due → History → Phase
phase_after controls [] = Phase.Up
phase_after controls ((Line.Control c f, bytes) ∷ h) = after_control (slice_get controls c) (phase_after controls h)
phase_after controls ((Settled t1 r1 t2 r2, bytes) ∷ h) = after_settled (phase_after controls h)
phase_after controls (e ∷ h) = phase_after controls h

abbrev pub phase_of : Script → History → Phase
phase_of script history = phase_after script.controls (reverse history)

-- whether the link is up, sleeps, is being stopped or is being unplugged
abbrev pub is_awake : Phase → Bool
is_awake Up = true
is_awake _ = false

abbrev pub is_asleep : Phase → Bool
is_asleep Asleep = true
is_asleep _ = false

abbrev pub is_stopping : Phase → Bool
is_stopping Stopping = true
is_stopping _ = false

abbrev pub is_leaving : Phase → Bool
is_leaving Leaving = true
is_leaving _ = false

-- whether frames are accepted: up or asleep
abbrev pub works : Phase → Bool
works phase = is_awake phase || is_asleep phase

-- how many controls were done
abbrev pub controls_done : History → ℕ
controls_done h = count_of (elim [ Line.Control c f ↦ true | _ ↦ false ]) h

-- FEEDS AND DATAGRAMS, of the lane's lines g, the newest first

-- the first frame of the sender's feed
abbrev pub feed_head : Script → Lane → History → ℕ → Option Frame
feed_head script lane g sender = slice_get (frames_of script lane sender) (consumed g sender)

-- the accepted frames, in order
abbrev pub datagrams : Script → Lane → History → List Frame
datagrams script lane [] = []
datagrams script lane ((Took l s, bytes) ∷ g) = datagrams script lane g ++ unwrap_or (feed_head script lane g s) [] ∷ []
datagrams script lane (e ∷ g) = datagrams script lane g

-- whether the feeds of the lane's four senders are empty
abbrev pub feeds_empty_from : Script → Lane → History → ℕ → ℕ → Bool
feeds_empty_from script lane g sender zero = true
feeds_empty_from script lane g sender (suc n) =
    not (is_some (feed_head script lane g sender)) && feeds_empty_from script lane g (sender + 1) n

abbrev pub feeds_empty : Script → Lane → History → Bool
feeds_empty script lane g = feeds_empty_from script lane g 0 4

-- BLOCKS

-- Whether the lane's block is open: outward there are built numbers, and the last datagram was accepted after the last transfer
-- was made, else what is built is a remainder; inward there are built numbers. A lane that doesn't pack never leaves anything built.
abbrev pub block_open : Params → Lane → History → Bool
block_open params Outward g = packs params.class Outward && nat_lt 0 (built g) && took_last g
block_open params Inward g = packs params.class Inward && nat_lt 0 (built g)

-- whether the block holds a transmit request that was claimed when it was opened
abbrev pub block_claims : Params → Lane → History → Bool
block_claims params Outward g = block_open params Outward g
block_claims params Inward g = false

-- the accepted frames from the first built one on
abbrev pub built_frames : Script → Lane → History → List Frame
built_frames script lane g = drop (cover g) (datagrams script lane g)

-- the span that the last took line of g closes
abbrev pub span_after_took : Script → Lane → History → Option (ℕ × ℕ)
span_after_took script lane g = closed_span script.params lane (built_frames script lane g) (cover g) (taken g - 1)

-- REQUESTS AT HOME

-- the request that the open block claims
abbrev pub claim : Params → Lane → History → ℕ
claim params lane g = if block_claims params lane g then 1 else 0

-- the transmit requests at home: each made transfer took one that comes back with its txhome line, and an open block claims one
abbrev pub tx_home : Params → Lane → History → ℕ
tx_home params lane g = tx_size params lane + returned g - (made g + claim params lane g)

-- the receive requests that were at home at first or came back: recalled, with a flight that failed, for good or to be tried again, or was
-- cut, or with the last datagram given
abbrev pub rx_back : Params → Lane → History → ℕ
rx_back params lane g = rx_size params lane + recalls g + failures g + retries g + flight_cuts g + length (delivered g)

-- the receive requests at home: those less the posted ones
abbrev pub rx_home : Params → Lane → History → ℕ
rx_home params lane g = rx_back params lane g - posts g

-- the transfers that landed, by serial
abbrev pub landings : History → List ℕ
landings g = those (landed g) (made g)

-- whether an offer whose lines these are needs a home request, g being the lines before it
abbrev pub offer_needs_home : Params → Lane → History → Option (ℕ × ℕ) → Bool
offer_needs_home params Outward g closed = not (block_open params Outward g)
offer_needs_home params Inward g closed = is_some closed

-- whether a tick that closes what is built needs one
abbrev pub tick_needs_home : Params → Lane → History → Bool
tick_needs_home params Outward g = not (block_open params Outward g)
tick_needs_home params Inward g = true

-- the ticks that an open outward block waits yet: those of the timer since its second datagram was accepted, or its first, less those that were waited
abbrev pub pending : Params → Lane → History → ℕ
pending params Outward g =
    if block_open params Outward g then TIMER_TICKS - waited_after g (min (taken g - 1) (cover g + 1)) else 0
pending params Inward g = 0

-- QUEUES

-- the waiting transfers by serial: outward they are deferred while the link sleeps, else queued at the endpoint
abbrev pub deferred : Phase → Lane → History → List ℕ
deferred Asleep Outward g = waiting g
deferred _ lane g = []

abbrev pub queued : Phase → Lane → History → List ℕ
queued Asleep Outward g = []
queued _ lane g = waiting g

abbrev pub is_deferring : Phase → Lane → Bool
is_deferring Asleep Outward = true
is_deferring _ lane = false

-- the transfers that fly or are queued and aren't marked
abbrev pub unmarked : Phase → Lane → History → List ℕ
unmarked phase lane g =
    those (λ k. (flies g k || (not (is_deferring phase lane) && waits g k)) && not (is_some (mark g k))) (made g)
