-- What a path stands for. Each part is a record over the values of look-ups, so a line that changes none of these values keeps the
-- part as it is; and over the parts of a path, so a call that changes none of these keeps it too. Sums stand where look-ups subtract.
use Rattle.std.specs.Prelude.{◌≡◌, ℕ, ◌+◌, ◌-◌, ◌<◌, ◌≤◌, Bool, true, ◌&&◌, nat_lt, nat_le, min, List, [], ◌∷◌, ◌++◌, map, length, Option, Some, None, is_some, option_to_list, if◌then◌else◌}
use Rattle.std.specs.List.{AllByRecursion}
use Rattle.un_facts.specs.Lists.{copies}
use Rattle.un_frame.specs.declared.params.TheConstants.{TIMER_TICKS}
use Rattle.un_frame.specs.declared.params.Params.{Params}
use Rattle.un_frame.specs.declared.params.Class.{Class}
use Rattle.un_frame.specs.declared.params.Lane.{Lane}
use Rattle.un_frame.specs.declared.params.Lane.TheVariants.{Outward, Inward}
use Rattle.un_frame.specs.Lanes.{outward_only, packs, tx_size, rx_size}
use Rattle.un_frame.specs.Parts.{ReadsAs}
use Rattle.un_req.specs.Request.{Buffer, number_of}
use Rattle.un_endpoint.specs.declared.record.FlightRecord.{FlightRecord}
use Rattle.un_endpoint.specs.Bus.{Bus}
use Rattle.un_endpoint.specs.Ends.{Builder, Transmitter, Receiver, Opened, tx_copies, rx_copies, tx_count, rx_count}
use Rattle.un_journal.specs.History.{History, taken, made, cover, took_last, waited_after, waiting, flying, arrived, current, delivered, ended, those, posts, recalls, flights, failures, flight_cuts, returned, halted, mark, attempts, retries, left_of, span, made_bytes, row_from}
use Rattle.un_journal.specs.Sound.{IsSound}
use Rattle.un_lane.specs.Way.{Way}

abbrev pub serial_of : Buffer → ℕ
serial_of r = r.serial

-- WHERE REQUESTS ARE: no history is needed

abbrev pub flight_tx : Option FlightRecord → List ℕ
flight_tx None = []
flight_tx (Some f) = f.tx ∷ []

abbrev pub flight_rx : Option FlightRecord → List ℕ
flight_rx None = []
flight_rx (Some f) = f.rx ∷ []

-- how often a number stands in the places of an endpoint, and how many requests are there
abbrev pub bus_tx_copies : Bus → ℕ → ℕ
bus_tx_copies bus n = copies n (map number_of bus.queue) + copies n (flight_tx bus.flight)

abbrev pub bus_rx_copies : Bus → ℕ → ℕ
bus_rx_copies bus n = copies n (map number_of bus.posted) + copies n (flight_rx bus.flight)

-- a transmit request that is deferred or queued, and a posted receive request: of their pool, with its capacity; a flight has one of
-- each
pub record IsTx (size capacity : ℕ) (r : Buffer) : Type 0 where
  pub known : r.number < size
  pub sized : r.capacity ≡ capacity
  pub short : length r.bytes ≤ capacity

pub record IsRx (size capacity : ℕ) (r : Buffer) : Type 0 where
  pub known : r.number < size
  pub sized : r.capacity ≡ capacity

pub record IsFlightOf (tx_size' tx_capacity rx_size' rx_capacity : ℕ) (f : FlightRecord) : Type 0 where
  pub tx_known : f.tx < tx_size'
  pub tx_sized : f.tx_capacity ≡ tx_capacity
  pub rx_known : f.rx < rx_size'
  pub rx_sized : f.rx_capacity ≡ rx_capacity

abbrev pub FlightIs : (FlightRecord → Type 0) → Option FlightRecord → Type 0
FlightIs P None = Unit {0}
FlightIs P (Some f) = P f

-- Each request of a pool, by its number, is in exactly one place, and so many places are taken as there are requests. The pools have
-- the parameters' sizes, the endpoint has room for all of them, and an inward end defers nothing.
pub record ArePlaced (lane : Lane) (t : Transmitter) (r : Receiver) (bus : Bus) : Type 0 where
  pub side : t.lane ≡ lane
  pub one_params : r.params ≡ t.params
  pub no_deferred : lane ≡ Inward → t.deferred ≡ []
  pub tx_size_is : t.size ≡ tx_size t.params lane
  pub rx_size_is : r.size ≡ rx_size t.params lane
  pub tx_room_is : bus.tx_room ≡ t.size
  pub rx_room_is : bus.rx_room ≡ r.size
  pub largest_is : bus.largest ≡ t.capacity
  pub wide : t.capacity ≤ r.capacity
  pub tx_once : (n : ℕ) → tx_copies t n + bus_tx_copies bus n ≤ 1
  pub rx_once : (n : ℕ) → rx_copies r n + bus_rx_copies bus n ≤ 1
  pub tx_some : (n : ℕ) → n < t.size → 1 ≤ tx_copies t n + bus_tx_copies bus n
  pub rx_some : (n : ℕ) → n < r.size → 1 ≤ rx_copies r n + bus_rx_copies bus n
  pub tx_all : tx_count t + length bus.queue + length (flight_tx bus.flight) ≡ t.size
  pub rx_all : rx_count r + length bus.posted + length (flight_rx bus.flight) ≡ r.size
  pub deferred_are : AllByRecursion (IsTx t.size t.capacity) t.deferred
  pub queued_are : AllByRecursion (IsTx t.size t.capacity) bus.queue
  pub posted_are : AllByRecursion (IsRx r.size r.capacity) bus.posted
  pub flight_is : FlightIs (IsFlightOf t.size t.capacity r.size r.capacity) bus.flight

-- WHAT IS BUILT

-- whether an open block has a claimed request, and the pending count
abbrev pub claims_when : Lane → Bool → Bool
claims_when lane is_open = outward_only lane is_open

abbrev pub pends_when : Lane → Bool → ℕ → ℕ
pends_when Outward is_open waited = if is_open then TIMER_TICKS - waited else 0
pends_when Inward is_open waited = 0

-- The numbers of accepted datagrams and made transfers are those of the lines. The built frames are those from the end of the last
-- transfer on; an open block has a claimed request at a host, with its pending count.
pub record IsBuilt (lane : Lane) (params : Params) (b : Builder) (accepted made' : ℕ) (taken' made'' cover' : ℕ) (last : Bool) (waited : ℕ) : Type 0 where
  pub accepted_is : taken' ≡ accepted
  pub made_is : made'' ≡ made'
  pub covered : cover' + length b.frames ≡ taken'
  pub from_is : 0 < length b.frames → b.from ≡ cover'
  pub claimed : is_some b.claim ≡ claims_when lane (packs params.class lane && nat_lt 0 (taken' - cover') && last)
  pub pends : b.pending ≡ pends_when lane (packs params.class lane && nat_lt 0 (taken' - cover') && last) waited
  pub blocks : 0 < length b.frames → packs params.class lane ≡ true
  -- an outward lane's frames without a claimed request are the remainder
  pub remainder : lane ≡ Outward → b.claim ≡ None → length b.frames ≤ 1

-- WHAT WAITS, FLIES AND IS POSTED

abbrev pub flight_serial : Option FlightRecord → List ℕ
flight_serial None = []
flight_serial (Some f) = f.serial ∷ []

-- the first of these transfers are marked by these causes, and the others aren't marked
abbrev pub AreMarked : (ℕ → Option ℕ) → List ℕ → List ℕ → Type 0
AreMarked mark' [] causes = causes ≡ []
AreMarked mark' (k ∷ ks) [] = (mark' k ≡ None) × AreMarked mark' ks []
AreMarked mark' (k ∷ ks) (c ∷ cs) = (mark' k ≡ Some c) × AreMarked mark' ks cs

-- The transfers that wait are the deferred ones and then the queue, and the one that flies is the flight; marks, halt and posted
-- requests are those of the lines. No transfer that isn't made is marked, and where something is deferred nothing is queued or flies.
pub record AreQueued (deferred : List Buffer) (bus : Bus) (waiting' flying' : List ℕ) (mark' : ℕ → Option ℕ) (halted' : Bool) (posts' recalls' flights' made' : ℕ) : Type 0 where
  pub wait : waiting' ≡ map serial_of deferred ++ map serial_of bus.queue
  pub fly : flying' ≡ flight_serial bus.flight
  pub marked : AreMarked mark' (map serial_of bus.queue) bus.marks
  pub unmarked : AreMarked mark' (map serial_of deferred) []
  pub unmade : (j : ℕ) → made' ≤ j → mark' j ≡ None
  pub flight_marked : FlightIs (λ f. mark' f.serial ≡ bus.flight_mark) bus.flight
  pub halts : halted' ≡ bus.halted
  pub posted : recalls' + flights' + length bus.posted ≡ posts'
  pub grounded : 0 < length deferred → (bus.queue ≡ []) × (bus.flight ≡ None)

-- WHAT IS DONE, ARRIVED AND CURRENT

-- the transfers that are over and whose requests aren't home, by serial
abbrev pub finished : History → List ℕ
finished g = those (λ k. ended g k && nat_le (returned g) k) (made g)

abbrev pub opened_serial : Option Opened → Option ℕ
opened_serial None = None
opened_serial (Some o) = Some o.request.serial

-- of the current request the numbers from the next on aren't given, and there is one
pub record IsLeft (left' : ℕ → List ℕ) (o : Opened) : Type 0 where
  pub numbers : left' o.request.serial ≡ row_from o.next (o.request.to - o.next)
  pub some : o.next < o.request.to

abbrev pub CurrentIs : (Opened → Type 0) → Option Opened → Type 0
CurrentIs P None = Unit {0}
CurrentIs P (Some o) = P o

-- the done, the arrived and the current requests are those of the lines, in their order
pub record AreAtEnds (done : List Buffer) (arrived'' : List Buffer) (opened' : Option Opened) (finished' arrived' : List ℕ) (current' : Option ℕ) (left' : ℕ → List ℕ) : Type 0 where
  pub done_is : finished' ≡ map serial_of done
  pub arrived_is : arrived' ≡ map serial_of arrived''
  pub current_is : current' ≡ opened_serial opened'
  pub left_is : CurrentIs (IsLeft left') opened'

-- HOW OFTEN TRANSFERS WERE TRIED

-- so many attempts have failed of the first of these transfers, and none of the others
abbrev pub AreTried : (ℕ → ℕ) → List ℕ → ℕ → Type 0
AreTried attempts' [] count = count ≡ 0
AreTried attempts' (k ∷ ks) count = (attempts' k ≡ count) × AllByRecursion (λ j. attempts' j ≡ 0) ks

-- The failed attempts of the transfers that fly or are queued are those of the lines: the endpoint's count for the first, none for the
-- others. No transfer that is deferred or isn't made was tried.
pub record AreAttempts (deferred : List Buffer) (bus : Bus) (attempts' : ℕ → ℕ) (made' : ℕ) : Type 0 where
  pub tried : AreTried attempts' (flight_serial bus.flight ++ map serial_of bus.queue) bus.attempts
  pub deferred_untried : AllByRecursion (λ r. attempts' r.serial ≡ 0) deferred
  pub unmade_untried : (j : ℕ) → made' ≤ j → attempts' j ≡ 0

-- HOW MANY ARE HOME

-- the requests at home are as many as the lines say, told as sums
pub record AreCounted (tx_size' rx_size' : ℕ) (tx_home rx_home claims : ℕ) (made' returned' posts' recalls' failures' retries' cuts' delivered' : ℕ) : Type 0 where
  pub tx : made' + tx_home + claims ≡ tx_size' + returned'
  pub rx : posts' + rx_home ≡ rx_size' + recalls' + failures' + retries' + cuts' + delivered'

-- WHAT THE REQUESTS HOLD

-- the span and the bytes of the transfer's made line
pub record IsText (span' : ℕ → Option (ℕ × ℕ)) (bytes' : ℕ → List ℕ) (r : Buffer) : Type 0 where
  pub span_is : span' r.serial ≡ Some (r.from, r.to)
  pub bytes_are : bytes' r.serial ≡ r.bytes

-- each request that waits, has arrived or is current holds its transfer, and the flight has its span
pub record AreTexts (class : Class) (deferred queue arrived' : List Buffer) (opened' : Option Opened) (flight : Option FlightRecord) (span' : ℕ → Option (ℕ × ℕ)) (bytes' : ℕ → List ℕ) : Type 0 where
  pub deferred_texts : AllByRecursion (IsText span' bytes') deferred
  pub queued_texts : AllByRecursion (IsText span' bytes') queue
  pub arrived_texts : AllByRecursion (IsText span' bytes') arrived'
  pub current_text : CurrentIs (λ o. IsText span' bytes' o.request × (o.request.from ≤ o.next)) opened'
  pub flight_span : FlightIs (λ f. span' f.serial ≡ Some (f.from, f.to)) flight
  -- a made line has a span of one number or more, and its bytes are read as as many frames
  pub some : (k a b : ℕ) → span' k ≡ Some (a, b) → a < b
  pub whole : (k a b : ℕ) → span' k ≡ Some (a, b) → ReadsAs class (bytes' k) (b - a)

-- A path stands for the lane's lines g, the newest first.
pub record Stands (way : Way) (g : History) : Type 0 where
  pub sound : IsSound g
  pub placed : ArePlaced way.lane way.tx way.rx way.bus
  pub building : IsBuilt way.lane way.tx.params way.tx.builder way.accepted way.made (taken g) (made g) (cover g) (took_last g) (waited_after g (min (taken g - 1) (cover g + 1)))
  pub queues : AreQueued way.tx.deferred way.bus (waiting g) (flying g) (mark g) (halted g) (posts g) (recalls g) (flights g) (made g)
  pub tries : AreAttempts way.tx.deferred way.bus (attempts g) (made g)
  pub ends : AreAtEnds way.tx.done way.rx.arrived way.rx.current (finished g) (arrived g) (current g) (left_of g)
  pub counts : AreCounted (tx_size way.tx.params way.lane) (rx_size way.tx.params way.lane) (length way.tx.home) (length way.rx.home) (length (option_to_list way.tx.builder.claim)) (made g) (returned g) (posts g) (recalls g) (failures g) (retries g) (flight_cuts g) (length (delivered g))
  pub texts : AreTexts way.tx.params.class way.tx.deferred way.bus.queue way.rx.arrived way.rx.current way.bus.flight (span g) (made_bytes g)
