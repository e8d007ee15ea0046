-- What the two ends of a lane hold, as plain data.
use Rattle.std.specs.Prelude.{◌≡◌, ℕ, ◌+◌, ◌-◌, ◌<◌, Bool, true, ◌&&◌, not, List, [], ◌∷◌, length, map, is_some, Option, None, Some, option_to_list}
use Rattle.un_facts.specs.Lists.{copies}
use Rattle.un_facts.specs.Numbers.{one_if, within}
use Rattle.un_frame.specs.declared.params.Params.{Params}
use Rattle.un_frame.specs.declared.params.Lane.{Lane}
use Rattle.un_frame.specs.declared.params.Lane.TheVariants.{Outward, Inward}
use Rattle.un_frame.specs.Parts.{ReadsAs}
use Rattle.un_req.specs.Request.{Buffer, number_of}
use Rattle.un_endpoint.specs.Bus.{queued_count}

-- What is built: the number of the first datagram, the frames of these, the number of the request that the open block
-- claims, and the pending count. Frames without a claim are, at a host, the remainder.
pub record Builder : Type 0 where
  pub from : ℕ
  pub frames : List (List ℕ)
  pub claim : Option ℕ
  pub pending : ℕ

abbrev pub nothing_built : Builder
nothing_built = record { from = 0; frames = []; claim = None; pending = 0 }

-- A transmitting end: its parameters, its lane (an outward one keeps a deferred list), the number of its requests and their
-- capacity, the numbers of those at home, what is built, and the deferred and the done requests.
pub record Transmitter : Type 0 where
  pub params : Params
  pub lane : Lane
  pub size : ℕ
  pub capacity : ℕ
  pub home : List ℕ
  pub builder : Builder
  pub deferred : List Buffer
  pub done : List Buffer

-- how often a number stands in the end's places, and how many requests are there
abbrev pub tx_copies : Transmitter → ℕ → ℕ
tx_copies t n = copies n t.home + copies n (option_to_list t.builder.claim) + copies n (map number_of t.deferred) + copies n (map number_of t.done)

abbrev pub tx_count : Transmitter → ℕ
tx_count t = length t.home + length (option_to_list t.builder.claim) + length t.deferred + length t.done

-- a request belongs to the end and is in none of its places
pub record IsAwayTx (t : Transmitter) (request : Buffer) : Type 0 where
  pub known : request.number < t.size
  pub sized : request.capacity ≡ t.capacity
  pub away : tx_copies t request.number ≡ 0

-- a request that is being read, and the next datagram of it
pub record Opened : Type 0 where
  pub request : Buffer
  pub next : ℕ

-- A receiving end: its parameters, the number of its requests and their capacity, the numbers of those at home, the arrived
-- requests, and the current one.
pub record Receiver : Type 0 where
  pub params : Params
  pub size : ℕ
  pub capacity : ℕ
  pub home : List ℕ
  pub arrived : List Buffer
  pub current : Option Opened

abbrev pub opened_number : Option Opened → List ℕ
opened_number None = []
opened_number (Some o) = o.request.number ∷ []

abbrev pub rx_copies : Receiver → ℕ → ℕ
rx_copies r n = copies n r.home + copies n (map number_of r.arrived) + copies n (opened_number r.current)

abbrev pub rx_count : Receiver → ℕ
rx_count r = length r.home + length r.arrived + length (opened_number r.current)

pub record IsAwayRx (r : Receiver) (request : Buffer) : Type 0 where
  pub known : request.number < r.size
  pub sized : request.capacity ≡ r.capacity
  pub away : rx_copies r request.number ≡ 0

-- a request holds a transfer with as many frames as its span has numbers, of which there is at least one
pub record IsWhole (params : Params) (request : Buffer) : Type 0 where
  pub some : request.from < request.to
  pub reads : ReadsAs params.class request.bytes (request.to - request.from)

-- THE CENSUS OF A NUMBER

-- whether what is built is an open block: at a host where it has claimed a request, at a gadget always
abbrev pub is_block : Lane → Option ℕ → Bool
is_block Outward claim = is_some claim
is_block Inward claim = true

abbrev pub is_built : Builder → ℕ → Bool
is_built b number = within b.from (b.from + length b.frames) number

-- how often the number of a datagram stands in the open block, in the remainder, and in the deferred transfers
abbrev pub built_count : Transmitter → ℕ → ℕ
built_count t number = one_if (is_block t.lane t.builder.claim && is_built t.builder number)

abbrev pub remainder_count : Transmitter → ℕ → ℕ
remainder_count t number = one_if (not (is_block t.lane t.builder.claim) && is_built t.builder number)

abbrev pub deferred_count : Transmitter → ℕ → ℕ
deferred_count t number = queued_count number t.deferred

-- how often it stands in the arrived transfers, and in what is left of the current one
abbrev pub arrived_count : Receiver → ℕ → ℕ
arrived_count r number = queued_count number r.arrived

abbrev pub current_count : Option Opened → ℕ → ℕ
current_count None number = 0
current_count (Some o) number = one_if (within o.next o.request.to number)
