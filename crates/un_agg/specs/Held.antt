-- What a builder holds, as plain data, and the transmitting end that it is part of.
use Rattle.std.specs.Prelude.{◌≡◌, ℕ, ◌<◌, ◌&&◌, false, not, List, [], Option, None, Some}
use Rattle.un_facts.specs.Numbers.{one_if}
use Rattle.un_frame.specs.declared.params.Params.{Params}
use Rattle.un_frame.specs.declared.params.Lane.{Lane}
use Rattle.un_req.specs.Request.{Buffer, Store, has}
use Rattle.un_endpoint.specs.Ends.{Builder, Transmitter, is_block, is_built}

-- a request that a builder keeps: its number in its pool, and its capacity
pub record Claim : Type 0 where
  pub number : ℕ
  pub capacity : ℕ

abbrev pub claim_of : Buffer → Claim
claim_of r = record { number = r.number; capacity = r.capacity }

-- A builder: its parameters, the number of the first datagram that it holds, the frames of these, the request that it has
-- claimed of a lane's pool, and its pending count.
pub record Held : Type 0 where
  pub params : Params
  pub from : ℕ
  pub frames : List (List ℕ)
  pub claim : Option Claim
  pub pending : ℕ

-- a builder that holds nothing
abbrev pub nothing_held : Params → Held
nothing_held params = record { params = params; from = 0; frames = []; claim = None; pending = 0 }

abbrev pub claimed_number : Option Claim → Option ℕ
claimed_number None = None
claimed_number (Some claim) = Some claim.number

abbrev pub builder_of : Held → Builder
builder_of held = record { from = held.from; frames = held.frames; claim = claimed_number held.claim; pending = held.pending }

-- a builder and its pool, as a transmitting end of a lane in which nothing is deferred or done
abbrev pub end_of : Lane → Held → Store → Transmitter
end_of lane held store = record {
  params = held.params;
  lane = lane;
  size = store.count;
  capacity = store.capacity;
  home = store.home;
  builder = builder_of held;
  deferred = [];
  done = [];
}

-- a claimed request is out of the pool that it was taken from, and has its capacity
pub record IsClaim (store : Store) (claim : Claim) : Type 0 where
  pub known : claim.number < store.count
  pub away : has claim.number store.home ≡ false
  pub sized : claim.capacity ≡ store.capacity

abbrev pub IsClaimed : Store → Option Claim → Type 0
IsClaimed store None = Unit {0}
IsClaimed store (Some claim) = IsClaim store claim

-- how often the number of a datagram stands in the open block, and in the remainder
abbrev pub built_in : Lane → Held → ℕ → ℕ
built_in lane held number = one_if (is_block lane (claimed_number held.claim) && is_built (builder_of held) number)

abbrev pub left_in : Lane → Held → ℕ → ℕ
left_in lane held number = one_if (not (is_block lane (claimed_number held.claim)) && is_built (builder_of held) number)
