-- What always holds of a transmitting end.
use Rattle.std.specs.Prelude.{◌≡◌, ℕ, ◌≤◌, []}
use Rattle.std.specs.List.{AllByRecursion}
use Rattle.un_frame.specs.Lanes.{tx_size}
use Rattle.un_frame.specs.declared.params.Params.{Params}
use Rattle.un_frame.specs.declared.params.Lane.{Lane}
use Rattle.un_frame.specs.Params.{AreInRange, Agree}
use Rattle.un_frame.specs.Wire.{capacity_of}
use Rattle.un_req.specs.Request.{upto}
use Rattle.un_endpoint.specs.Ends.{Transmitter, nothing_built, tx_copies}

-- a new end: all of its requests are home, and nothing is built
abbrev pub fresh_tx : Lane → Params → Transmitter
fresh_tx lane params = record {
  params = params;
  lane = lane;
  size = tx_size params lane;
  capacity = capacity_of params;
  home = upto (tx_size params lane);
  builder = nothing_built;
  deferred = [];
  done = [];
}

-- each request's number is below the size, and stands in at most one place, once
pub record IsOnce (t : Transmitter) : Type 0 where
  pub once : (n : ℕ) → tx_copies t n ≤ 1
  pub known : (n : ℕ) → t.size ≤ n → tx_copies t n ≡ 0

pub record IsSoundTx (t : Transmitter) : Type 0 where
  pub in_range : AreInRange t.params
  pub agree : Agree t.params
  pub capacity_is : t.capacity ≡ capacity_of t.params
  pub places : IsOnce t
  pub deferred_sized : AllByRecursion (λ request. request.capacity ≡ t.capacity) t.deferred
  pub done_sized : AllByRecursion (λ request. request.capacity ≡ t.capacity) t.done
