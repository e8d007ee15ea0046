-- A receiving end: how it begins, and what always holds of it.
use Rattle.std.specs.Prelude.{◌≡◌, ℕ, ◌≤◌, [], Option, None, Some}
use Rattle.std.specs.List.{AllByRecursion}
use Rattle.un_frame.specs.Lanes.{rx_size}
use Rattle.un_frame.specs.declared.params.Params.{Params}
use Rattle.un_frame.specs.declared.params.Lane.{Lane}
use Rattle.un_frame.specs.Wire.{capacity_of}
use Rattle.un_req.specs.Request.{upto}
use Rattle.un_endpoint.specs.Ends.{Opened, Receiver, IsWhole, rx_copies}

-- a new end: all of its requests are home
abbrev pub fresh_rx : Lane → Params → Receiver
fresh_rx lane params = record {
  params = params;
  size = rx_size params lane;
  capacity = capacity_of params;
  home = upto (rx_size params lane);
  arrived = [];
  current = None;
}

-- each request's number is below the size, and stands in at most one place, once
pub record IsOnceRx (r : Receiver) : Type 0 where
  pub once : (n : ℕ) → rx_copies r n ≤ 1
  pub known : (n : ℕ) → r.size ≤ n → rx_copies r n ≡ 0

-- the request that is being read has a capacity
abbrev pub IsSized : ℕ → Option Opened → Type 0
IsSized capacity None = Unit {0}
IsSized capacity (Some opened) = opened.request.capacity ≡ capacity

-- what arrived is whole, and has the capacity of the end's requests
pub record IsSoundRx (r : Receiver) : Type 0 where
  pub places : IsOnceRx r
  pub whole : AllByRecursion (λ request. IsWhole r.params request) r.arrived
  pub arrived_sized : AllByRecursion (λ request. request.capacity ≡ r.capacity) r.arrived
  pub current_sized : IsSized r.capacity r.current
