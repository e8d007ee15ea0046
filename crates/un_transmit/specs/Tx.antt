-- How a transmitting end keeps what it holds.
use Rattle.std.specs.Prelude.{◌≡◌}
use Rattle.un_frame.specs.declared.params.Lane.{Lane}
use Rattle.un_req.specs.Request.{Store}
use Rattle.un_endpoint.specs.Ends.{Transmitter}
use Rattle.un_endpoint.specs.Rows.{Row}
use Rattle.un_endpoint.specs.Sound.{IsSoundTx}
use Rattle.un_agg.specs.Held.{Held, IsClaimed, end_of}

-- a lane's builder and pool, with the deferred and the done requests
abbrev pub transmitter_in : Lane → Held → Store → Row → Row → Transmitter
transmitter_in lane held pool deferred done = record (end_of lane held pool) { deferred = deferred.requests; done = done.requests }

pub record IsLaneTx (lane : Lane) (held : Held) (pool : Store) (deferred done : Row) : Type 0 where
  pub sound : IsSoundTx (transmitter_in lane held pool deferred done)
  pub claimed : IsClaimed pool held.claim
  pub deferred_room : deferred.room ≡ pool.count
  pub done_room : done.room ≡ pool.count
