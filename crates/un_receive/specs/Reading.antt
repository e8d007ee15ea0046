-- How a receiving end keeps what it holds.
use Rattle.std.specs.Prelude.{◌≡◌, ◌+◌, ◌<◌, Option, None, Some}
use Rattle.un_frame.specs.declared.params.Class.{Class}
use Rattle.un_wire.specs.Codings.{coding_of}
use Rattle.un_wire.specs.Cursors.{IsAt, part_count, part_index}
use Rattle.un_endpoint.specs.Ends.{Opened, Receiver}
use Rattle.un_receive.specs.Rx.{IsSoundRx}
use Rattle.un_receive.specs.declared.receiver.Current.{Current}
use Rattle.un_receive.specs.declared.receiver.LaneRx.TheInside.{Inside}

abbrev pub opened_of : Option Current → Option Opened
opened_of None = None
opened_of (Some current) = Some (record { request = current.request; next = current.next })

abbrev pub receiver_in : {L : Type 0} → Inside L → Receiver
receiver_in end = record {
  params = (coding_of end.codec).params;
  size = end.pool.count;
  capacity = end.pool.capacity;
  home = end.pool.home;
  arrived = end.arrived.requests;
  current = opened_of end.current;
}

-- The cursor stands in the transfer, whose parts are as many as its span has numbers, at the part of the next number; a part
-- is left.
pub record IsReading (class : Class) (current : Current) : Type 0 where
  pub here : IsAt class current.request.bytes current.cursor
  pub whole : current.request.from + part_count class current.request.bytes ≡ current.request.to
  pub index : current.request.from + part_index class current.request.bytes current.cursor ≡ current.next
  pub left : current.next < current.request.to

abbrev pub IsReadingIf : Class → Option Current → Type 0
IsReadingIf class None = Unit {0}
IsReadingIf class (Some current) = IsReading class current

-- there is room for each arrived request
pub record IsLaneRx {L : Type 0} (end : Inside L) : Type 0 where
  pub sound : IsSoundRx (receiver_in end)
  pub reading : IsReadingIf (coding_of end.codec).params.class end.current
  pub room : end.arrived.room ≡ end.pool.count
