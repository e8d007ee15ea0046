-- What a receiving end keeps after each of its calls, over its fields.
use Rattle.std.proofs.Common.{◌≡◌, ℕ, ◌+◌, ◌-◌, ◌<◌, List, [], ◌∷◌, ◌++◌, length, Option, None, Some, is_some, false, IfSome, IfNone, refl, sym, ap, ◌∙◌, subst, arith}
use Rattle.un_frame.specs.Lanes.{rx_size}
use Rattle.un_frame.specs.declared.params.Lane.{Lane}
use Rattle.un_frame.specs.declared.params.Params.{Params}
use Rattle.un_frame.specs.Parts.{datagram_of}
use Rattle.un_frame.specs.Wire.{Coding, capacity_of}
use Rattle.un_wire.specs.Codings.{coding_of, fresh}
use Rattle.un_wire.specs.Cursors.{part_index}
use Rattle.un_wire.specs.declared.codec.Codec.{Codec}
use Rattle.un_req.specs.Request.{Buffer, IsOut, Store, blank, upto}
use Rattle.un_endpoint.specs.Ends.{IsAwayRx, IsWhole}
use Rattle.un_endpoint.specs.EndOutcomes.{IsLent}
use Rattle.un_endpoint.specs.Rows.{Row, no_requests}
use Rattle.un_receive.specs.Rx.{IsSoundRx, fresh_rx}
use Rattle.un_receive.specs.Reading.{IsLaneRx, IsReading, IsReadingIf, opened_of, receiver_in}
use Rattle.un_receive.specs.declared.receiver.Current.{Current}
use Rattle.un_receive.specs.declared.receiver.LaneRx.TheInside.{Inside}
use Rattle.un_receive.proofs.RxLemmas.{arrive_sound, closed_away, closed_sound, fresh_sound, has_room, home_sound, is_out, leave_sound, open_sound, open_whole}

pub none_now : {X : Type 0} (o : Option X) → is_some o ≡ false → o ≡ None
none_now None e = refl
none_now (Some x) e = absurd (cc)

-- an end with another pool
module _ {L : Type 0} (end : Inside L) (k : IsLaneRx end) where
  pub refilled : (pool : Store) (answer : Option Buffer)
      → IfSome answer (λ r. (r ≡ blank r.number end.pool.capacity) × (r.number < end.pool.count) × (end.pool ≡ record pool { home = pool.home ++ r.number ∷ [] }) × IsOut pool r)
      → IfNone answer ((end.pool.home ≡ []) × (pool ≡ end.pool)) → IsLaneRx (record end { pool = pool })
  refilled pool None some none = rw none.1 k
  refilled pool (Some request) some none =
      let home = ap (λ (p : Store). p.home) some.2 in
      let count = ap (λ (p : Store). p.count) some.2 in
      let capacity = ap (λ (p : Store). p.capacity) some.2 in
      let left : pool ≡ record end.pool { home = pool.home } = rw (count, capacity) refl in
      rw left (record { sound = leave_sound (receiver_in end) request.number pool.home home k.sound; reading = k.reading; room = k.room })

  pub room : (request : Buffer) → IsAwayRx (receiver_in end) request → length end.arrived.requests < end.arrived.room
  room request away = let less = has_room (receiver_in end) request away k.sound in let same = k.room in omega (arith, less, same)

  pub arrives : (row : Row) (request : Buffer) → IsAwayRx (receiver_in end) request → IsWhole (coding_of end.codec).params request → row ≡ record end.arrived { requests = end.arrived.requests ++ request ∷ [] }
      → IsLaneRx (record end { arrived = row })
  arrives row request away whole is = rw is (record { sound = arrive_sound (receiver_in end) request away k.sound whole; reading = k.reading; room = k.room })

  pub comes_home : (pool : Store) (request : Buffer) → IsAwayRx (receiver_in end) request → pool ≡ record end.pool { home = end.pool.home ++ request.number ∷ [] } → IsLaneRx (record end { pool = pool })
  comes_home pool request away is = rw is (record { sound = home_sound (receiver_in end) request away k.sound; reading = k.reading; room = k.room })

  pub opens : (row : Row) (request : Buffer) (current : Current) → end.current ≡ None → end.arrived ≡ record row { requests = request ∷ row.requests } → current.request ≡ request
      → IsReading (coding_of end.codec).params.class current → IsLaneRx (record end { arrived = row; current = Some current })
  opens row request current none first same reading =
      let requests = ap (λ (r : Row). r.requests) first in
      let room = ap (λ (r : Row). r.room) first in
      let at = open_sound (receiver_in end) request row.requests current.next (ap opened_of none) requests k.sound in
      record {
        sound = subst (λ (b : Buffer). IsSoundRx (record (receiver_in end) { arrived = row.requests; current = Some (record { request = b; next = current.next }) })) (sym same) at;
        reading = reading;
        room = sym room ∙ k.room;
      }

  pub whole : (row : Row) (request : Buffer) → end.current ≡ None → end.arrived ≡ record row { requests = request ∷ row.requests } → IsWhole (coding_of end.codec).params request
  whole row request none first = open_whole (receiver_in end) request row.requests 0 (ap opened_of none) (ap (λ (r : Row). r.requests) first) k.sound

  -- the current request is out of the pool, and goes home
  module _ (current : Current) (is : end.current ≡ Some current) where
    away : IsAwayRx (record (receiver_in end) { current = None }) current.request
    away = closed_away (receiver_in end) (record { request = current.request; next = current.next }) (ap opened_of is) k.sound

    sound : IsSoundRx (record (receiver_in end) { current = None })
    sound = closed_sound (receiver_in end) (record { request = current.request; next = current.next }) (ap opened_of is) k.sound

    pub current_out : IsOut end.pool current.request
    current_out = is_out (record (receiver_in end) { current = None }) current.request away sound

    pub finishes : (pool : Store) → pool ≡ record end.pool { home = end.pool.home ++ current.request.number ∷ [] } → IsLaneRx (record end { pool = pool; current = None })
    finishes pool is_home = rw is_home (record { sound = home_sound (record (receiver_in end) { current = None }) current.request away sound; reading = tt; room = k.room })

-- the part at the cursor is the next datagram
pub lends : {L : Type 0} (end : Inside L) (current : Current) (part : List ℕ) → IsLaneRx end → end.current ≡ Some current
    → part ≡ datagram_of (coding_of end.codec).params.class current.request.bytes (part_index (coding_of end.codec).params.class current.request.bytes current.cursor) → IsLent (receiver_in end) current.next part
lends end current part k is part_is =
    let class = (coding_of end.codec).params.class in
    let reading : IsReading class current = subst (IsReadingIf class) is k.reading in
    let from : current.request.from + part_index class current.request.bytes current.cursor ≡ current.next = reading.index in
    let index : part_index class current.request.bytes current.cursor ≡ current.next - current.request.from = omega (arith, from) in
    record { opened = record { request = current.request; next = current.next }; is_current = ap opened_of is; number_is = refl; bytes_are = part_is ∙ ap (datagram_of class current.request.bytes) index }

-- a new end
pub started : {L : Type 0} (lane : Lane) (params : Params) (codec : Codec) (size capacity : ℕ) (pool : Store) (arrived : Row) → coding_of codec ≡ fresh params → size ≡ rx_size params lane → capacity ≡ capacity_of (coding_of codec).params
    → pool ≡ record { count = size; capacity = capacity; home = upto size } → arrived ≡ no_requests size → IsLaneRx {L = L} (record { codec = codec; pool = pool; arrived = arrived; current = None; lane = record {} })
started lane params codec size capacity pool arrived coding_is size_is capacity_is pool_is arrived_is =
    let params_are : (coding_of codec).params ≡ params = ap (λ (c : Coding). c.params) coding_is in
    let capacity_too : capacity ≡ capacity_of params = capacity_is ∙ ap capacity_of params_are in
    let at : IsSoundRx (record (fresh_rx lane params) { params = (coding_of codec).params }) = rw params_are (fresh_sound lane params) in
    rw (pool_is, arrived_is, capacity_too, size_is) (record { sound = at; reading = tt; room = refl })
