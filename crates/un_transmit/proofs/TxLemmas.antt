-- What a transmitting end keeps holds after each of its calls.
use Rattle.std.proofs.Common.{◌≡◌, ℕ, ◌<◌, ◌≤◌, List, [], ◌∷◌, ◌++◌, length, Option, None, Some, IfSome, IfNone, IsTrue, refl, sym, ap, ◌∙◌, subst, arith}
use Rattle.un_frame.specs.Lanes.{tx_size}
use Rattle.un_frame.specs.declared.params.Lane.{Lane}
use Rattle.un_frame.specs.declared.params.Params.{Params}
use Rattle.un_frame.specs.Params.{AreInRange, Agree}
use Rattle.un_frame.specs.Wire.{Coding, capacity_of, frame_fits}
use Rattle.un_wire.specs.Codings.{fresh}
use Rattle.un_req.specs.Request.{Buffer, Store, upto}
use Rattle.un_endpoint.specs.Ends.{IsAwayTx, Transmitter}
use Rattle.un_endpoint.specs.EndOutcomes.{DropsBuild, Offers, Ticks}
use Rattle.un_endpoint.specs.declared.outcome.Built.{Built}
use Rattle.un_endpoint.specs.declared.outcome.Ticked.{Ticked}
use Rattle.un_endpoint.specs.Rows.{BringsHome, IsFirstOut, Row, no_requests}
use Rattle.un_endpoint.specs.Sound.{IsSoundTx}
use Rattle.un_endpoint.proofs.Starts.{done_out, fresh_sound, segment_fits_tx}
use Rattle.un_endpoint.proofs.Lifts.{drops, offers, ticks}
use Rattle.un_endpoint.proofs.Moves.{claim_apart, defer_sound, drops_size, drops_sound, finish_sound, home_sound, offers_size, offers_sound, rooms, ticks_size, ticks_sound}
use Rattle.un_agg.specs.Held.{Claim, Held, IsClaimed, claimed_number, end_of, nothing_held}
use Rattle.un_transmit.specs.Tx.{IsLaneTx, transmitter_in}

-- a claimed request is still out after another one came home
claimed_still : (store : Store) (home : List ℕ) (claim : Option Claim) (t : Transmitter) → t.home ≡ home → t.builder.claim ≡ claimed_number claim → IsSoundTx t → IsClaimed store claim → IsClaimed (record store { home = home }) claim
claimed_still store home None t h e s c = tt
claimed_still store home (Some claim) t h e s c = record { known = c.known; away = rw (← h) (claim_apart t claim.number e s); sized = c.sized }

module _ {lane : Lane} {held : Held} {pool : Store} {deferred done : Row} (k : IsLaneTx lane held pool deferred done) where
  abbrev pub before : Transmitter
  before = transmitter_in lane held pool deferred done

  -- with another builder and pool
  module _ (held' : Held) (pool' : Store) where
    abbrev pub after : Transmitter
    after = transmitter_in lane held' pool' deferred done

    kept : IsSoundTx after → IsClaimed pool' held'.claim → pool'.count ≡ pool.count → IsLaneTx lane held' pool' deferred done
    kept sound claimed size = record { sound = sound; claimed = claimed; deferred_room = k.deferred_room ∙ sym size; done_room = k.done_room ∙ sym size }

    pub offered : (frame : List ℕ) (number serial : ℕ) (answer : Built) → Offers (end_of lane held pool) (end_of lane held' pool') frame number serial answer → IsClaimed pool' held'.claim → IsLaneTx lane held' pool' deferred done
    offered frame number serial answer o claimed =
        let lifted = offers deferred.requests done.requests (end_of lane held pool) (end_of lane held' pool') frame number serial answer o in
        kept (offers_sound before after k.sound frame number serial answer lifted) claimed (offers_size before after frame number serial answer lifted)

    pub ticked : (serial : ℕ) (answer : Ticked) → Ticks (end_of lane held pool) (end_of lane held' pool') serial answer → IsClaimed pool' held'.claim → IsLaneTx lane held' pool' deferred done
    ticked serial answer t claimed =
        let lifted = ticks deferred.requests done.requests (end_of lane held pool) (end_of lane held' pool') serial answer t in
        kept (ticks_sound before after k.sound serial answer lifted) claimed (ticks_size before after serial answer lifted)

    pub dropped : (answer : Option (ℕ × ℕ)) → DropsBuild (end_of lane held pool) (end_of lane held' pool') answer → held'.claim ≡ None → IsLaneTx lane held' pool' deferred done
    dropped answer d none =
        let lifted = drops deferred.requests done.requests (end_of lane held pool) (end_of lane held' pool') answer d in
        kept (drops_sound before after k.sound answer lifted) (subst (IsClaimed pool') (sym none) tt) (drops_size before after answer lifted)

  -- a list with one request more
  pub deferred_more : (row : Row) (request : Buffer) → IsAwayTx before request → row ≡ record deferred { requests = deferred.requests ++ request ∷ [] } → IsLaneTx lane held pool row done
  deferred_more row request away is = rw is (record { sound = defer_sound before request away k.sound; claimed = k.claimed; deferred_room = k.deferred_room; done_room = k.done_room })

  pub done_more : (row : Row) (request : Buffer) → IsAwayTx before request → row ≡ record done { requests = done.requests ++ request ∷ [] } → IsLaneTx lane held pool deferred row
  done_more row request away is = rw is (record { sound = finish_sound before request away k.sound; claimed = k.claimed; deferred_room = k.deferred_room; done_room = k.done_room })

  pub has_room : (request : Buffer) → IsAwayTx before request → (length deferred.requests < deferred.room) × (length done.requests < done.room)
  has_room request away =
      let room = rooms before request away k.sound in
      let one = k.deferred_room in
      let two = k.done_room in
      (omega (arith, room.0, one), omega (arith, room.1, two))

  -- a frame of at most a segment fits an empty transfer
  pub fits : (size : ℕ) → size ≤ held.params.segment → IsTrue (frame_fits held.params [] size)
  fits size most = segment_fits_tx before size k.sound most

  -- the first of the done requests comes home
  pub first_out : IsFirstOut pool done.requests
  first_out = done_out before k.sound

  pub came_home : (answer : Option ℕ) (pool' : Store) (done' : Row) → IfSome answer (BringsHome pool pool' done done') → IfNone answer ((done.requests ≡ []) × (done' ≡ done) × (pool' ≡ pool))
      → IsLaneTx lane held pool' deferred done'
  came_home None pool' done' some none = rw (none.1, none.2) k
  came_home (Some serial) pool' done' some none =
      let requests = ap (λ (r : Row). r.requests) some.left in
      let room = ap (λ (r : Row). r.room) some.left in
      let home = pool.home ++ some.request.number ∷ [] in
      let sound = home_sound before some.request done'.requests requests k.sound in
      let new : Store = record pool { home = home } in
      let at : IsLaneTx lane held new deferred done' = record {
        sound = sound;
        claimed = claimed_still pool home held.claim (transmitter_in lane held new deferred done') refl refl sound k.claimed;
        deferred_room = k.deferred_room;
        done_room = sym room ∙ k.done_room;
      } in
      subst (λ (p : Store). IsLaneTx lane held p deferred done') (sym some.home) at

-- a new end
pub started : (lane : Lane) (params : Params) (coding : Coding) (size capacity : ℕ) (held : Held) (pool : Store) (deferred done : Row) → AreInRange params → Agree params → coding ≡ fresh params → size ≡ tx_size params lane
    → capacity ≡ capacity_of coding.params → held ≡ nothing_held coding.params → pool ≡ record { count = size; capacity = capacity; home = upto size } → deferred ≡ no_requests size → done ≡ no_requests size
    → IsLaneTx lane held pool deferred done
started lane params coding size capacity held pool deferred done in_range agree coding_is size_is capacity_is held_is pool_is deferred_is done_is =
    let capacity_too : capacity ≡ capacity_of params = capacity_is ∙ ap (λ (c : Coding). capacity_of c.params) coding_is in
    let held_too : held ≡ nothing_held params = held_is ∙ ap (λ (c : Coding). nothing_held c.params) coding_is in
    rw (held_too, pool_is, deferred_is, done_is, capacity_too, size_is) (record { sound = fresh_sound lane params in_range agree; claimed = tt; deferred_room = refl; done_room = refl })
