-- A new transmitting end, and the first request of a list that comes home.
use Rattle.std.proofs.Common.{◌≡◌, ℕ, ◌+◌, ◌≤◌, eqb, List, [], ◌∷◌, map, IsTrue, refl, ap, subst, arith}
use Rattle.std.specs.List.{AllByRecursion}
use Rattle.un_req.proofs.Homes.{upto_none, upto_once}
use Rattle.un_frame.specs.Lanes.{tx_size}
use Rattle.un_facts.proofs.Numbers.{one_here}
use Rattle.un_facts.specs.Lists.{copies}
use Rattle.un_facts.specs.Numbers.{one_if}
use Rattle.un_frame.specs.declared.params.Lane.{Lane}
use Rattle.un_frame.specs.declared.params.Params.{Params}
use Rattle.un_frame.specs.Params.{AreInRange, Agree}
use Rattle.un_frame.specs.Wire.{frame_fits}
use Rattle.un_frame.proofs.FrameLemmas.{segment_fits}
use Rattle.un_req.specs.Request.{Buffer, number_of}
use Rattle.un_endpoint.specs.Ends.{Transmitter, tx_copies}
use Rattle.un_endpoint.specs.Rows.{IsFirstOut}
use Rattle.un_endpoint.specs.Sound.{IsSoundTx, fresh_tx}
use Rattle.un_endpoint.proofs.Copies.{below_size, none_has}

pub fresh_sound : (lane : Lane) (params : Params) → AreInRange params → Agree params → IsSoundTx (fresh_tx lane params)
fresh_sound lane params in_range agree = record {
  in_range = in_range;
  agree = agree;
  capacity_is = refl;
  places = record {
    once = λ n. let home = upto_once (tx_size params lane) n in omega (arith, home);
    known = λ n big. let home = upto_none (tx_size params lane) n big in omega (arith, home);
  };
  deferred_sized = tt;
  done_sized = tt;
}

-- the first done request is out of the pool
first_done : (t : Transmitter) (requests : List Buffer) → t.done ≡ requests → IsSoundTx t → IsFirstOut (record { count = t.size; capacity = t.capacity; home = t.home }) requests
first_done t [] e s = tt
first_done t (request ∷ left) e s =
    let here : copies request.number (map number_of t.done) ≡ one_if (eqb request.number request.number) + copies request.number (map number_of left) = ap (λ (rs : List Buffer). copies request.number (map number_of rs)) e in
    let one = one_here request.number in
    let all : tx_copies t request.number ≤ 1 = s.places.once request.number in
    record {
      known = below_size request.number t.size (λ big. let none : tx_copies t request.number ≡ 0 = s.places.known request.number big in absurd (omega (arith, none, here, one)));
      away = none_has request.number t.home (omega (arith, here, one, all));
      sized = (subst (AllByRecursion (λ (r : Buffer). r.capacity ≡ t.capacity)) e s.done_sized).0;
    }

pub done_out : (t : Transmitter) → IsSoundTx t → IsFirstOut (record { count = t.size; capacity = t.capacity; home = t.home }) t.done
done_out t s = first_done t t.done refl s

-- what a frame needs to fit an empty transfer
pub segment_fits_tx : (t : Transmitter) (size : ℕ) → IsSoundTx t → size ≤ t.params.segment → IsTrue (frame_fits t.params [] size)
segment_fits_tx t size s most = segment_fits t.params size s.in_range s.agree most
