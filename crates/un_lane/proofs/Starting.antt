-- A fresh path stands for the empty history.
use Rattle.std.proofs.Common.{◌≡◌, ℕ, zero, suc, ◌+◌, ◌<◌, ◌≤◌, Bool, true, false, ◌&&◌, eqb, [], ◌∷◌, ◌++◌, length, None, inl, inr, refl, sym, ap, ◌∙◌, subst, arith}
use Rattle.std.proofs.lemmas.Bool.{cases_lt}
use Rattle.std.proofs.lemmas.List.{length_push}
use Rattle.un_req.proofs.Homes.{upto_once}
use Rattle.un_facts.proofs.Copies.{copies_last}
use Rattle.un_facts.proofs.Numbers.{one_here}
use Rattle.un_facts.specs.Lists.{copies}
use Rattle.un_facts.specs.Numbers.{one_if}
use Rattle.un_frame.specs.declared.params.Params.{Params}
use Rattle.un_frame.specs.declared.params.Lane.{Lane}
use Rattle.un_frame.specs.declared.params.Lane.TheVariants.{Outward, Inward}
use Rattle.un_frame.specs.Lanes.{packs, tx_size, rx_size}
use Rattle.un_req.specs.Request.{upto}
use Rattle.un_endpoint.specs.Bus.{no_bus}
use Rattle.un_endpoint.specs.Ends.{Transmitter, Receiver, nothing_built}
use Rattle.un_lane.specs.Fresh.{AreFresh}
use Rattle.un_lane.specs.Stands.{Stands, claims_when, pends_when}

has_copy : (m n : ℕ) → n < m → 1 ≤ copies n (upto m)
has_copy zero n h = absurd (omega arith)
has_copy (suc m) n h =
    let e : copies n (upto m ++ m ∷ []) ≡ copies n (upto m) + one_if (eqb n m) = copies_last n (upto m) m in
    elim (cases_lt n m) [
      | inl low ↦ let r : 1 ≤ copies n (upto m) = has_copy m n low in omega arith
      | inr high ↦ let o : one_if (eqb n m) ≡ 1 = ap (λ i. one_if (eqb n i)) (let s : m ≡ n = omega arith in s) ∙ one_here n in omega arith
    ]

length_upto : (m : ℕ) → length (upto m) ≡ m
length_upto zero = refl
length_upto (suc m) = let e : length (upto m ++ m ∷ []) ≡ length (upto m) + 1 = length_push (upto m) m in let r : length (upto m) ≡ m = length_upto m in omega arith

no_claim : (lane : Lane) (b : Bool) → false ≡ claims_when lane (b && false && false)
no_claim Outward true = refl
no_claim Outward false = refl
no_claim Inward b = refl

no_pend : (lane : Lane) (b : Bool) (n : ℕ) → 0 ≡ pends_when lane (b && false && false) n
no_pend Outward true n = refl
no_pend Outward false n = refl
no_pend Inward b n = refl

pub fresh_stands : (lane : Lane) (params : Params) (tx_count rx_count tx_capacity rx_capacity : ℕ) → tx_count ≡ tx_size params lane → rx_count ≡ rx_size params lane → tx_capacity ≤ rx_capacity
    → Stands (record {
      lane = lane;
      accepted = 0;
      made = 0;
      tx = record { params = params; lane = lane; size = tx_count; capacity = tx_capacity; home = upto tx_count; builder = nothing_built; deferred = []; done = [] };
      rx = record { params = params; size = rx_count; capacity = rx_capacity; home = upto rx_count; arrived = []; current = None };
      bus = no_bus tx_count rx_count tx_capacity;
    }) []
fresh_stands lane params tx_count rx_count tx_capacity rx_capacity t r w = record {
  sound = tt;
  placed = record {
    side = refl;
    one_params = refl;
    no_deferred = λ i. refl;
    tx_size_is = t;
    rx_size_is = r;
    tx_room_is = refl;
    rx_room_is = refl;
    largest_is = refl;
    wide = w;
    tx_once = λ n. let o : copies n (upto tx_count) ≤ 1 = upto_once tx_count n in omega arith;
    rx_once = λ n. let o : copies n (upto rx_count) ≤ 1 = upto_once rx_count n in omega arith;
    tx_some = λ n low. let o : 1 ≤ copies n (upto tx_count) = has_copy tx_count n low in omega arith;
    rx_some = λ n low. let o : 1 ≤ copies n (upto rx_count) = has_copy rx_count n low in omega arith;
    tx_all = let l : length (upto tx_count) ≡ tx_count = length_upto tx_count in omega arith;
    rx_all = let l : length (upto rx_count) ≡ rx_count = length_upto rx_count in omega arith;
    deferred_are = tt;
    queued_are = tt;
    posted_are = tt;
    flight_is = tt;
  };
  building = record {
    accepted_is = refl;
    made_is = refl;
    covered = omega arith;
    from_is = λ h. refl;
    claimed = no_claim lane (packs params.class lane);
    pends = no_pend lane (packs params.class lane) _;
    blocks = λ h. absurd (omega arith);
    remainder = λ o n. omega arith;
  };
  queues = record {
    wait = refl;
    fly = refl;
    marked = refl;
    unmarked = refl;
    unmade = λ j h. refl;
    flight_marked = tt;
    halts = refl;
    posted = omega arith;
    grounded = λ h. absurd (omega arith);
  };
  tries = record { tried = refl; deferred_untried = tt; unmade_untried = λ j h. refl };
  ends = record { done_is = refl; arrived_is = refl; current_is = refl; left_is = tt };
  counts = record {
    tx = let l : length (upto tx_count) ≡ tx_count = length_upto tx_count in omega (arith, t);
    rx = let l : length (upto rx_count) ≡ rx_count = length_upto rx_count in omega (arith, r);
  };
  texts = record { deferred_texts = tt; queued_texts = tt; arrived_texts = tt; current_text = tt; flight_span = tt; some = λ k a b e. absurd (cc); whole = λ k a b e. absurd (cc) };
}

pub start_stands : (lane : Lane) (t : Transmitter) (r : Receiver) (tx_count rx_count : ℕ) → AreFresh lane t r tx_count rx_count
    → Stands (record { lane = lane; accepted = 0; made = 0; tx = t; rx = r; bus = no_bus tx_count rx_count t.capacity }) []
start_stands lane t r tx_count rx_count f =
    subst (λ u. Stands (record { lane = lane; accepted = 0; made = 0; tx = u; rx = r; bus = no_bus tx_count rx_count t.capacity }) []) (sym f.tx_is)
    (subst (λ u. Stands (record { lane = lane; accepted = 0; made = 0; tx = record { params = t.params; lane = lane; size = tx_count; capacity = t.capacity; home = upto tx_count; builder = nothing_built; deferred = []; done = [] }; rx = u; bus = no_bus tx_count rx_count t.capacity }) []) (sym f.rx_is)
    (fresh_stands lane t.params tx_count rx_count t.capacity r.capacity f.tx_count_is f.rx_count_is f.wide))
