-- What always holds of a receiving end holds after each of its calls.
use Rattle.std.proofs.Common.{◌≡◌, ℕ, ◌+◌, ◌<◌, ◌≤◌, eqb, List, [], ◌∷◌, ◌++◌, length, map, Option, None, Some, sym, ap, ◌∙◌, subst, arith}
use Rattle.std.specs.List.{AllByRecursion}
use Rattle.un_req.proofs.Homes.{numbers_length, upto_none, upto_once}
use Rattle.un_frame.specs.Lanes.{rx_size}
use Rattle.un_facts.proofs.Lists.{all_more}
use Rattle.un_facts.proofs.Copies.{copies_append}
use Rattle.un_facts.proofs.Numbers.{one_here}
use Rattle.un_facts.specs.Lists.{copies}
use Rattle.un_facts.specs.Numbers.{one_if}
use Rattle.un_frame.specs.declared.params.Lane.{Lane}
use Rattle.un_frame.specs.declared.params.Params.{Params}
use Rattle.un_req.specs.Request.{Buffer, IsOut, Store, number_of}
use Rattle.un_endpoint.specs.Ends.{IsAwayRx, IsWhole, Opened, Receiver, opened_number, rx_copies}
use Rattle.un_endpoint.proofs.Copies.{below_size, copies_last, few, none_has, one_cases}
use Rattle.un_receive.specs.Rx.{IsSized, IsSoundRx, fresh_rx}

-- the pool of an end
abbrev pub store_of : Receiver → Store
store_of r = record { count = r.size; capacity = r.capacity; home = r.home }

pub fresh_sound : (lane : Lane) (params : Params) → IsSoundRx (fresh_rx lane params)
fresh_sound lane params = record {
  places = record {
    once = λ n. let home = upto_once (rx_size params lane) n in omega (arith, home);
    known = λ n big. let home = upto_none (rx_size params lane) n big in omega (arith, home);
  };
  whole = tt;
  arrived_sized = tt;
  current_sized = tt;
}

-- A REQUEST THAT IS IN NONE OF THE PLACES

module _ (r : Receiver) (request : Buffer) (away : IsAwayRx r request) (s : IsSoundRx r) where
  one_more : (n : ℕ) → rx_copies r n + one_if (eqb n request.number) ≤ 1
  one_more n = one_cases n request.number 1 (rx_copies r n) (λ e. let none : rx_copies r n ≡ 0 = ap (rx_copies r) e ∙ away.away in omega (arith, none)) (s.places.once n)

  none_more : (n : ℕ) → r.size ≤ n → rx_copies r n + one_if (eqb n request.number) ≤ 0
  none_more n big = one_cases n request.number 0 (rx_copies r n) (λ e. absurd (let less : request.number < r.size = away.known in omega (arith, e, big, less))) (let none : rx_copies r n ≡ 0 = s.places.known n big in omega (arith, none))

  -- goes to the end of the arrived ones
  pub arrive_sound : IsWhole r.params request → IsSoundRx (record r { arrived = r.arrived ++ request ∷ [] })
  arrive_sound whole = record {
    places = record {
      once = λ n. let more = copies_last n r.arrived request in let all = one_more n in omega (arith, more, all);
      known = λ n big. let more = copies_last n r.arrived request in let all = none_more n big in omega (arith, more, all);
    };
    whole = all_more (λ (b : Buffer). IsWhole r.params b) r.arrived request s.whole whole;
    arrived_sized = all_more (λ (b : Buffer). b.capacity ≡ r.capacity) r.arrived request s.arrived_sized away.sized;
    current_sized = s.current_sized;
  }

  -- for which there is room
  fit : length (request.number ∷ map number_of r.arrived) ≤ r.size
  fit = few (request.number ∷ map number_of r.arrived) r.size (λ n. let all = one_more n in omega (arith, all)) (λ n big. let all = none_more n big in omega (arith, all))

  pub has_room : length r.arrived < r.size
  has_room = let all = fit in let same = numbers_length r.arrived in omega (arith, all, same)

  -- or comes home
  pub home_sound : IsSoundRx (record r { home = r.home ++ request.number ∷ [] })
  home_sound = record {
    places = record {
      once = λ n. let more = copies_append n r.home (request.number ∷ []) in let all = one_more n in omega (arith, more, all);
      known = λ n big. let more = copies_append n r.home (request.number ∷ []) in let all = none_more n big in omega (arith, more, all);
    };
    whole = s.whole;
    arrived_sized = s.arrived_sized;
    current_sized = s.current_sized;
  }

  pub is_out : IsOut (store_of r) request
  is_out =
      let all : rx_copies r request.number ≡ 0 = away.away in
      record { known = away.known; away = none_has request.number r.home (omega (arith, all)); sized = away.sized }

-- the last of the home requests leaves
pub leave_sound : (r : Receiver) (number : ℕ) (home : List ℕ) → r.home ≡ home ++ number ∷ [] → IsSoundRx r → IsSoundRx (record r { home = home })
leave_sound r number home e s =
    let split = λ (n : ℕ). ap (λ (ns : List ℕ). copies n ns) e ∙ copies_append n home (number ∷ []) in
    record {
      places = record {
        once = λ n. let parts : copies n r.home ≡ copies n home + copies n (number ∷ []) = split n in let all : rx_copies r n ≤ 1 = s.places.once n in omega (arith, parts, all);
        known = λ n big. let parts : copies n r.home ≡ copies n home + copies n (number ∷ []) = split n in let all : rx_copies r n ≡ 0 = s.places.known n big in omega (arith, parts, all);
      };
      whole = s.whole;
      arrived_sized = s.arrived_sized;
      current_sized = s.current_sized;
    }

-- the first arrived request becomes the current one
module _ (r : Receiver) (request : Buffer) (left : List Buffer) (next : ℕ) (none : r.current ≡ None) (first : r.arrived ≡ request ∷ left) (s : IsSoundRx r) where
  moved : (n : ℕ) → copies n (map number_of r.arrived) + copies n (opened_number r.current) ≡ copies n (map number_of left) + copies n (request.number ∷ [])
  moved n =
      let arrived : copies n (map number_of r.arrived) ≡ one_if (eqb n request.number) + copies n (map number_of left) = ap (λ (rs : List Buffer). copies n (map number_of rs)) first in
      let current : copies n (opened_number r.current) ≡ 0 = ap (λ (o : Option Opened). copies n (opened_number o)) none in
      omega (arith, arrived, current)

  pub open_sound : IsSoundRx (record r { arrived = left; current = Some (record { request = request; next = next }) })
  open_sound = record {
    places = record {
      once = λ n. let same = moved n in let all : rx_copies r n ≤ 1 = s.places.once n in omega (arith, same, all);
      known = λ n big. let same = moved n in let all : rx_copies r n ≡ 0 = s.places.known n big in omega (arith, same, all);
    };
    whole = (subst (AllByRecursion (λ (b : Buffer). IsWhole r.params b)) first s.whole).1;
    arrived_sized = (subst (AllByRecursion (λ (b : Buffer). b.capacity ≡ r.capacity)) first s.arrived_sized).1;
    current_sized = (subst (AllByRecursion (λ (b : Buffer). b.capacity ≡ r.capacity)) first s.arrived_sized).0;
  }

  pub open_whole : IsWhole r.params request
  open_whole = (subst (AllByRecursion (λ (b : Buffer). IsWhole r.params b)) first s.whole).0

-- the current request stays with another number, or is out of the pool and comes home
module _ (r : Receiver) (opened : Opened) (is : r.current ≡ Some opened) (s : IsSoundRx r) where
  current_copies : (n : ℕ) → copies n (opened_number r.current) ≡ one_if (eqb n opened.request.number) + 0
  current_copies n = ap (λ (o : Option Opened). copies n (opened_number o)) is

  sized : opened.request.capacity ≡ r.capacity
  sized = subst (IsSized r.capacity) is s.current_sized

  pub step_sound : (next : ℕ) → IsSoundRx (record r { current = Some (record opened { next = next }) })
  step_sound next = record {
    places = record {
      once = λ n. let same = current_copies n in let all : rx_copies r n ≤ 1 = s.places.once n in omega (arith, same, all);
      known = λ n big. let same = current_copies n in let all : rx_copies r n ≡ 0 = s.places.known n big in omega (arith, same, all);
    };
    whole = s.whole;
    arrived_sized = s.arrived_sized;
    current_sized = sized;
  }

  pub closed_sound : IsSoundRx (record r { current = None })
  closed_sound = record {
    places = record {
      once = λ n. let all : rx_copies r n ≤ 1 = s.places.once n in omega (arith, all);
      known = λ n big. let all : rx_copies r n ≡ 0 = s.places.known n big in omega (arith, all);
    };
    whole = s.whole;
    arrived_sized = s.arrived_sized;
    current_sized = tt;
  }

  pub closed_away : IsAwayRx (record r { current = None }) opened.request
  closed_away =
      let k = opened.request.number in
      let here = current_copies k in
      let one = one_here k in
      let all : rx_copies r k ≤ 1 = s.places.once k in
      record {
        known = below_size k r.size (λ big. let none : rx_copies r k ≡ 0 = s.places.known k big in absurd (omega (arith, none, here, one)));
        sized = sized;
        away = omega (arith, here, one, all);
      }
