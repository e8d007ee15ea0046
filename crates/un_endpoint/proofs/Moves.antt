-- What always holds of a transmitting end holds after each of its calls.
use Rattle.std.proofs.Common.{◌≡◌, ℕ, ◌+◌, ◌-◌, ◌<◌, ◌≤◌, false, eqb, List, [], ◌∷◌, ◌++◌, length, map, Option, None, Some, option_to_list, refl, sym, ap, ◌∙◌, subst, arith, length-append}
use Rattle.std.specs.List.{AllByRecursion}
use Rattle.un_req.proofs.Homes.{numbers_length}
use Rattle.un_facts.proofs.Lists.{all_more}
use Rattle.un_facts.proofs.Copies.{copies_append}
use Rattle.un_facts.proofs.Numbers.{one_here}
use Rattle.un_facts.specs.Lists.{copies}
use Rattle.un_facts.specs.Numbers.{one_if}
use Rattle.un_frame.specs.declared.params.Lane.{Lane}
use Rattle.un_frame.specs.declared.params.Lane.TheVariants.{Outward, Inward}
use Rattle.un_req.specs.Request.{Buffer, has, number_of}
use Rattle.un_endpoint.specs.Ends.{Builder, IsAwayTx, Transmitter, tx_copies}
use Rattle.un_endpoint.specs.EndOutcomes.{DropsBuild, Makes, Offers, Ticks, Uses}
use Rattle.un_endpoint.specs.declared.outcome.Built.{Built}
use Rattle.un_endpoint.specs.declared.outcome.Built.TheVariants as built
use Rattle.un_endpoint.specs.declared.outcome.Ticked.{Ticked}
use Rattle.un_endpoint.specs.declared.outcome.Ticked.TheVariants as ticked
use Rattle.un_endpoint.specs.Sound.{IsSoundTx}
use Rattle.un_endpoint.proofs.Copies.{copies_last, few, none_has, one_cases}

-- how often a number stands at home, and with the builder
abbrev built_copies : Transmitter → ℕ → ℕ
built_copies t n = copies n t.home + copies n (option_to_list t.builder.claim)

rebuilt : (old : Transmitter) (home : List ℕ) (builder : Builder) → ((n : ℕ) → copies n home + copies n (option_to_list builder.claim) ≤ built_copies old n) → IsSoundTx old → IsSoundTx (record old { home = home; builder = builder })
rebuilt old home builder fewer s = record {
  in_range = s.in_range;
  agree = s.agree;
  capacity_is = s.capacity_is;
  places = record {
    once = λ n. let less = fewer n in let all : tx_copies old n ≤ 1 = s.places.once n in omega (arith, less, all);
    known = λ n big. let less = fewer n in let all : tx_copies old n ≡ 0 = s.places.known n big in omega (arith, less, all);
  };
  deferred_sized = s.deferred_sized;
  done_sized = s.done_sized;
}

-- what a builder uses
used : (old new : Transmitter) (k : ℕ) → Uses old new k → (n : ℕ) → copies n new.home + one_if (eqb n k) ≡ built_copies old n
used old new k (Uses.Claimed claim home) n =
    let same = ap (λ (ns : List ℕ). copies n ns) home in
    let one : copies n (option_to_list old.builder.claim) ≡ one_if (eqb n k) + 0 = ap (λ (c : Option ℕ). copies n (option_to_list c)) claim in
    omega (arith, same, one)
used old new k (Uses.FromHome claim known home) n =
    let split : copies n old.home ≡ copies n new.home + (one_if (eqb n k) + 0) = ap (λ (ns : List ℕ). copies n ns) home ∙ copies_append n new.home (k ∷ []) in
    let none : copies n (option_to_list old.builder.claim) ≡ 0 = ap (λ (c : Option ℕ). copies n (option_to_list c)) claim in
    omega (arith, split, none)

claim_none : (c : Option ℕ) (n : ℕ) → c ≡ None → copies n (option_to_list c) ≡ 0
claim_none c n e = ap (λ (o : Option ℕ). copies n (option_to_list o)) e

claim_some : (c : Option ℕ) (k n : ℕ) → c ≡ Some k → copies n (option_to_list c) ≡ one_if (eqb n k) + 0
claim_some c k n e = ap (λ (o : Option ℕ). copies n (option_to_list o)) e

module _ (old new : Transmitter) (s : IsSoundTx old) where
  same : new ≡ old → IsSoundTx new
  same e = subst IsSoundTx (sym e) s

  claims : (k : ℕ) → Uses old new k → new.builder.claim ≡ Some k → new ≡ record old { home = new.home; builder = new.builder } → IsSoundTx new
  claims k u c rest = subst IsSoundTx (sym rest) (rebuilt old new.home new.builder (λ n. let all = used old new k u n in let one = claim_some new.builder.claim k n c in omega (arith, all, one)) s)

  spends : (k : ℕ) → Uses old new k → new.builder.claim ≡ None → new ≡ record old { home = new.home; builder = new.builder } → IsSoundTx new
  spends k u c rest = subst IsSoundTx (sym rest) (rebuilt old new.home new.builder (λ n. let all = used old new k u n in let none = claim_none new.builder.claim n c in omega (arith, all, none)) s)

  leaves : new.home ≡ old.home → new.builder.claim ≡ None → new ≡ record old { home = new.home; builder = new.builder } → IsSoundTx new
  leaves home c rest = subst IsSoundTx (sym rest) (rebuilt old new.home new.builder (λ n. let at_home = ap (λ (ns : List ℕ). copies n ns) home in let none = claim_none new.builder.claim n c in omega (arith, at_home, none)) s)

  keeps : (lane : Lane) → old.lane ≡ lane → (old.lane ≡ Outward → (n : ℕ) × Uses old new n × (new.builder.claim ≡ Some n)) → (old.lane ≡ Inward → (new.home ≡ old.home) × (new.builder.claim ≡ None))
      → new ≡ record old { home = new.home; builder = new.builder } → IsSoundTx new
  keeps Outward e host gadget rest = let h = host e in claims h.0 h.1 h.2 rest
  keeps Inward e host gadget rest = let g = gadget e in leaves g.0 g.1 rest

  pub offers_sound : (frame : List ℕ) (number serial : ℕ) (answer : Built) → Offers old new frame number serial answer → IsSoundTx new
  offers_sound frame number serial built.Kept k = keeps old.lane refl k.host k.gadget k.rest
  offers_sound frame number serial (built.Made request) m = spends request.number m.uses m.no_claim m.rest
  offers_sound frame number serial built.Busy b = same b.same

  pub ticks_sound : (serial : ℕ) (answer : Ticked) → Ticks old new serial answer → IsSoundTx new
  ticks_sound serial ticked.Nothing t = same t.same
  ticks_sound serial ticked.Waited t = subst IsSoundTx (sym t.rest) (rebuilt old old.home (record old.builder { pending = old.builder.pending - 1 }) (λ n. omega arith) s)
  ticks_sound serial ticked.NoRequest t = same t.same
  ticks_sound serial (ticked.Made request) t = spends request.number t.uses t.no_claim t.rest

  pub drops_sound : (answer : Option (ℕ × ℕ)) → DropsBuild old new answer → IsSoundTx new
  drops_sound None d = same d.1
  drops_sound (Some span) d = subst IsSoundTx (sym d.rest) (rebuilt old (old.home ++ option_to_list old.builder.claim) _ (λ n. let all = copies_append n old.home (option_to_list old.builder.claim) in omega (arith, all)) s)

-- THE LISTS

-- a request that is in none of the places goes to the end of a list
module _ (t : Transmitter) (request : Buffer) (away : IsAwayTx t request) (s : IsSoundTx t) where
  one_more : (n : ℕ) → tx_copies t n + one_if (eqb n request.number) ≤ 1
  one_more n = one_cases n request.number 1 (tx_copies t n) (λ e. let none : tx_copies t n ≡ 0 = ap (tx_copies t) e ∙ away.away in omega (arith, none)) (s.places.once n)

  none_more : (n : ℕ) → t.size ≤ n → tx_copies t n + one_if (eqb n request.number) ≤ 0
  none_more n big = one_cases n request.number 0 (tx_copies t n) (λ e. absurd (let less : request.number < t.size = away.known in omega (arith, e, big, less))) (let none : tx_copies t n ≡ 0 = s.places.known n big in omega (arith, none))

  pub defer_sound : IsSoundTx (record t { deferred = t.deferred ++ request ∷ [] })
  defer_sound = record {
    in_range = s.in_range;
    agree = s.agree;
    capacity_is = s.capacity_is;
    places = record {
      once = λ n. let more = copies_last n t.deferred request in let all = one_more n in omega (arith, more, all);
      known = λ n big. let more = copies_last n t.deferred request in let all = none_more n big in omega (arith, more, all);
    };
    deferred_sized = all_more (λ (r : Buffer). r.capacity ≡ t.capacity) t.deferred request s.deferred_sized away.sized;
    done_sized = s.done_sized;
  }

  pub finish_sound : IsSoundTx (record t { done = t.done ++ request ∷ [] })
  finish_sound = record {
    in_range = s.in_range;
    agree = s.agree;
    capacity_is = s.capacity_is;
    places = record {
      once = λ n. let more = copies_last n t.done request in let all = one_more n in omega (arith, more, all);
      known = λ n big. let more = copies_last n t.done request in let all = none_more n big in omega (arith, more, all);
    };
    deferred_sized = s.deferred_sized;
    done_sized = all_more (λ (r : Buffer). r.capacity ≡ t.capacity) t.done request s.done_sized away.sized;
  }

  -- there is room for it in each list
  abbrev others : List ℕ
  others = request.number ∷ (map number_of t.deferred ++ map number_of t.done)

  others_are : (n : ℕ) → copies n others ≤ tx_copies t n + one_if (eqb n request.number)
  others_are n = let both = copies_append n (map number_of t.deferred) (map number_of t.done) in omega (arith, both)

  fit : length others ≤ t.size
  fit = few others t.size (λ n. let less = others_are n in let all = one_more n in omega (arith, less, all)) (λ n big. let less = others_are n in let all = none_more n big in omega (arith, less, all))

  pub rooms : (length t.deferred < t.size) × (length t.done < t.size)
  rooms =
      let all = fit in
      let both = length-append (map number_of t.deferred) (map number_of t.done) in
      let one = numbers_length t.deferred in
      let two = numbers_length t.done in
      (omega (arith, all, both, one, two), omega (arith, all, both, one, two))

-- the first of a list leaves it
pub undefer_sound : (t : Transmitter) (request : Buffer) (left : List Buffer) → t.deferred ≡ request ∷ left → IsSoundTx t → IsSoundTx (record t { deferred = left })
undefer_sound t request left e s = record {
  in_range = s.in_range;
  agree = s.agree;
  capacity_is = s.capacity_is;
  places = record {
    once = λ n. let first : copies n (map number_of t.deferred) ≡ one_if (eqb n request.number) + copies n (map number_of left) = ap (λ (rs : List Buffer). copies n (map number_of rs)) e in let all : tx_copies t n ≤ 1 = s.places.once n in omega (arith, first, all);
    known = λ n big. let first : copies n (map number_of t.deferred) ≡ one_if (eqb n request.number) + copies n (map number_of left) = ap (λ (rs : List Buffer). copies n (map number_of rs)) e in let all : tx_copies t n ≡ 0 = s.places.known n big in omega (arith, first, all);
  };
  deferred_sized = (subst (AllByRecursion (λ (r : Buffer). r.capacity ≡ t.capacity)) e s.deferred_sized).1;
  done_sized = s.done_sized;
}

pub home_sound : (t : Transmitter) (request : Buffer) (left : List Buffer) → t.done ≡ request ∷ left → IsSoundTx t → IsSoundTx (record t { home = t.home ++ request.number ∷ []; done = left })
home_sound t request left e s = record {
  in_range = s.in_range;
  agree = s.agree;
  capacity_is = s.capacity_is;
  places = record {
    once = λ n. let first : copies n (map number_of t.done) ≡ one_if (eqb n request.number) + copies n (map number_of left) = ap (λ (rs : List Buffer). copies n (map number_of rs)) e in let all : tx_copies t n ≤ 1 = s.places.once n in let more = copies_append n t.home (request.number ∷ []) in omega (arith, first, all, more);
    known = λ n big. let first : copies n (map number_of t.done) ≡ one_if (eqb n request.number) + copies n (map number_of left) = ap (λ (rs : List Buffer). copies n (map number_of rs)) e in let all : tx_copies t n ≡ 0 = s.places.known n big in let more = copies_append n t.home (request.number ∷ []) in omega (arith, first, all, more);
  };
  deferred_sized = s.deferred_sized;
  done_sized = (subst (AllByRecursion (λ (r : Buffer). r.capacity ≡ t.capacity)) e s.done_sized).1;
}

-- no call changes the number of requests
pub offers_size : (old new : Transmitter) (frame : List ℕ) (number serial : ℕ) (answer : Built) → Offers old new frame number serial answer → new.size ≡ old.size
offers_size old new frame number serial built.Kept k = ap (λ (t : Transmitter). t.size) k.rest
offers_size old new frame number serial (built.Made request) m = ap (λ (t : Transmitter). t.size) m.rest
offers_size old new frame number serial built.Busy b = ap (λ (t : Transmitter). t.size) b.same

pub ticks_size : (old new : Transmitter) (serial : ℕ) (answer : Ticked) → Ticks old new serial answer → new.size ≡ old.size
ticks_size old new serial ticked.Nothing t = ap (λ (t' : Transmitter). t'.size) t.same
ticks_size old new serial ticked.Waited t = ap (λ (t' : Transmitter). t'.size) t.rest
ticks_size old new serial ticked.NoRequest t = ap (λ (t' : Transmitter). t'.size) t.same
ticks_size old new serial (ticked.Made request) t = ap (λ (t' : Transmitter). t'.size) t.rest

pub drops_size : (old new : Transmitter) (answer : Option (ℕ × ℕ)) → DropsBuild old new answer → new.size ≡ old.size
drops_size old new None d = ap (λ (t : Transmitter). t.size) d.1
drops_size old new (Some span) d = ap (λ (t : Transmitter). t.size) d.rest

-- a claimed request isn't home
pub claim_apart : (t : Transmitter) (k : ℕ) → t.builder.claim ≡ Some k → IsSoundTx t → has k t.home ≡ false
claim_apart t k e s =
    let claimed = claim_some t.builder.claim k k e in
    let one = one_here k in
    let all : tx_copies t k ≤ 1 = s.places.once k in
    none_has k t.home (omega (arith, claimed, one, all))

-- what an end makes is in none of its places, where each number stands in one at most
pub made_away : (old new : Transmitter) (frame : List ℕ) (number serial : ℕ) (request : Buffer) → ((n : ℕ) → tx_copies old n ≤ 1) → Makes old new frame number serial request → IsAwayTx new request
made_away old new frame number serial request one_place m =
    let k = request.number in
    let size : new.size ≡ old.size = ap (λ (t : Transmitter). t.size) m.rest in
    let capacity : new.capacity ≡ old.capacity = ap (λ (t : Transmitter). t.capacity) m.rest in
    let deferred : copies k (map number_of new.deferred) ≡ copies k (map number_of old.deferred) = ap (λ (t : Transmitter). copies k (map number_of t.deferred)) m.rest in
    let done : copies k (map number_of new.done) ≡ copies k (map number_of old.done) = ap (λ (t : Transmitter). copies k (map number_of t.done)) m.rest in
    let none = claim_none new.builder.claim k m.no_claim in
    let all = used old new k m.uses k in
    let one = one_here k in
    let once : tx_copies old k ≤ 1 = one_place k in
    let known : k < old.size = m.made.known in
    record { known = omega (arith, size, known); sized = m.made.sized ∙ sym capacity; away = omega (arith, deferred, done, none, all, one, once) }
