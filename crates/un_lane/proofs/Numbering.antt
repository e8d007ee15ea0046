-- How often the number of a datagram stands in each place, by what the path has.
use Rattle.std.proofs.Common.{◌≡◌, ℕ, zero, suc, ◌+◌, ◌-◌, ◌<◌, Bool, true, false, not, ◌&&◌, nat_lt, List, [], ◌∷◌, length, map, Option, Some, None, is_some, ◌⊎◌, inl, inr, refl, sym, ap, ◌∙◌, arith}
use Rattle.std.proofs.lemmas.Bool.{false≢true}
use Rattle.std.proofs.lemmas.Bool.Decides.{nat_tests}
use Rattle.std.specs.List.{AllByRecursion}
use Rattle.un_facts.specs.Numbers.{one_if, within}
use Rattle.un_frame.specs.declared.params.Lane.{Lane}
use Rattle.un_frame.specs.declared.params.Lane.TheVariants.{Outward, Inward}
use Rattle.un_frame.specs.declared.params.Params.{Params}
use Rattle.un_frame.specs.declared.kinds.Phase.{Phase}
use Rattle.un_frame.specs.Lanes.{packs}
use Rattle.un_req.specs.Request.{Buffer}
use Rattle.un_endpoint.specs.declared.record.FlightRecord.{FlightRecord}
use Rattle.un_endpoint.specs.Bus.{queued_count, flight_count}
use Rattle.un_endpoint.specs.Ends.{Builder, Opened as Current, is_block, is_built, built_count, remainder_count, deferred_count, arrived_count, current_count}
use Rattle.un_journal.specs.declared.census.Census.{Census}
use Rattle.un_journal.specs.Census.{occurrences, numbers_of, built_numbers, in_block, outside_block, left_in, lane_census}
use Rattle.un_journal.specs.History.{History, taken, cover, took_last, span, made_bytes, left_of, span_numbers, row_from}
use Rattle.un_journal.specs.Lookup.{block_open, is_asleep}
use Rattle.un_journal.proofs.ForLane.{occurrences_append, occurrences_numbers, occurrences_row}
use Rattle.un_lane.specs.Way.{Way}
use Rattle.un_lane.specs.Phases.{Agrees}
use Rattle.un_lane.specs.Stands.{Stands, IsText, IsLeft, CurrentIs, FlightIs, claims_when, opened_serial, serial_of, flight_serial}
use Rattle.un_lane.proofs.Lookups.{queued_is, deferred_is}

-- NUMBERS IN A ROW

between_none : (a n : ℕ) → within a (a + 0) n ≡ false
between_none a n = grind (arith, nat_tests)

span_count : (n a b : ℕ) → a < b → occurrences n (row_from a (b - a)) ≡ one_if (within a b n)
span_count n a b h = occurrences_numbers n a b (omega arith)

-- TRANSFERS

spans_count : (g : History) (n : ℕ) (xs : List Buffer) → ((k a b : ℕ) → span g k ≡ Some (a, b) → a < b) → AllByRecursion (IsText (span g) (made_bytes g)) xs → occurrences n (numbers_of g (map serial_of xs)) ≡ queued_count n xs
unfolding queued_count
spans_count g n [] some a = refl
spans_count g n (x ∷ xs) some a =
    occurrences_append n (span_numbers (span g x.serial)) (numbers_of g (map serial_of xs))
    ∙ (ap (λ k. k + occurrences n (numbers_of g (map serial_of xs))) (ap (λ s. occurrences n (span_numbers s)) a.0.span_is ∙ span_count n x.from x.to (some x.serial x.from x.to a.0.span_is))
    ∙ ap (λ k. one_if (within x.from x.to n) + k) (spans_count g n xs some a.1))

flight_counted : (g : History) (n : ℕ) (flight : Option FlightRecord) → ((k a b : ℕ) → span g k ≡ Some (a, b) → a < b) → FlightIs (λ f. span g f.serial ≡ Some (f.from, f.to)) flight
    → occurrences n (numbers_of g (flight_serial flight)) ≡ flight_count n flight
flight_counted g n None some a = refl
flight_counted g n (Some f) some a =
    occurrences_append n (span_numbers (span g f.serial)) []
    ∙ (let z : occurrences n (span_numbers (span g f.serial)) + 0 ≡ occurrences n (span_numbers (span g f.serial)) = omega arith in z
    ∙ (ap (λ s. occurrences n (span_numbers s)) a ∙ span_count n f.from f.to (some f.serial f.from f.to a)))

current_counted : (g : History) (n : ℕ) (c : Option Current) → CurrentIs (IsLeft (left_of g)) c → occurrences n (left_in g (opened_serial c)) ≡ current_count c n
current_counted g n None a = refl
current_counted g n (Some o) a = ap (occurrences n) a.numbers ∙ span_count n o.next o.request.to a.some

-- WHAT IS BUILT

built_some : (b : Builder) (n : ℕ) → is_built b n ≡ true → 0 < length b.frames
built_some b n e = elim (cases_lt_zero (length b.frames)) [
  | inl h ↦ h
  | inr z ↦ absurd (false≢true (sym (between_none b.from n) ∙ (ap (λ k. within b.from (b.from + k) n) (sym z) ∙ e)))
]
  where
    cases_lt_zero : (m : ℕ) → (0 < m) ⊎ (m ≡ 0)
    cases_lt_zero zero = inr refl
    cases_lt_zero (suc m) = inl (omega arith)

built_is : (way : Way) (g : History) (n : ℕ) → Stands way g → occurrences n (built_numbers g) ≡ one_if (is_built way.tx.builder n)
built_is way g n w =
    ap (λ m. occurrences n (row_from (cover g) m)) (let s : taken g - cover g ≡ length way.tx.builder.frames = let c : cover g + length way.tx.builder.frames ≡ taken g = w.building.covered in omega arith in s)
    ∙ (occurrences_row n (cover g) (length way.tx.builder.frames) ∙ go (length way.tx.builder.frames) refl)
  where
    go : (m : ℕ) → length way.tx.builder.frames ≡ m → one_if (within (cover g) (cover g + length way.tx.builder.frames) n) ≡ one_if (is_built way.tx.builder n)
    go zero e =
        ap (λ k. one_if (within (cover g) (cover g + k) n)) e ∙ (ap one_if (between_none (cover g) n ∙ sym (between_none way.tx.builder.from n))
        ∙ ap (λ k. one_if (within way.tx.builder.from (way.tx.builder.from + k) n)) (sym e))
    go (suc m) e = ap (λ a. one_if (within a (a + length way.tx.builder.frames) n)) (sym (w.building.from_is (omega (arith, e))))

-- where a number is built, the block is open as the builder says
block_is : (lane : Lane) (params : Params) (g : History) (b : Builder) → is_some b.claim ≡ claims_when lane (packs params.class lane && nat_lt 0 (taken g - cover g) && took_last g)
    → (0 < length b.frames → packs params.class lane ≡ true) → cover g + length b.frames ≡ taken g → 0 < length b.frames → block_open params lane g ≡ is_block lane b.claim
block_is Outward params g b claimed blocks covered some = sym claimed
block_is Inward params g b claimed blocks covered some = rw (blocks some) (let s : nat_lt 0 (taken g - cover g) ≡ true = yes (taken g - cover g) (omega (arith, covered)) in s)
  where
    yes : (m : ℕ) → 0 < m → nat_lt 0 m ≡ true
    yes m h = grind (arith, nat_tests)

in_count : (n : ℕ) (b : Bool) (ns : List ℕ) (z : Bool) → occurrences n ns ≡ one_if z → occurrences n (in_block b ns) ≡ one_if (b && z)
in_count n true ns z e = e
in_count n false ns z e = refl

out_count : (n : ℕ) (b : Bool) (ns : List ℕ) (z : Bool) → occurrences n ns ≡ one_if z → occurrences n (outside_block b ns) ≡ one_if (not b && z)
out_count n true ns z e = refl
out_count n false ns z e = e

and_same : (x y z : Bool) → (z ≡ true → x ≡ y) → (x && z) ≡ (y && z)
and_same x y true h = ap (λ b. b && true) (h refl)
and_same true true false h = refl
and_same true false false h = refl
and_same false true false h = refl
and_same false false false h = refl

builder_counted : (way : Way) (g : History) (n : ℕ) → Stands way g → occurrences n (in_block (block_open way.tx.params way.lane g) (built_numbers g)) ≡ built_count way.tx n
builder_counted way g n w =
    in_count n (block_open way.tx.params way.lane g) (built_numbers g) (is_built way.tx.builder n) (built_is way g n w)
    ∙ (ap one_if (and_same (block_open way.tx.params way.lane g) (is_block way.lane way.tx.builder.claim) (is_built way.tx.builder n)
    (λ e. block_is way.lane way.tx.params g way.tx.builder w.building.claimed w.building.blocks w.building.covered (built_some way.tx.builder n e)))
    ∙ ap (λ l. one_if (is_block l way.tx.builder.claim && is_built way.tx.builder n)) (sym w.placed.side))

remainder_counted : (way : Way) (g : History) (n : ℕ) → Stands way g → occurrences n (outside_block (block_open way.tx.params way.lane g) (built_numbers g)) ≡ remainder_count way.tx n
remainder_counted way g n w =
    out_count n (block_open way.tx.params way.lane g) (built_numbers g) (is_built way.tx.builder n) (built_is way g n w)
    ∙ (ap one_if (and_same (not (block_open way.tx.params way.lane g)) (not (is_block way.lane way.tx.builder.claim)) (is_built way.tx.builder n)
    (λ e. ap not (block_is way.lane way.tx.params g way.tx.builder w.building.claimed w.building.blocks w.building.covered (built_some way.tx.builder n e))))
    ∙ ap (λ l. one_if (not (is_block l way.tx.builder.claim) && is_built way.tx.builder n)) (sym w.placed.side))

-- ALL PLACES

abbrev pub census_of : Way → ℕ → Census
census_of way n = record {
  builder = built_count way.tx n;
  remainder = remainder_count way.tx n;
  deferred = deferred_count way.tx n;
  queued = queued_count n way.bus.queue;
  flying = flight_count n way.bus.flight;
  arrived = arrived_count way.rx n;
  current = current_count way.rx.current n;
  given = 0;
  lost = 0;
}

same_census : (b b' r r' d d' q q' f f' a a' c c' : ℕ) → b ≡ b' → r ≡ r' → d ≡ d' → q ≡ q' → f ≡ f' → a ≡ a' → c ≡ c'
    → (let x : Census = record { builder = b; remainder = r; deferred = d; queued = q; flying = f; arrived = a; current = c; given = 0; lost = 0 } in x)
    ≡ record { builder = b'; remainder = r'; deferred = d'; queued = q'; flying = f'; arrived = a'; current = c'; given = 0; lost = 0 }
same_census b b' r r' d d' q q' f f' a a' c c' e1 e2 e3 e4 e5 e6 e7 = rw (e1, e2, e3, e4, e5, e6, e7) refl

pub census_is : (phase : Phase) (way : Way) (g : History) (n : ℕ) → Stands way g → Agrees (is_asleep phase) way → census_of way n ≡ record (lane_census way.tx.params phase way.lane g n) { given = 0; lost = 0 }
census_is phase way g n w a = same_census _ _ _ _ _ _ _ _ _ _ _ _ _ _
    (sym (builder_counted way g n w))
    (sym (remainder_counted way g n w))
    (sym (ap (λ ks. occurrences n (numbers_of g ks)) (deferred_is phase way g w a) ∙ spans_count g n way.tx.deferred w.texts.some w.texts.deferred_texts))
    (sym (ap (λ ks. occurrences n (numbers_of g ks)) (queued_is phase way g w a) ∙ spans_count g n way.bus.queue w.texts.some w.texts.queued_texts))
    (sym (ap (λ ks. occurrences n (numbers_of g ks)) w.queues.fly ∙ flight_counted g n way.bus.flight w.texts.some w.texts.flight_span))
    (sym (ap (λ ks. occurrences n (numbers_of g ks)) w.ends.arrived_is ∙ spans_count g n way.rx.arrived w.texts.some w.texts.arrived_texts))
    (sym (ap (λ c. occurrences n (left_in g c)) w.ends.current_is ∙ current_counted g n way.rx.current w.ends.left_is))
