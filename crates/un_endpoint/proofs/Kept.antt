-- What an endpoint keeps after a flight was taken from it.
use Rattle.std.proofs.Common.{◌≡◌, ℕ, ◌-◌, ◌≤◌, List, [], ◌∷◌, length, drop, None, Some, slice_get, refl, arith, length-drop}
use Rattle.std.specs.List.{AllByRecursion}
use Rattle.circular_buffer.specs.Buffer.{Buffer as Ring, buffer}
use Rattle.un_req.specs.Request.{Buffer}
use Rattle.un_endpoint.specs.Inside.{IsSoundBus}
use Rattle.un_endpoint.specs.declared.record.FlightRecord.{FlightRecord}
use Rattle.un_endpoint.specs.declared.endpoint.Endpoint.TheInside.{Inside}

all_rest : {X : Type 0} (P : X → Type 0) (xs : List X) → AllByRecursion P xs → AllByRecursion P (drop 1 xs)
all_rest P [] a = tt
all_rest P (x ∷ xs) a = a.1

none_first : {X : Type 0} (xs : List X) → slice_get xs 0 ≡ None → length xs ≡ 0
none_first [] e = refl
none_first (x ∷ xs) e = absurd (cc)

some_none : {X : Type 0} {x : X} → Some x ≡ None → ⊥
some_none e = cc

pub departed : (e : Inside) (queue posted : Ring Buffer) (marks : Ring ℕ) (flight : FlightRecord) → IsSoundBus e
    → queue ≡ buffer (drop 1 e.queue.items) e.queue.capacity → posted ≡ buffer (drop 1 e.posted.items) e.posted.capacity
    → marks ≡ buffer (drop 1 e.marks.items) e.marks.capacity → slice_get e.marks.items 0 ≡ None
    → IsSoundBus (record e { queue = queue; posted = posted; marks = marks; flight = Some flight; mark = None })
departed e queue posted marks flight k q p m none =
    rw (q, p, m) (record {
      tx_fits = k.tx_fits;
      rx_fits = k.rx_fits;
      marks_fit = k.marks_fit;
      marked = let z : length e.marks.items ≡ 0 = none_first e.marks.items none in
          let l : length (drop 1 e.marks.items) ≡ length e.marks.items - 1 = length-drop _ _ in omega arith;
      first_marked = λ out none_marked. let z : length e.marks.items ≡ 0 = none_first e.marks.items none in
          let l : length (drop 1 e.marks.items) ≡ length e.marks.items - 1 = length-drop _ _ in omega arith;
      few_attempts = k.few_attempts;
      no_attempts = λ alone. absurd (some_none alone);
      full = let l : length (drop 1 e.queue.items) ≡ length e.queue.items - 1 = length-drop _ _ in
          let f : length e.queue.items ≤ e.queue.capacity = k.full in omega arith;
      posted_full = let l : length (drop 1 e.posted.items) ≡ length e.posted.items - 1 = length-drop _ _ in
          let f : length e.posted.items ≤ e.posted.capacity = k.posted_full in omega arith;
      short = all_rest _ e.queue.items k.short;
      wide = all_rest _ e.posted.items k.wide;
    })
