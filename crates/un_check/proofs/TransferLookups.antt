-- What the look-ups of a lane's lines are, by what is kept of its transfers.
use Rattle.std.proofs.Common.{◌≡◌, ℕ, ◌+◌, ◌-◌, ◌<◌, ◌≤◌, Bool, true, false, not, ◌&&◌, ◌||◌, ◌==◌, nat_lt, nat_le, max, length, [], ◌∷◌, is_some, refl, ap, ◌∙◌, arith, inl, inr, if◌then◌else◌}
use Rattle.std.proofs.lemmas.Bool.{lt-ltb, le-ltb, eq-eqb, ne_eqb, cases_eq, cases_lt, le-leb, lt-leb, false≢true}
use Rattle.un_facts.specs.Numbers.{one_if}
use Rattle.un_frame.specs.declared.kinds.Phase.TheVariants.{Asleep}
use Rattle.un_frame.specs.declared.params.Lane.TheVariants.{Outward, Inward}
use Rattle.un_journal.specs.History.{History, made, flies, waits, ended, mark, returned, those, row_from}
use Rattle.un_check.specs.Transfers.{Transfers, AreOf}
use Rattle.un_check.specs.TransferLaws.{FlyingIsKept, WaitingIsKept, QueuedIsKept, DeferredIsKept, UnmarkedIsKept, ReturnedIsKept}
use Rattle.un_check.specs.TransferLines.{first_waiting, first_unmarked, serials_from, unmarked_serials}
use Rattle.un_check.proofs.Rows.{those_row, none_those}
use Rattle.un_check.proofs.TransferCounts.{out_made}

-- a test that passes one number alone, or none
one_those : (p : ℕ → Bool) (n over : ℕ) (b : Bool) → (b ≡ true → over < n) → ((k : ℕ) → k < n → p k ≡ (b && k == over)) → those p n ≡ (if b then over ∷ [] else [])
one_those p n over false low is = none_those p n is
one_those p n over true low is = those_row p n over 1 (record {
  before = λ k l h. is k h ∙ ne_eqb k over (λ e. omega arith);
  among = λ k l h. is k (let w : over < n = low refl in omega arith) ∙ eq-eqb k over (omega arith);
  after = λ k l h. is k h ∙ ne_eqb k over (λ e. omega arith);
  within = let w : over < n = low refl in omega arith;
})

pub flying_is : FlyingIsKept
flying_is g t w = ap (those (flies g)) w.made_is ∙ one_those (flies g) (length t.all) t.over t.is_out (out_made t w.counts) (λ k h. w.flies_is k)

-- a test that passes the numbers from one on, and no others
from_those : (p : ℕ → Bool) (n a : ℕ) → a ≤ n → ((k : ℕ) → k < n → k < a → p k ≡ false) → ((k : ℕ) → k < n → a ≤ k → p k ≡ true) → those p n ≡ row_from a (n - a)
from_those p n a w low high = those_row p n a (n - a) (record {
  before = λ k l h. low k h l;
  among = λ k l h. high k (omega arith) l;
  after = λ k l h. absurd (omega arith);
  within = omega arith;
})

-- a transfer waits where it neither flies nor is over
waits_before : (over k : ℕ) (b : Bool) → k < over + one_if b → (not (b && k == over) && not (nat_lt k over)) ≡ false
waits_before over k true h = elim (cases_lt k over) [
  | inl low ↦ rw (lt-ltb k over low, ne_eqb k over (λ e. omega arith)) refl
  | inr high ↦ rw (eq-eqb k over (omega arith)) refl
]
waits_before over k false h = rw (lt-ltb k over (omega arith)) refl

waits_after : (over k : ℕ) (b : Bool) → over + one_if b ≤ k → (not (b && k == over) && not (nat_lt k over)) ≡ true
waits_after over k true h = rw (le-ltb k over (omega arith), ne_eqb k over (λ e. omega arith)) refl
waits_after over k false h = rw (le-ltb k over (omega arith)) refl

waits_is : (g : History) (t : Transfers) → AreOf g t → (k : ℕ) → waits g k ≡ (not (t.is_out && k == t.over) && not (nat_lt k t.over))
waits_is g t w k = ap (λ b. not b && not (ended g k)) (w.flies_is k) ∙ ap (λ b. not (t.is_out && k == t.over) && not b) (w.ended_is k)

pub waiting_is : WaitingIsKept
waiting_is g t w = ap (those (waits g)) w.made_is ∙ from_those (waits g) (length t.all) (first_waiting t) w.counts.within
    (λ k h l. waits_is g t w k ∙ waits_before t.over k t.is_out l)
    (λ k h l. waits_is g t w k ∙ waits_after t.over k t.is_out l)

pub queued_is : QueuedIsKept
queued_is Asleep Outward g t w = refl
queued_is Asleep Inward g t w = waiting_is g t w
queued_is phase lane g t w = waiting_is g t w

pub deferred_is : DeferredIsKept
deferred_is Asleep Outward g t w = waiting_is g t w
deferred_is Asleep Inward g t w = refl
deferred_is phase lane g t w = refl

pub returned_is : ReturnedIsKept
returned_is g t w = w.ended_is (returned g) ∙ ap (λ k. nat_lt k t.over) w.home_is

-- WHAT A STOP MARKS

-- where the lane doesn't defer: those that aren't over and aren't marked
open_below : (over k : ℕ) (b m : Bool) → k < over → ((b && k == over || (true && (not (b && k == over) && not (nat_lt k over)))) && m) ≡ false
open_below over k true m h = rw (lt-ltb k over h, ne_eqb k over (λ e. omega arith)) refl
open_below over k false m h = rw (lt-ltb k over h) refl

open_above : (over k : ℕ) (b m : Bool) → over ≤ k → ((b && k == over || (true && (not (b && k == over) && not (nat_lt k over)))) && m) ≡ m
open_above over k true m h = rw (le-ltb k over h) (go (k == over))
  where
    go : (c : Bool) → ((c || (true && (not c && true))) && m) ≡ m
    go true = refl
    go false = refl
open_above over k false m h = rw (le-ltb k over h) refl

is_open : (g : History) (t : Transfers) → AreOf g t → (d : Bool) (k : ℕ)
    → ((flies g k || (not d && waits g k)) && not (is_some (mark g k)))
    ≡ ((t.is_out && k == t.over || (not d && (not (t.is_out && k == t.over) && not (nat_lt k t.over)))) && not (is_some (mark g k)))
is_open g t w d k =
    ap (λ b. (b || (not d && waits g k)) && not (is_some (mark g k))) (w.flies_is k)
    ∙ ap (λ b. (t.is_out && k == t.over || (not d && b)) && not (is_some (mark g k))) (waits_is g t w k)

marked_low : (g : History) (t : Transfers) → AreOf g t → (k : ℕ) → t.over ≤ k → k < length t.all → not (is_some (mark g k)) ≡ not (nat_lt k t.marked)
marked_low g t w k low high = ap not (w.marked_below k low high)

plain_unmarked : (g : History) (t : Transfers) → AreOf g t
    → those (λ k. (flies g k || (not false && waits g k)) && not (is_some (mark g k))) (made g) ≡ serials_from t (first_unmarked t)
plain_unmarked g t w = ap (those _) w.made_is ∙ from_those _ (length t.all) (max t.over t.marked) within below above
  where
    within : max t.over t.marked ≤ length t.all
    within = let o : t.over + one_if t.is_out ≤ length t.all = w.counts.within in let m : t.marked ≤ length t.all = w.counts.marked_made in omega arith

    below : (k : ℕ) → k < length t.all → k < max t.over t.marked → ((flies g k || (not false && waits g k)) && not (is_some (mark g k))) ≡ false
    below k h l = is_open g t w false k ∙ elim (cases_lt k t.over) [
      | inl low ↦ open_below t.over k t.is_out (not (is_some (mark g k))) low
      | inr high ↦ open_above t.over k t.is_out (not (is_some (mark g k))) high ∙ marked_low g t w k high h ∙ ap not (lt-ltb k t.marked (omega arith))
    ]

    above : (k : ℕ) → k < length t.all → max t.over t.marked ≤ k → ((flies g k || (not false && waits g k)) && not (is_some (mark g k))) ≡ true
    above k h l =
        let high : t.over ≤ k = omega arith in
        is_open g t w false k ∙ open_above t.over k t.is_out (not (is_some (mark g k))) high ∙ marked_low g t w k high h ∙ ap not (le-ltb k t.marked (omega arith))

-- where it defers: the one that flies, unless it is marked
flies_alone : (k over : ℕ) (b m n : Bool) → (k ≡ over → m ≡ n) → ((b && k == over || false) && m) ≡ (b && n && k == over)
flies_alone k over false m n e = refl
flies_alone k over true m n e = elim (cases_eq k over) [
  | inl same ↦ rw (eq-eqb k over same, e same) (go n)
  | inr apart ↦ rw (ne_eqb k over apart) (go' n)
]
  where
    go : (c : Bool) → c ≡ (c && true)
    go true = refl
    go false = refl

    go' : (c : Bool) → false ≡ (c && false)
    go' true = refl
    go' false = refl

not_below : (k n : ℕ) → not (nat_lt k n) ≡ nat_le n k
not_below k n = elim (cases_lt k n) [ inl low ↦ rw (lt-ltb k n low, lt-leb n k low) refl | inr high ↦ rw (le-ltb k n high, le-leb n k high) refl ]

deferring_unmarked : (g : History) (t : Transfers) → AreOf g t
    → those (λ k. (flies g k || (not true && waits g k)) && not (is_some (mark g k))) (made g) ≡ unmarked_serials true t
deferring_unmarked g t w = ap (those _) w.made_is ∙ one_those _ (length t.all) t.over (t.is_out && nat_le t.marked t.over) (low t.is_out refl) only
  where
    low : (b : Bool) → t.is_out ≡ b → (b && nat_le t.marked t.over) ≡ true → t.over < length t.all
    low true e h = out_made t w.counts e
    low false e h = absurd (false≢true h)

    only : (k : ℕ) → k < length t.all → ((flies g k || (not true && waits g k)) && not (is_some (mark g k))) ≡ (t.is_out && nat_le t.marked t.over && k == t.over)
    only k h = is_open g t w true k ∙ flies_alone k t.over t.is_out (not (is_some (mark g k))) (nat_le t.marked t.over)
        (λ e. marked_low g t w k (omega (arith, e)) h ∙ not_below k t.marked ∙ ap (λ i. nat_le t.marked i) e)

pub unmarked_is : UnmarkedIsKept
unmarked_is Asleep Outward g t w = deferring_unmarked g t w
unmarked_is Asleep Inward g t w = plain_unmarked g t w
unmarked_is phase lane g t w = plain_unmarked g t w
