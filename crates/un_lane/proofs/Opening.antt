-- A path whose done request came home, or whose first arrived request became current, stands for the lane with one line more.
use Rattle.std.proofs.Common.{◌≡◌, ℕ, zero, suc, ◌+◌, ◌-◌, ◌<◌, ◌≤◌, Bool, true, false, not, ◌&&◌, ◌||◌, ◌==◌, eqb, List, [], ◌∷◌, ◌++◌, length, map, Option, Some, None, is_some, ◌⊎◌, inl, inr, refl, sym, ap, ◌∙◌, subst, arith, nat_le, filter}
use Rattle.std.proofs.lemmas.Bool.{false≢true, cases_lt, cases_Bool, le-leb, and_parts}
use Rattle.std.proofs.lemmas.Bool.Decides.{nat_tests}
use Rattle.std.specs.List.{AllByRecursion}
use Rattle.std.proofs.lemmas.List.{length_push}
use Rattle.un_facts.proofs.Copies.{copies_last}
use Rattle.un_facts.specs.Lists.{copies, is_empty}
use Rattle.un_facts.specs.Numbers.{one_if}
use Rattle.un_frame.specs.declared.params.Lane.{Lane}
use Rattle.un_req.specs.Request.{Buffer, number_of}
use Rattle.un_endpoint.specs.Bus.{Bus}
use Rattle.un_endpoint.specs.EndOutcomes.{ComesHome, Opens, OpensNothing}
use Rattle.un_endpoint.specs.Ends.{Transmitter, Receiver, Opened as Current, opened_number}
use Rattle.un_journal.specs.declared.lines.Line.TheVariants.{TxHome, Opened}
use Rattle.un_journal.specs.declared.actions.Answer.{Answer}
use Rattle.un_journal.specs.LaneSteps.{Writes, Answers, bare, tx_done, rx_done, rx_done_at, open_first}
use Rattle.un_journal.specs.History.{History, made, those, ended, landed, opened, arrived, current, gave, serial_of as owner_of, returned, first, span, made_bytes, left_of, row_from, ends}
use Rattle.un_journal.specs.Sound.{IsSound}
use Rattle.un_journal.proofs.ForLane.{those_first, those_none, those_rest, fresh, owns_span, left_is, arrived_from, given_from, those_first_is, is_over, in_order, ended_is, ended_below}
use Rattle.un_lane.specs.Way.{Way}
use Rattle.un_lane.specs.Stands.{Stands, ArePlaced, IsText, finished, serial_of, opened_serial}
use Rattle.un_lane.proofs.Placing.{tx_moved, rx_moved}
use Rattle.un_lane.proofs.Serials.{apart, same_number}

-- DONE

ended_made : (g : History) → IsSound g → (j : ℕ) → ended g j ≡ true → j < made g
ended_made g sound j e = elim (cases_lt j (made g)) [
  | inl h ↦ h
  | inr h ↦ absurd (false≢true (sym (ended_is g sound j ∙ ap is_over (fresh g sound j h)) ∙ e))
]

le_means : (a b : ℕ) → nat_le a b ≡ true → a ≤ b
le_means a b h = grind (arith, nat_tests)

le_next : (k j : ℕ) → (j ≡ k → ⊥) → nat_le (k + 1) j ≡ nat_le k j
le_next k j ne = elim (cases_lt k j) [
  | inl h ↦ le-leb (k + 1) j (omega arith) ∙ sym (le-leb k j (omega arith))
  | inr h ↦ le_no (k + 1) j (omega arith) ∙ sym (le_no k j (omega (arith, ne)))
]
  where
    le_no : (a b : ℕ) → b < a → nat_le a b ≡ false
    le_no a b h = grind (arith, nat_tests)

pub first_done : (g : History) (k : ℕ) (ks : List ℕ) → IsSound g → finished g ≡ k ∷ ks → (k ≡ returned g) × (ended g k ≡ true)
first_done g k ks sound e =
    let f = those_first (λ j. ended g j && nat_le (returned g) j) (made g) k (ap first e) in
    let both = and_parts (ended g k) (nat_le (returned g) k) f.passes in
    let low : returned g ≤ k = le_means (returned g) k both.1 in
    let high : k < ends g = ended_below g sound k both.0 in
    let over : ended g (returned g) ≡ true = ended_is g sound (returned g) ∙ (in_order g sound (returned g)).below (omega arith) in (
      elim (cases_lt (returned g) k) [
        | inl h ↦ absurd (false≢true (sym (f.is_least (returned g) h) ∙ rw (over, le-leb (returned g) (returned g) (omega arith)) refl))
        | inr h ↦ omega arith
      ],
      both.0,
    )

pub none_done : (g : History) → IsSound g → finished g ≡ [] → ended g (returned g) ≡ false
none_done g sound e = elim (cases_Bool (ended g (returned g))) [
  | inl t ↦ absurd (false≢true (sym (those_none (λ j. ended g j && nat_le (returned g) j) (made g) e (returned g) (ended_made g sound (returned g) t))
      ∙ rw (t, le-leb (returned g) (returned g) (omega arith)) refl))
  | inr f ↦ f
]

pub tx_done_writes : (way : Way) (g : History) (t : Transmitter) (serial : ℕ) → Stands way g → ComesHome way.tx t serial → tx_done way.lane g ≡ Writes (bare (TxHome way.lane serial) ∷ [])
tx_done_writes way g t serial w h =
    let f = first_done g h.request.serial (map serial_of t.done) w.sound (w.ends.done_is ∙ ap (map serial_of) h.left) in
    let over : ended g (returned g) ≡ true = subst (λ i. ended g i ≡ true) f.0 f.1 in
    rw over (ap (λ i. Writes (bare (TxHome way.lane i) ∷ [])) (sym f.0 ∙ h.serial_is))

pub tx_done_answers : (way : Way) (g : History) → Stands way g → way.tx.done ≡ [] → tx_done way.lane g ≡ Answers Answer.Nothing
tx_done_answers way g w e = rw (none_done g w.sound (w.ends.done_is ∙ ap (map serial_of) e)) refl

home_placed : (lane : Lane) (t : Transmitter) (r : Receiver) (bus : Bus) (x : Buffer) (home' : List ℕ) (done' : List Buffer) → ArePlaced lane t r bus → t.done ≡ x ∷ done' → home' ≡ t.home ++ x.number ∷ []
    → ArePlaced lane (record t { home = home'; done = done' }) r bus
home_placed lane t r bus x home' done' p q h = assumption (
  p,
  tx_moved p (record t { home = home'; done = done' }) bus refl
      (λ n.
      let e : copies n (map number_of t.done) ≡ one_if (eqb n x.number) + copies n (map number_of done') = ap (λ xs. copies n (map number_of xs)) q in
      let d : copies n home' ≡ copies n t.home + one_if (eqb n x.number) = ap (copies n) h ∙ copies_last n t.home x.number in omega arith)
      (let e : length t.done ≡ suc (length done') = ap length q in
      let d : length home' ≡ length t.home + 1 = ap length h ∙ length_push t.home x.number in omega arith),
)

pub tx_done_stands : (way : Way) (g : History) (t : Transmitter) (serial : ℕ) → Stands way g → ComesHome way.tx t serial → Stands (record way { tx = t }) ((TxHome way.lane serial, []) ∷ g)
tx_done_stands way g t serial w h =
    let f = first_done g h.request.serial (map serial_of t.done) w.sound (w.ends.done_is ∙ ap (map serial_of) h.left) in
    let k : returned g ≡ serial = sym f.0 ∙ h.serial_is in
    let same : h.request.serial ≡ serial = h.serial_is in
    let over : ended g serial ≡ true = subst (λ i. ended g i ≡ true) same f.1 in
    let stands : Stands (record way { tx = record way.tx { home = t.home; done = t.done } }) ((TxHome way.lane serial, []) ∷ g) = record {
      sound = ((sym k, over), w.sound);
      placed = home_placed way.lane way.tx way.rx way.bus h.request t.home t.done w.placed h.left h.home_is;
      building = w.building;
      queues = w.queues;
      tries = assumption w.tries;
      ends = record {
        done_is = those_rest (λ j. ended g j && nat_le (returned g) j) (λ j. ended g j && nat_le (returned g + 1) j) h.request.serial
            (rw (f.0, le_past (returned g)) (and_no (ended g h.request.serial))) (λ j ne. ap (λ b. ended g j && b) (le_next (returned g) j (λ e. ne (e ∙ sym f.0)))) (made g) (map serial_of t.done)
            (w.ends.done_is ∙ ap (map serial_of) h.left);
        arrived_is = w.ends.arrived_is;
        current_is = w.ends.current_is;
        left_is = w.ends.left_is;
      };
      counts = record {
        tx = let e : length t.home ≡ length way.tx.home + 1 = ap length h.home_is ∙ length_push way.tx.home h.request.number in let s = w.counts.tx in omega (arith, s);
        rx = w.counts.rx;
      };
      texts = w.texts;
    } in
    subst (λ x. Stands (record way { tx = x }) ((TxHome way.lane serial, []) ∷ g)) (sym h.rest) stands
  where
    le_past : (n : ℕ) → nat_le (n + 1) n ≡ false
    le_past n = grind (arith, nat_tests)

    and_no : (b : Bool) → (b && false) ≡ false
    and_no true = refl
    and_no false = refl

-- OPENED

pub rx_done_writes : (way : Way) (g : History) (r : Receiver) (serial : ℕ) → Stands way g → Opens way.rx r serial → rx_done way.lane g ≡ Writes (bare (Opened way.lane serial) ∷ [])
rx_done_writes way g r serial w o =
    rw (w.ends.current_is ∙ ap opened_serial o.none, w.ends.arrived_is ∙ ap (map serial_of) o.left) (ap (λ i. Writes (bare (Opened way.lane i) ∷ [])) o.serial_is)

nothing_opened : (lane : Lane) (c : Option Current) (k : Option ℕ) (xs : List ℕ) → k ≡ opened_serial c → (is_some c ≡ true) ⊎ (xs ≡ []) → k ≡ None → open_first lane xs ≡ Answers Answer.Nothing
nothing_opened lane None k xs e (inl t) n = absurd (false≢true t)
nothing_opened lane (Some c) k xs e (inl t) n = absurd (let x : Some c.request.serial ≡ None = sym e ∙ n in cc)
nothing_opened lane c k xs e (inr t) n = rw t refl

pub rx_done_answers : (way : Way) (g : History) (r : Receiver) → Stands way g → OpensNothing way.rx r → rx_done way.lane g ≡ Answers Answer.Nothing
rx_done_answers way g r w o = go (current g) refl
  where
    empty : (way.rx.arrived ≡ []) → arrived g ≡ []
    empty e = w.ends.arrived_is ∙ ap (map serial_of) e

    why : (is_some way.rx.current ≡ true) ⊎ (arrived g ≡ [])
    why = elim o.why [ inl t ↦ inl t | inr t ↦ inr (empty t) ]

    go : (c : Option ℕ) → current g ≡ c → rx_done_at way.lane g c ≡ Answers Answer.Nothing
    go (Some k) e = refl
    go None e = nothing_opened way.lane way.rx.current (current g) (arrived g) w.ends.current_is why e

open_placed : (lane : Lane) (t : Transmitter) (r : Receiver) (bus : Bus) (x : Buffer) (arrived' : List Buffer) → ArePlaced lane t r bus → r.current ≡ None → r.arrived ≡ x ∷ arrived'
    → ArePlaced lane t (record r { arrived = arrived'; current = Some (record { request = x; next = x.from }) }) bus
open_placed lane t r bus x arrived' p none q = assumption (
  p,
  rx_moved p (record r { arrived = arrived'; current = Some (record { request = x; next = x.from }) }) bus refl
      (λ n.
      let e : copies n (map number_of r.arrived) ≡ one_if (eqb n x.number) + copies n (map number_of arrived') = ap (λ xs. copies n (map number_of xs)) q in
      let c : copies n (opened_number r.current) ≡ 0 = ap (λ o. copies n (opened_number o)) none in omega arith)
      (let e : length r.arrived ≡ suc (length arrived') = ap length q in
      let c : length (opened_number r.current) ≡ 0 = ap (λ o. length (opened_number o)) none in omega arith),
)

-- the first arrived transfer becomes the current one
module _ (l : Lane) (k : ℕ) (g : History) (sound : IsSound g) (ks : List ℕ) (none : current g ≡ None) (arr : arrived g ≡ k ∷ ks) where
  pub open_sound : IsSound ((Opened l k, []) ∷ g)
  open_sound = (arrived_from g k sound none (ap first arr), sound)

  pub open_arrived : arrived ((Opened l k, []) ∷ g) ≡ ks
  open_arrived = those_rest (λ j. landed g j && not (opened g j)) (λ j. landed g j && not ((k == j) || opened g j)) k
      (rw (same_number k) (and_no (landed g k))) (λ j ne. rw (apart k j ne) refl) (made g) ks arr
    where
      and_no : (b : Bool) → (b && false) ≡ false
      and_no true = refl
      and_no false = refl

  landed_here : (landed g k ≡ true) × (opened g k ≡ false)
  landed_here =
      let f = those_first (λ j. landed g j && not (opened g j)) (made g) k (ap first arr) in
      let both = and_parts (landed g k) (not (opened g k)) f.passes in
      (both.0, flip (opened g k) both.1)
    where
      flip : (b : Bool) → not b ≡ true → b ≡ false
      flip false e = refl
      flip true e = absurd (false≢true e)

  is_made : k < made g
  is_made = (those_first (λ j. landed g j && not (opened g j)) (made g) k (ap first arr)).is_below

  -- none of its numbers is given
  none_given : (a b : ℕ) → span g k ≡ Some (a, b) → (n : ℕ) → a ≤ n → n < b → gave g n ≡ false
  none_given a b s n lo hi = elim (cases_Bool (gave g n)) [
    | inl e ↦
        let from = given_from g sound n e in
        let mine : owner_of g n ≡ Some k = (owns_span g sound k (a, b) s).owns n lo hi in
        absurd (false≢true (sym landed_here.1 ∙ subst (λ i. opened g i ≡ true) (some_one from.serial k (sym from.is_owner ∙ mine)) from.was_opened))
    | inr e ↦ e
  ]
    where
      some_one : (m n : ℕ) → Some m ≡ Some n → m ≡ n
      some_one m n e = cc

  pub open_left : (a b : ℕ) → span g k ≡ Some (a, b) → left_of g k ≡ row_from a (b - a)
  open_left a b s = left_is g k a b s ∙ all_pass (b - a) a (omega arith) (omega arith)
    where
      all_pass : (m i : ℕ) → a ≤ i → i + m ≤ a + (b - a) → filter (λ n. not (gave g n)) (row_from i m) ≡ row_from i m
      all_pass zero i lo hi = refl
      all_pass (suc m) i lo hi = rw (none_given a b s i lo (omega arith), all_pass m (i + 1) (omega arith) (omega arith)) refl

  pub open_current : (a b : ℕ) → span g k ≡ Some (a, b) → a < b → current ((Opened l k, []) ∷ g) ≡ Some k
  open_current a b s h = those_first_is (λ j. ((k == j) || opened g j) && not (is_empty (left_of g j))) (made g) k
      (rw (same_number k, open_left a b s) (some_row (b - a) a (omega arith))) is_made
      (λ j low. rw (apart k j (λ e. omega arith)) (those_none (λ i. opened g i && not (is_empty (left_of g i))) (made g) (first_is_none (those (λ i. opened g i && not (is_empty (left_of g i))) (made g)) none) j (omega (arith, is_made))))
    where
      some_row : (m i : ℕ) → 0 < m → not (is_empty (row_from i m)) ≡ true
      some_row zero i z = absurd (omega arith)
      some_row (suc m) i z = refl

      first_is_none : (xs : List ℕ) → first xs ≡ None → xs ≡ []
      first_is_none [] e = refl
      first_is_none (x ∷ xs) e = absurd (cc)

pub rx_done_stands : (way : Way) (g : History) (r : Receiver) (serial : ℕ) → Stands way g → Opens way.rx r serial → Stands (record way { rx = r }) ((Opened way.lane serial, []) ∷ g)
rx_done_stands way g r serial w o =
    let none : current g ≡ None = w.ends.current_is ∙ ap opened_serial o.none in
    let arr : arrived g ≡ o.request.serial ∷ map serial_of r.arrived = w.ends.arrived_is ∙ ap (map serial_of) o.left in
    let texts = subst (AllByRecursion (IsText (span g) (made_bytes g))) o.left w.texts.arrived_texts in
    let more : o.request.from < o.request.to = w.texts.some o.request.serial o.request.from o.request.to texts.0.span_is in
    let stands : Stands (record way { rx = record way.rx { arrived = r.arrived; current = Some (record { request = o.request; next = o.request.from }) } }) ((Opened way.lane o.request.serial, []) ∷ g) = record {
      sound = open_sound way.lane o.request.serial g w.sound (map serial_of r.arrived) none arr;
      placed = open_placed way.lane way.tx way.rx way.bus o.request r.arrived w.placed o.none o.left;
      building = w.building;
      queues = w.queues;
      tries = assumption w.tries;
      ends = record {
        done_is = w.ends.done_is;
        arrived_is = open_arrived way.lane o.request.serial g w.sound (map serial_of r.arrived) none arr;
        current_is = open_current way.lane o.request.serial g w.sound (map serial_of r.arrived) none arr o.request.from o.request.to texts.0.span_is more;
        left_is = record { numbers = open_left way.lane o.request.serial g w.sound (map serial_of r.arrived) none arr o.request.from o.request.to texts.0.span_is; some = more };
      };
      counts = w.counts;
      texts = record {
        deferred_texts = w.texts.deferred_texts;
        queued_texts = w.texts.queued_texts;
        arrived_texts = texts.1;
        current_text = (texts.0, omega arith);
        flight_span = w.texts.flight_span;
        some = w.texts.some;
        whole = w.texts.whole;
      };
    } in
    subst (λ x. Stands (record way { rx = x }) ((Opened way.lane serial, []) ∷ g)) (sym o.rest) (subst (λ i. Stands (record way { rx = record way.rx { arrived = r.arrived; current = Some (record { request = o.request; next = o.request.from }) } }) ((Opened way.lane i, []) ∷ g)) o.serial_is stands)
