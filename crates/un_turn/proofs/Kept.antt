-- What a guard keeps, from the exchange that wins on.
use Rattle.std.proofs.Common.{◌≡◌, ℕ, ◌+◌, ◌<◌, ◌≤◌, Bool, true, false, List, [], ◌∷◌, ◌++◌, get_or, Option, Some, None, refl, sym, ap, ◌∙◌, subst, inl, inr, arith}
use Rattle.un_facts.specs.Numbers.{one_if}
use Rattle.atomic_table.specs.Table.{rest}
use Rattle.un_journal.specs.History.{History}
use Rattle.un_journal.specs.declared.machine.FlightKey.{FlightKey}
use Rattle.un_journal.specs.declared.machine.Transfer.{Transfer}
use Rattle.un_journal.specs.declared.got.Got.{Got}
use Rattle.un_journal.specs.declared.got.Got.TheVariants.{Part, Cut, Not}
use Rattle.un_turn.specs.declared.view.View.{View}
use Rattle.un_journal.specs.Flights.{times, same_flight, Gains, Loses, Takes}
use Rattle.un_turn.specs.Views.{StartsWith, MovesOne, KeepsMachine}
use Rattle.un_turn.specs.Steps.{Sat, Won, entered}
use Rattle.un_journal.proofs.Theorems.{same_flight-is, same_flight-refl}
use Rattle.un_turn.proofs.Flights.{without, times-append, times-without}
use Rattle.un_turn.proofs.Moves.{starts_refl, starts_trans}

-- a flight that was not there makes none stand twice
gains_single : (r x : FlightKey) (before after : List FlightKey) → Gains r before after → times x before ≤ 1 → times x after ≤ 1
gains_single r x before after gains single = go (same_flight x r) refl
  where
    go : (b : Bool) → same_flight x r ≡ b → times x after ≤ 1
    go true e = omega (arith, gains.0 x, ap one_if e, gains.1, ap (λ (f : FlightKey). times f before) (same_flight-is x r e))
    go false e = omega (arith, gains.0 x, ap one_if e, single)

module _ {M S : Type 0} (script : M → S) (history : M → History) (flights : M → List FlightKey) where
  pub kept_entered : (v : View S) (machine : M) → 0 < v.shares → v.script ≡ Some (script machine) → ((x : FlightKey) → times x v.known ≤ times x (flights machine)) → ((x : FlightKey) → times x (flights machine) ≤ 1)
      → KeepsMachine script history flights (entered v (history machine) (flights machine)) machine false
  kept_entered v machine some_share plan within single = record {
    holds = refl;
    some_share = some_share;
    plan = plan;
    grown = starts_refl (history machine);
    known = v.known;
    follows = record { one = inl refl; same = λ _. refl; count = λ x. refl };
    single = single;
    within = within;
    fresh = λ _. refl;
  }

  -- the machine is out of the slot that was won
  pub taken_out : (m n o : Sat M S) (taken : Option M) (machine : M) → Won script history flights m n → m.1 ≡ [] → 0 < m.0.shares → m.0.heard ≡ []
      → n.1 ≡ (0, taken) ∷ rest n.1 → o ≡ (n.0, (0, None) ∷ rest n.1) → taken ≡ Some machine
      → (o.1 ≡ (0, None) ∷ []) × (o.0.heard ≡ []) × KeepsMachine script history flights o.0 machine false
  taken_out m n o taken machine won empty some_share none_heard has after is =
      let x = won.0 in
      let held : n.1 ≡ (0, Some x) ∷ m.1 = ap (λ (y : Sat M S). y.1) won.1 in
      let others : rest n.1 ≡ [] = ap rest held ∙ empty in
      let same : Some machine ≡ Some x = sym is ∙ ap (λ (l : List (ℕ × Option M)). (get_or l 0 (0, None)).1) (sym has ∙ held) in
      let same' : x ≡ machine = cc in
      let view : o.0 ≡ entered m.0 (history x) (flights x) = ap (λ (y : Sat M S). y.0) after ∙ ap (λ (y : Sat M S). y.0) won.1 in (
        ap (λ (y : Sat M S). y.1) after ∙ ap (λ (l : List (ℕ × Option M)). (0, None) ∷ l) others,
        ap (λ (y : View S). y.heard) view ∙ none_heard,
        subst (λ (y : View S). KeepsMachine script history flights y machine false) (sym view)
            (subst (λ (y : M). KeepsMachine script history flights (entered m.0 (history x) (flights x)) y false) same' (kept_entered m.0 x some_share won.2 won.4 won.5)),
      )

  module _ (v : View S) (m n : M) (kept : KeepsMachine script history flights v m false) (same : script n ≡ script m) (more : History) (grows : history n ≡ history m ++ more) where
    grown' : StartsWith (history n) v.entry
    grown' = starts_trans (history n) (history m) v.entry (more, grows) kept.grown

    with_known : (known : List FlightKey) → MovesOne (flights m) (flights n) → (flights n ≡ flights m → known ≡ v.known) → ((x : FlightKey) → times x known + times x (flights m) ≡ times x v.known + times x (flights n)) → ((x : FlightKey) → times x (flights n) ≤ 1) → KeepsMachine script history flights v n true
    with_known known one stays follows single = record {
      holds = kept.holds;
      some_share = kept.some_share;
      plan = kept.plan ∙ ap Some (sym same);
      grown = grown';
      known = known;
      follows = record { one = subst (λ (l : List FlightKey). MovesOne l (flights n)) (kept.fresh refl) one; same = λ e. stays (e ∙ sym (kept.fresh refl)); count = λ x. omega (arith, follows x, ap (times x) (kept.fresh refl)) };
      single = single;
      within = kept.within;
      fresh = λ e. absurd (cc);
    }

    pub kept_taken : {P : Type 0} (flight_of : P → FlightKey) (got : Got P) (named : Got Transfer) → Takes flight_of got named (flights m) (flights n) → KeepsMachine script history flights v n true
    kept_taken flight_of (Part p) named takes =
        let r : FlightKey = flight_of p in
        with_known (v.known ++ r ∷ []) (inr (inl (r, takes.1))) (λ e. absurd (omega (arith, ap (times r) e, takes.1.0 r, ap one_if (same_flight-refl r)))) (λ x. omega (arith, times-append x v.known (r ∷ []), takes.1.0 x)) (λ x. gains_single r x (flights m) (flights n) takes.1 (kept.single x))
    kept_taken flight_of Cut named takes = with_known v.known (inl takes.1) (λ _. refl) (λ x. ap (λ (l : List FlightKey). times x v.known + times x l) (sym takes.1)) (λ x. subst (λ (l : List FlightKey). times x l ≤ 1) (sym takes.1) (kept.single x))
    kept_taken flight_of (Not a) named takes = with_known v.known (inl takes.1) (λ _. refl) (λ x. ap (λ (l : List FlightKey). times x v.known + times x l) (sym takes.1)) (λ x. subst (λ (l : List FlightKey). times x l ≤ 1) (sym takes.1) (kept.single x))

    pub kept_landed : (r : FlightKey) → 0 < times r v.known → Loses r (flights m) (flights n) → KeepsMachine script history flights v n true
    kept_landed r knows loses = with_known (without r v.known) (inr (inr (r, loses))) (λ e. absurd (omega (arith, ap (times r) e, loses r, ap one_if (same_flight-refl r)))) (λ x. omega (arith, times-without r v.known knows x, loses x)) (λ x. omega (arith, loses x, kept.single x))
