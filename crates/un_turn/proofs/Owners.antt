-- The two sums of the rule in words.
use Rattle.std.proofs.Common.{List, ◌∙◌, arith}
use Rattle.un_facts.specs.Numbers.{one_if}
use Rattle.un_journal.specs.declared.machine.FlightKey.{FlightKey}
use Rattle.un_journal.specs.Flights.{times}
use Rattle.un_journal.specs.History.{History}
use Rattle.un_turn.specs.Rule.{RuleInWords}
use Rattle.un_turn.proofs.Sums.{term_le, one_has}

pub in_words : {M S : Type 0} (script : M → S) (history : M → History) (flights : M → List FlightKey) → RuleInWords script history flights
in_words script history flights s t = (
  λ e. one_has (λ v. one_if v.holds) s.views (t.holders ∙ e),
  λ e j v at. omega (arith, term_le (λ u. one_if u.holds) s.views j v at, t.holders, e),
  λ x. (
    λ e. one_has (λ v. times x v.known) s.views (t.known x ∙ e),
    λ e j v at. omega (arith, term_le (λ u. times x u.known) s.views j v at, t.known x, e),
  ),
)
