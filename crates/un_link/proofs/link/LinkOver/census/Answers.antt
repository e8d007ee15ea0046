use Rattle.std.proofs.Common.{arith, ◌≤◌, ◌<◌, sym, ◌∙◌, ap, subst}
use Rattle.un_facts.specs.Numbers.{one_if}
use Rattle.un_journal.specs.History.{gave, past, taken}
use Rattle.un_link.specs.Link.{Holds, Link}
use Rattle.un_link.proofs.Places.{in_path_few, filled_is, census_adds, census_names, census_none, past_census}
use Rattle.un_link.proofs.link.LinkOver.census.Goals as goal

pub returns-then-number-accepted-clause-counts : goal.returns-then-number-accepted-clause-counts
returns-then-number-accepted-clause-counts g c =
    let k = subst Holds c.self.view_is c.self.invariant in
    let high : taken (past c.args.lane c.args.self.now.log.history) ≤ c.args.number = omega (arith, c.accepted.ensures, c.if-number-accepted.true) in
    past_census c.args.self.now.script c.args.self.now.log.history c.args.lane c.args.number c.path_census-census.result k.logged.legal c.path_census-census.ensures high
    ∙ sym (census_none c.args.self.now.script c.args.self.now.log.history c.args.lane c.args.number k.logged.legal high)

pub returns-then-number-accepted-clause-nowhere : goal.returns-then-number-accepted-clause-nowhere
returns-then-number-accepted-clause-nowhere g c =
    let k = subst Holds c.self.view_is c.self.invariant in
    λ high. past_census c.args.self.now.script c.args.self.now.log.history c.args.lane c.args.number c.path_census-census.result k.logged.legal c.path_census-census.ensures high

pub filled-requires : goal.filled-requires
filled-requires g c =
    let k = subst Holds c.self.view_is c.self.invariant in
    let low : c.args.number < taken (past c.args.lane c.args.self.now.log.history) = omega (arith, c.accepted.ensures, c.if-number-accepted.false) in
    in_path_few c.args.self.now.script c.args.self.now.log.history c.args.lane c.args.number c.count-given.result c.path_census-census.result k.logged.legal low c.path_census-census.ensures
    (c.count-given.ensures ∙ (ap one_if c.was_given.ensures ∙ ap (λ (l : Link). one_if (gave (past c.args.lane l.log.history) c.args.number)) c.self.view_is))

pub returns-clause-counts : goal.returns-clause-counts
returns-clause-counts g c =
    let k = subst Holds c.self.view_is c.self.invariant in
    let low : c.args.number < taken (past c.args.lane c.args.self.now.log.history) = omega (arith, c.accepted.ensures, c.if-number-accepted.false) in
    c.filled.ensures
    ∙ filled_is c.args.self.now.script c.args.self.now.log.history c.args.lane c.args.number c.count-given.result c.path_census-census.result k.logged.legal low c.path_census-census.ensures
    (c.count-given.ensures ∙ (ap one_if c.was_given.ensures ∙ ap (λ (l : Link). one_if (gave (past c.args.lane l.log.history) c.args.number)) c.self.view_is))

pub returns-clause-adds_up : goal.returns-clause-adds_up
returns-clause-adds_up g c =
    let k = subst Holds c.self.view_is c.self.invariant in
    λ low. census_adds c.args.self.now.script c.args.self.now.log.history c.args.lane c.args.number c.filled.result k.logged.legal (returns-clause-counts g c) low

pub returns-clause-names : goal.returns-clause-names
returns-clause-names g c =
    let k = subst Holds c.self.view_is c.self.invariant in
    λ low. census_names c.args.self.now.script c.args.self.now.log.history c.args.lane c.args.number c.filled.result k.logged.legal (returns-clause-counts g c) low
