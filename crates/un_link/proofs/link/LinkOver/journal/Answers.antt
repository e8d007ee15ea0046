use Rattle.std.proofs.Common.{subst}
use Rattle.un_link.specs.Lawful.{AtEveryMoment}
use Rattle.un_link.specs.Link.{Holds, Link}
use Rattle.un_link.proofs.Lawfully.{lawful_moments}
use Rattle.un_link.proofs.Refusing.{requests_kept}
use Rattle.un_link.proofs.link.LinkOver.journal.Goals as goal

pub returns-clause-moments : goal.returns-clause-moments
returns-clause-moments g c =
    subst (λ (l : Link). AtEveryMoment l.script l.log.history) c.self.view_is (lawful_moments c.self.inside.shared.script c.self.inside.shared.journal.history c.self.invariant.logged.in_range c.self.invariant.logged.agree)

pub returns-clause-requests : goal.returns-clause-requests
returns-clause-requests g c =
    let holds : Holds _ = subst Holds c.self.view_is c.self.invariant in
    (requests_kept _ _ holds.out_keeps.stands, requests_kept _ _ holds.in_keeps.stands)
