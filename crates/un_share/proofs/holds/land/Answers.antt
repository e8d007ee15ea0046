use Rattle.std.proofs.Common.{sym, ap, ◌∙◌, subst}
use Rattle.un_journal.specs.Flights.{Loses}
use Rattle.un_share.specs.Workers.{KnowsOnly}
use Rattle.un_share.proofs.Known.{known_at_entry, flying_at_entry, landed_left}
use Rattle.un_share.proofs.holds.land.Goals as goal

pub returns-clause-none_known : goal.returns-clause-none_known
returns-clause-none_known g c =
    let K = g.M.Machine in
    let e = c.enter-guard.ensures.view in
    let p = c.land_part.ensures in
    let r = K.carried_flight_of c.args.done in
    let flying = ap (λ v. v.flying) p.same.2 ∙ flying_at_entry _ _ _ _ _ e.1 e.2 in
    let known = ap (λ v. v.known) p.same.2 ∙ known_at_entry _ _ _ _ _ e.1 e.2 in
    landed_left r _ _ _ _ c.leave.ensures.known (subst (λ b. Loses r b (K.flights c.land_part.new.self.machine)) (sym flying) p.flights) (subst (KnowsOnly r) (sym known) c.requires.known)
